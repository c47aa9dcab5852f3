-- What the records of a move tell of its connection's requests.
use Rattle.std.proofs.Common.{◌≡◌, ◌+◌, ℕ, List, [], ◌∷◌, ◌++◌, map, true, false, cond, Some, None, refl, sym, ap, ◌∙◌, subst, nat_eq, ⊎_elim}
use Rattle.std.specs.List.{fold}
use Rattle.std.proofs.lemmas.List.Sums.{fold-append}
use Rattle.lard_law_view.specs.Prelude.{Came, Conn, EachRow, FilesAt, Move, Packet, Place, Rec, Row, Seen, Tale, assignments_of, assignments_taken, grown, plain, seen_in, seen_of, seen_step, tale_at, tale_of, tale_step, timer_rows, told_on, whose}
use Rattle.lard_law_connections.proofs.BytesLaw.{IsHead, heads-stand}
use Rattle.lard_law_view.specs.Carry.{TellsBy}
use Rattle.lard_law_view.specs.View.{sending}
use Rattle.lard_law_view.proofs.Fine.{IsItsOwn}
use Rattle.lard_law_view.proofs.Rows.{grown-tale, move-lawful, tale_before, tale_said}
use Rattle.lard_law_view.proofs.Saying.{NotedAt, IsOf, note-of}
use Rattle.lard_laws.specs.WaysState.{marks_at, marks_of}
use Rattle.lard_laws.specs.Ways.{AnswersNextAt, IsNextGood, WayMarks}
use Rattle.lard_history.proofs.Each.{Each, Each-weaker}
use Rattle.lard_history.proofs.Seeing.{same_number}
use Rattle.lard_history.specs.Journal.{Assignments}
use Rattle.lard_journal.specs.declared.rec.Rec.TheVariants as rec
use Rattle.lard_law_view.proofs.OfKinds.{of-gifts, of-sends, of-timers}

-- ---- a record of the connection

-- what was assigned, as the journal counts it
abbrev pub chosen : WayMarks → Assignments
chosen m = record { list = m.assigned; fresh = m.fresh }

abbrev pub choosing : WayMarks → Assignments → WayMarks
choosing m s = record m { assigned = s.list; fresh = s.fresh }

abbrev pub mark : WayMarks → Rec → WayMarks
mark m (rec.Wrote d bytes) = record m { wrote = m.wrote ++ bytes }
mark m (rec.Served place d r code size way) = record m { served = m.served + 1 }
mark m (rec.Took place d epoch) = choosing m (assignments_taken place (chosen m))
mark m (rec.Released d) = record m { home = None }
mark m (rec.AssignedFirst d r path n add remove) = record m { assigned = m.assigned ++ (path, n) ∷ []; fresh = true; home = Some n }
mark m (rec.AssignedLater d r path n add size queue) = record m { assigned = m.assigned ++ (path, n) ∷ []; fresh = false }
mark m _ = m

abbrev pub marked : WayMarks → List Rec → WayMarks
marked m rs = fold mark m rs

abbrev pub MayMark : FilesAt → WayMarks → Rec → Type 0
MayMark files m (rec.Served place d r code size way) = AnswersNextAt files m place way
MayMark files m (rec.AssignedFirst d r path n add remove) = IsNextGood files m path
MayMark files m (rec.AssignedLater d r path n add size queue) = IsNextGood files m path
MayMark files m _ = Unit {0}

-- records, one after another
abbrev pub Rightly : FilesAt → WayMarks → List Rec → Type 0
Rightly files m [] = Unit {0}
Rightly files m (r ∷ rs) = MayMark files m r × Rightly files (mark m r) rs

pub rightly-append : (files : FilesAt) (m : WayMarks) (xs ys : List Rec) → Rightly files m xs → Rightly files (marked m xs) ys → Rightly files m (xs ++ ys)
rightly-append files m [] ys h k = k
rightly-append files m (x ∷ xs) ys h k = (h.0, rightly-append files (mark m x) xs ys h.1 k)

pub marked-append : (m : WayMarks) (xs ys : List Rec) → marked m (xs ++ ys) ≡ marked (marked m xs) ys
marked-append m xs ys = fold-append mark m xs ys

-- it tells nothing of requests
abbrev pub IsPlain : Rec → Type 0
IsPlain (rec.Wrote d bytes) = ⊥
IsPlain (rec.Served place d r code size way) = ⊥
IsPlain (rec.Took place d epoch) = ⊥
IsPlain (rec.Released d) = ⊥
IsPlain (rec.AssignedFirst d r path n add remove) = ⊥
IsPlain (rec.AssignedLater d r path n add size queue) = ⊥
IsPlain _ = Unit {0}

pub plain-mark : (m : WayMarks) (r : Rec) → IsPlain r → mark m r ≡ m
plain-mark m (rec.Wrote d bytes) h = absurd h
plain-mark m (rec.Served place d r code size way) h = absurd h
plain-mark m (rec.Took place d epoch) h = absurd h
plain-mark m (rec.Released d) h = absurd h
plain-mark m (rec.AssignedFirst d r path n add remove) h = absurd h
plain-mark m (rec.AssignedLater d r path n add size queue) h = absurd h
plain-mark m _ h = refl

plain-may : (files : FilesAt) (m : WayMarks) (r : Rec) → IsPlain r → MayMark files m r
plain-may files m (rec.Served place d r code size way) h = absurd h
plain-may files m (rec.AssignedFirst d r path n add remove) h = absurd h
plain-may files m (rec.AssignedLater d r path n add size queue) h = absurd h
plain-may files m _ h = tt

pub plain-marked : (m : WayMarks) (rs : List Rec) → Each IsPlain rs → marked m rs ≡ m
plain-marked m [] h = refl
plain-marked m (r ∷ rs) h = ap (λ (n : WayMarks). marked n rs) (plain-mark m r h.0) ∙ plain-marked m rs h.1

pub plain-rightly : (files : FilesAt) (m : WayMarks) (rs : List Rec) → Each IsPlain rs → Rightly files m rs
plain-rightly files m [] h = tt
plain-rightly files m (r ∷ rs) h = (plain-may files m r h.0, plain-rightly files (mark m r) rs h.1)

-- ---- in the tale

abbrev pub IsOwnMark : ℕ → Rec → Type 0
IsOwnMark c (rec.Wrote d bytes) = d ≡ c
IsOwnMark c (rec.Served place d r code size way) = d ≡ c
IsOwnMark c (rec.Took place d epoch) = d ≡ c
IsOwnMark c (rec.Released d) = d ≡ c
IsOwnMark c (rec.AssignedFirst d r path n add remove) = d ≡ c
IsOwnMark c (rec.AssignedLater d r path n add size queue) = d ≡ c
IsOwnMark c _ = Unit {0}

-- a note that names somebody is of the connection
names : (c d : ℕ) (r : Rec) → whose r ≡ Some d → IsOf c r → d ≡ c
names c d r of note = ⊎_elim
    (λ (k : (whose r ≡ Some c) × (plain r ≡ r)). let e : Some d ≡ Some c = sym of ∙ k.0 in cc)
    (λ (k : (whose r ≡ None) × ((q : ℕ) (net : List Packet) → seen_of q net r ≡ [])). let no : Some d ≡ None = sym of ∙ k.0 in absurd cc)
    note

pub noted-own : (place : Place) (c : ℕ) (r : Rec) → NotedAt place c r → IsOwnMark c r
noted-own place c (rec.Wrote d bytes) h = names c d (rec.Wrote d bytes) refl (note-of place c (rec.Wrote d bytes) h)
noted-own place c (rec.Served p d r code size way) h = names c d (rec.Served p d r code size way) refl (note-of place c (rec.Served p d r code size way) h)
noted-own place c (rec.Took p d epoch) h = names c d (rec.Took p d epoch) refl (note-of place c (rec.Took p d epoch) h)
noted-own place c (rec.Released d) h = names c d (rec.Released d) refl (note-of place c (rec.Released d) h)
noted-own place c (rec.AssignedFirst d r path n add remove) h = names c d (rec.AssignedFirst d r path n add remove) refl (note-of place c (rec.AssignedFirst d r path n add remove) h)
noted-own place c (rec.AssignedLater d r path n add size queue) h =
    names c d (rec.AssignedLater d r path n add size queue) refl (note-of place c (rec.AssignedLater d r path n add size queue) h)
noted-own place c _ h = tt

mine : (d c : ℕ) → d ≡ c → nat_eq d c ≡ true
mine d c e = subst (λ (n : ℕ). nat_eq n c ≡ true) (sym e) (same_number c)

pub one-step : (c : ℕ) (t : Tale) (r : Rec) → IsOwnMark c r → marks_of (tale_step c t r) ≡ mark (marks_of t) r
one-step c t (rec.Wrote d bytes) h = ap (λ b. record (marks_of t) { wrote = cond b (t.wrote ++ bytes) t.wrote }) (mine d c h)
one-step c t (rec.Served place d r code size way) h = ap (λ b. record (marks_of t) { served = cond b (t.served + 1) t.served }) (mine d c h)
one-step c t (rec.Took place d epoch) h = ap (λ b. choosing (marks_of t) (cond b (assignments_taken place (assignments_of t)) (assignments_of t))) (mine d c h)
one-step c t (rec.Released d) h = ap (λ b. record (marks_of t) { home = cond b None t.home }) (mine d c h)
one-step c t (rec.AssignedFirst d r path n add remove) h =
    ap (λ b. record (choosing (marks_of t) (cond b (record { list = t.assigned ++ (path, n) ∷ []; fresh = true }) (assignments_of t))) { home = cond b (Some n) t.home }) (mine d c h)
one-step c t (rec.AssignedLater d r path n add size queue) h =
    ap (λ b. choosing (marks_of t) (cond b (record { list = t.assigned ++ (path, n) ∷ []; fresh = false }) (assignments_of t))) (mine d c h)
one-step c t _ h = refl

module _ (files : FilesAt) (c : ℕ) where
  abbrev pub MayTell : Tale → Rec → Type 0
  MayTell t r = MayMark files (marks_of t) r

  pub told-marks : (t : Tale) (rs : List Rec) → Each (IsOwnMark c) rs → marks_of (told_on c t rs) ≡ marked (marks_of t) rs
  told-marks t [] own = refl
  told-marks t (r ∷ rs) own = told-marks (tale_step c t r) rs own.1 ∙ ap (λ (m : WayMarks). marked m rs) (one-step c t r own.0)

  told-rightly : (t : Tale) (rs : List Rec) → Each (IsOwnMark c) rs → Rightly files (marks_of t) rs → TellsBy MayTell c t rs
  told-rightly t [] own h = tt
  told-rightly t (r ∷ rs) own h = (h.0, told-rightly (tale_step c t r) rs own.1 (subst (λ (m : WayMarks). Rightly files m rs) (sym (one-step c t r own.0)) h.1))

  -- what is plain is of nobody
  plain-own : (r : Rec) → IsPlain r → IsOwnMark c r
  plain-own (rec.Wrote d bytes) h = absurd h
  plain-own (rec.Served place d r code size way) h = absurd h
  plain-own (rec.Took place d epoch) h = absurd h
  plain-own (rec.Released d) h = absurd h
  plain-own (rec.AssignedFirst d r path n add remove) h = absurd h
  plain-own (rec.AssignedLater d r path n add size queue) h = absurd h
  plain-own _ h = tt

  plain-tells : (t : Tale) (rs : List Rec) → Each IsPlain rs → TellsBy MayTell c t rs
  plain-tells t rs h = told-rightly t rs (Each-weaker IsPlain (IsOwnMark c) plain-own rs h) (plain-rightly files (marks_of t) rs h)

  pub plain-told : (t : Tale) (rs : List Rec) → Each IsPlain rs → marks_of (told_on c t rs) ≡ marks_of t
  plain-told t rs h = told-marks t rs (Each-weaker IsPlain (IsOwnMark c) plain-own rs h) ∙ plain-marked (marks_of t) rs h

  -- what the connection sees of a record
  abbrev pub Mine : List Seen → Rec → Type 0
  Mine past r = MayTell (tale_of c past) r

-- ---- what a move tells beside its notes

pub sends-plain : (place : Place) (ss : List (Place × List ℕ)) → Each IsPlain (map (sending place) ss)
sends-plain = of-sends IsPlain (λ k from to bytes. tt)

pub heads-marks : (c : ℕ) (heads : List Seen) (t : Tale) → Each IsHead heads → marks_of (fold (seen_step (tale_step c)) t heads) ≡ marks_of t
heads-marks c [] t h = refl
heads-marks c (Came l ∷ ss) t h = heads-marks c ss t h.1
heads-marks c (Row (rec.Event i e) ∷ ss) t h = heads-marks c ss (tale_step c t (rec.Event i e)) h.1
heads-marks c (Row (rec.Opened d isn iss wnd mss) ∷ ss) t h = heads-marks c ss (tale_step c t (rec.Opened d isn iss wnd mss)) h.1
heads-marks c (Row _ ∷ ss) t h = absurd h.0

heads-mine : (files : FilesAt) (c : ℕ) (past heads : List Seen) → Each IsHead heads → EachRow (Mine files c) past heads
heads-mine files c = heads-stand (Mine files c) (λ past i e. tt) (λ past d isn iss wnd mss. tt)

-- ---- a move

module _ (files : FilesAt) (x : Conn) (v : Move) (own : IsItsOwn x v) (heads : Each IsHead v.heads) where
  ours : Each (IsOwnMark x.c) v.said.notes
  ours = Each-weaker (NotedAt v.place x.c) (IsOwnMark x.c) (noted-own v.place x.c) v.said.notes own.notes

  before : Tale
  before = tale_before x v

  noted : Tale
  noted = told_on x.c before v.said.notes

  segments : List Rec
  segments = map (sending v.place) v.said.segments

  messages : List Rec
  messages = map (sending v.place) v.said.messages

  timers : List Rec
  timers = timer_rows v.place x.c x.part v.part

  gave : Each IsPlain v.said.gave
  gave = of-gifts IsPlain (λ p d epoch. tt) v.place x.c v.said.gave own.gave

  before-same : marks_of before ≡ marks_at x
  unfolding before
  before-same = heads-marks x.c v.heads (tale_at x) heads

  -- what is told behind its notes, and behind what it gives up
  pub noted-marks : marks_of (told_on x.c (tale_before x v) v.said.notes) ≡ marked (marks_at x) v.said.notes
  unfolding before
  noted-marks = told-marks files x.c before v.said.notes ours ∙ ap (λ (m : WayMarks). marked m v.said.notes) before-same

  pub said-marks : marks_of (tale_said x v (tale_before x v)) ≡ marked (marks_at x) v.said.notes
  unfolding before noted segments
  said-marks =
      plain-told files x.c (told_on x.c noted segments) v.said.gave gave
      ∙ plain-told files x.c noted segments (sends-plain v.place v.said.segments)
      ∙ noted-marks

  -- what is told behind a move
  pub marks-after : marks_at (grown x v) ≡ marked (marks_at x) v.said.notes
  unfolding before noted segments
  marks-after =
      ap marks_of (grown-tale x v own.messages)
      ∙ plain-told files x.c (told_on x.c noted segments) v.said.gave gave
      ∙ plain-told files x.c noted segments (sends-plain v.place v.said.segments)
      ∙ told-marks files x.c before v.said.notes ours
      ∙ ap (λ (m : WayMarks). marked m v.said.notes) before-same

  -- and what it tells may stand
  pub rows-mine : Rightly files (marks_at x) v.said.notes → EachRow (Mine files x.c) x.seen (seen_in x v)
  unfolding before noted segments messages timers
  rows-mine h = move-lawful (MayTell files x.c) x v (heads-mine files x.c x.seen v.heads heads)
      (told-rightly files x.c before v.said.notes ours (subst (λ (m : WayMarks). Rightly files m v.said.notes) (sym before-same) h))
      (plain-tells files x.c noted segments (sends-plain v.place v.said.segments))
      (plain-tells files x.c (told_on x.c noted segments) v.said.gave gave)
      (plain-tells files x.c (tale_said x v before) messages (sends-plain v.place v.said.messages))
      (plain-tells files x.c (told_on x.c (tale_said x v before) messages) timers (of-timers IsPlain (λ p d kind. (tt, tt)) v.place x.c x.part v.part))
