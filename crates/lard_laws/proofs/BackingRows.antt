-- What the records of a move say of requests, list by list.
use Rattle.std.proofs.Common.{◌≡◌, ℕ, List, [], ◌∷◌, ◌++◌, map, refl, sym, ap, ◌∙◌, subst, append-nil, append_assoc}
use Rattle.std.specs.List.{slice_get}
use Rattle.lard_law_view.specs.Prelude.{Body, Conn, EachRow, FilesAt, IsPrefix, Letter, Move, Node, Place, Rec, Seen, Tale, Verdict, grown, letter, letters_of, seen_in, tale_at, tale_of, tale_step, timer_rows, told_on, verdicts}
use Rattle.lard_answers.proofs.Growing.{verdicts-grow}
use Rattle.lard_laws.specs.BackingRequests.{IsFor}
use Rattle.lard_laws.specs.BackingState.{BodyFor, FetchesFor, LetterFor, MayBack, SaysFor}
use Rattle.lard_law_connections.proofs.BytesLaw.{IsHead, heads-stand}
use Rattle.lard_law_view.specs.Carry.{TellsBy}
use Rattle.lard_law_view.specs.View.{sending}
use Rattle.lard_law_view.proofs.Fine.{IsItsOwn}
use Rattle.lard_law_view.proofs.Rows.{move-lawful, tale_before, tale_said}
use Rattle.lard_law_view.proofs.Saying.{GaveAt, NotedAt}
use Rattle.lard_law_view.proofs.Timers.{IsTimerAt, timer_rows-are}
use Rattle.lard_laws.specs.WaysState.{marks_at, marks_of}
use Rattle.lard_laws.specs.Ways.{WayMarks}
use Rattle.lard_laws.proofs.WaysGoods.{get-front}
use Rattle.lard_laws.proofs.WaysMarking.{IsOwnMark, IsPlain, mark, marked, marks-after, heads-marks, noted-own, one-step, plain-told, sends-plain, told-marks}
use Rattle.lard_history.proofs.Each.{Each, Each-append, Each-weaker}
use Rattle.lard_journal.specs.declared.rec.Rec.TheVariants as rec
use Rattle.lard_message.specs.declared.message.Body.TheVariants as body
use Rattle.lard_law_view.proofs.OfKinds.{each-tells, of-gift, of-gifts, of-timer}

-- ---- as the client writes on

module _ (files : FilesAt) (q z : List ℕ) where
  -- a request is for its path still
  pub for-more : (r : ℕ) (path : List ℕ) → IsFor files q r path → IsFor files (q ++ z) r path
  for-more r path h =
      let g : IsPrefix (verdicts q) (verdicts (q ++ z)) = verdicts-grow q z in
      record {
        before = h.before;
        number = h.number;
        verdict = h.verdict;
        is = ap (λ (vs : List Verdict). slice_get vs h.before) g.1 ∙ get-front (verdicts q) g.0 h.before h.verdict h.is;
        good = h.good;
      }

  body-more : (m n : ℕ) (b : Body) → BodyFor files q m n b → BodyFor files (q ++ z) m n b
  body-more m n (body.Fetch r path) h = (for-more r path h.0, h.1, h.2)
  body-more m n _ h = tt

  says-more : (from to : Place) (bytes : List ℕ) → SaysFor files q from to bytes → SaysFor files (q ++ z) from to bytes
  says-more (Node m) (Node n) bytes h = λ msg d. body-more m n msg.body (h msg d)
  says-more _ _ bytes h = tt

  pub letters-more : (ls : List Letter) → Each (LetterFor files q) ls → Each (LetterFor files (q ++ z)) ls
  letters-more ls h = Each-weaker (LetterFor files q) (LetterFor files (q ++ z)) (λ l g. says-more l.from l.to l.bytes g) ls h

-- it only writes on
abbrev pub WritesOn : List ℕ → List ℕ → Type 0
WritesOn q r = (z : List ℕ) × (r ≡ q ++ z)

mark-on : (m : WayMarks) (r : Rec) → WritesOn m.wrote (mark m r).wrote
mark-on m (rec.Wrote d bytes) = (bytes, refl)
mark-on m _ = ([], sym (append-nil m.wrote))

pub marked-on : (m : WayMarks) (rs : List Rec) → WritesOn m.wrote (marked m rs).wrote
marked-on m [] = ([], sym (append-nil m.wrote))
marked-on m (r ∷ rs) =
    let first = mark-on m r in
    let later = marked-on (mark m r) rs in
    (first.0 ++ later.0, later.1 ∙ ap (λ (l : List ℕ). l ++ later.0) first.1 ∙ append_assoc m.wrote first.0 later.0)

pub letters-on : (files : FilesAt) (q r : List ℕ) (ls : List Letter) → WritesOn q r → Each (LetterFor files q) ls → Each (LetterFor files r) ls
letters-on files q r ls on h = subst (λ (s : List ℕ). Each (LetterFor files s) ls) (sym on.1) (letters-more files q on.0 ls h)

-- ---- records, one after another

abbrev pub Backs : FilesAt → WayMarks → List Rec → Type 0
Backs files m [] = Unit {0}
Backs files m (r ∷ rs) = MayBack files m r × Backs files (mark m r) rs

pub backs-append : (files : FilesAt) (m : WayMarks) (xs ys : List Rec) → Backs files m xs → Backs files (marked m xs) ys → Backs files m (xs ++ ys)
backs-append files m [] ys h k = k
backs-append files m (x ∷ xs) ys h k = (h.0, backs-append files (mark m x) xs ys h.1 k)

-- ---- in the tale

module _ (files : FilesAt) (c : ℕ) where
  abbrev pub MayTell : Tale → Rec → Type 0
  MayTell t r = MayBack files (marks_of t) r

  told-backs : (t : Tale) (rs : List Rec) → Each (IsOwnMark c) rs → Backs files (marks_of t) rs → TellsBy MayTell c t rs
  told-backs t [] own h = tt
  told-backs t (r ∷ rs) own h = (h.0, told-backs (tale_step c t r) rs own.1 (subst (λ (m : WayMarks). Backs files m rs) (sym (one-step c t r own.0)) h.1))

  -- what is sent
  sends-tell : (place : Place) (t : Tale) (ss : List (Place × List ℕ)) → Each (LetterFor files t.wrote) (map (letter place) ss) → TellsBy MayTell c t (map (sending place) ss)
  sends-tell place t [] h = tt
  sends-tell place t (s ∷ ss) h = (h.0, sends-tell place (tale_step c t (sending place s)) ss h.1)

  gave-tells : (place : Place) (d : ℕ) (t : Tale) (rs : List Rec) → Each (GaveAt place d) rs → TellsBy MayTell c t rs
  gave-tells place d = each-tells (GaveAt place d) MayTell (λ t. of-gift (MayTell t) (λ p e epoch. tt) place d) c

  timers-tell : (place : Place) (d : ℕ) (t : Tale) (rs : List Rec) → Each (IsTimerAt place d) rs → TellsBy MayTell c t rs
  timers-tell place d = each-tells (IsTimerAt place d) MayTell (λ t. of-timer (MayTell t) (λ p e kind. (tt, tt)) place d) c

  -- what the connection sees of a record
  abbrev pub Mine : List Seen → Rec → Type 0
  Mine past r = MayTell (tale_of c past) r

heads-mine : (files : FilesAt) (c : ℕ) (past heads : List Seen) → Each IsHead heads → EachRow (Mine files c) past heads
heads-mine files c = heads-stand (Mine files c) (λ past i e. tt) (λ past d isn iss wnd mss. tt)

-- ---- a move

-- behind it each Fetch is of a request for its path, and all that it says may stand
abbrev pub IsBackedMove : FilesAt → Conn → Move → Type 0
IsBackedMove files x v = FetchesFor files (grown x v) × EachRow (Mine files x.c) x.seen (seen_in x v)

module _ (files : FilesAt) (x : Conn) (v : Move) (own : IsItsOwn x v) (heads : Each IsHead v.heads) where
  abbrev m : WayMarks
  m = marks_at x

  abbrev before : Tale
  before = tale_before x v

  abbrev segments : List Rec
  segments = map (sending v.place) v.said.segments

  abbrev noted : Tale
  noted = told_on x.c before v.said.notes

  ours : Each (IsOwnMark x.c) v.said.notes
  ours = Each-weaker (NotedAt v.place x.c) (IsOwnMark x.c) (noted-own v.place x.c) v.said.notes own.notes

  before-same : marks_of before ≡ m
  before-same = heads-marks x.c v.heads (tale_at x) heads

  noted-same : marks_of noted ≡ marked m v.said.notes
  noted-same = told-marks files x.c before v.said.notes ours ∙ ap (λ (k : WayMarks). marked k v.said.notes) before-same

  said-same : marks_of (tale_said x v before) ≡ marked m v.said.notes
  said-same = plain-told files x.c (told_on x.c noted segments) v.said.gave (of-gifts IsPlain (λ p d epoch. tt) v.place x.c v.said.gave own.gave)
      ∙ plain-told files x.c noted segments (sends-plain v.place v.said.segments) ∙ noted-same

  -- what was right before the move is right behind its notes
  on-notes : (k : WayMarks) → k ≡ marked m v.said.notes → WritesOn m.wrote k.wrote
  on-notes k e = let w = marked-on m v.said.notes in (w.0, ap (λ (n : WayMarks). n.wrote) e ∙ w.1)

  pub backed-move : Backs files m v.said.notes → Each (LetterFor files m.wrote) (map (letter v.place) v.said.segments) → Each (LetterFor files m.wrote) (map (letter v.place) v.said.messages) → FetchesFor files x → IsBackedMove files x v
  backed-move notes ss ms old = (
    letters-on files m.wrote (marks_at (grown x v)).wrote (x.letters ++ letters_of v) (on-notes (marks_at (grown x v)) (marks-after files x v own heads))
        (Each-append (LetterFor files m.wrote) x.letters (letters_of v) old (Each-append (LetterFor files m.wrote) (map (letter v.place) v.said.segments) (map (letter v.place) v.said.messages) ss ms)),
    move-lawful (MayTell files x.c) x v (heads-mine files x.c x.seen v.heads heads)
        (told-backs files x.c before v.said.notes ours (subst (λ (k : WayMarks). Backs files k v.said.notes) (sym before-same) notes))
        (sends-tell files x.c v.place noted v.said.segments (letters-on files m.wrote noted.wrote (map (letter v.place) v.said.segments) (on-notes (marks_of noted) noted-same) ss))
        (gave-tells files x.c v.place x.c (told_on x.c noted segments) v.said.gave own.gave)
        (sends-tell files x.c v.place (tale_said x v before) v.said.messages (letters-on files m.wrote (tale_said x v before).wrote (map (letter v.place) v.said.messages) (on-notes (marks_of (tale_said x v before)) said-same) ms))
        (timers-tell files x.c v.place x.c _ (timer_rows v.place x.c x.part v.part) (timer_rows-are v.place x.c x.part v.part)),
  )
