-- What is known of each request in hand at a node: the node was told where it is assigned, and what backs its way stands behind that.
use Rattle.std.proofs.Common.{◌≡◌, ◌+◌, ℕ, zero, suc, false, List, [], ◌∷◌, ◌++◌, length, Option, Some, None, Ok, refl, sym, ap, ◌∙◌, subst, arith, append_assoc, inl}
use Rattle.std.proofs.lemmas.List.Sums.{fold-append}
use Rattle.std.specs.List.{fold}
use Rattle.lard_law_view.specs.Prelude.{BackRow, Came, Entry, FilesAt, Has, Node, Packet, Progress, Rec, Seen, Stay, Via, assigned, come_on, decoded_message, gone, is_touched, net_of, net_step, seen_on, wrote}
use Rattle.lard_base.specs.declared.place.Via.TheVariants as via
use Rattle.lard_laws.proofs.BackingAssignments.{HasAssignment}
use Rattle.lard_laws.proofs.BackingLasting.{lasts-on}
use Rattle.lard_laws.specs.BackingRequests.{IsFor}
use Rattle.lard_laws.specs.BackingTold.{WasTold}
use Rattle.lard_laws.proofs.BackingMarks.{for-later, untouched-before}
use Rattle.lard_laws.proofs.BackingNumbers.{assigned-on}
use Rattle.lard_history.proofs.Seeing.{has-before, has-behind, own-append, seen_on-append}
use Rattle.lard_journal.specs.declared.rec.Rec.TheVariants as rec
use Rattle.lard_message.specs.declared.message.Body.TheVariants as body
use Rattle.lard_rules.specs.declared.stay.Progress.TheVariants as progress

-- ---- what was told stays told

pub assigned-past : (files : FilesAt) (w : List ℕ) (past rs : List Rec) (c r : ℕ) (ask : Option ℕ) → HasAssignment files w past c r ask → HasAssignment files w (past ++ rs) c r ask
assigned-past files w past rs c r ask h = record {
  before = h.before;
  its = h.its;
  behind = h.behind ++ rs;
  split = ap (λ (l : List Rec). l ++ rs) h.split ∙ append_assoc h.before (h.its ∷ h.behind) rs;
  made = h.made;
  assigns = h.assigns;
  place = h.place;
  lasts = lasts-on past rs c (length (assigned h.before c)) h.made h.lasts;
}

pub told-more : (past rs : List Rec) (n c epoch : ℕ) (ask : Option ℕ) → WasTold past n c epoch ask → WasTold (past ++ rs) n c epoch ask
told-more past rs n c epoch None h = has-before (rec.Took (Node n) c (record { 0 = epoch })) past rs h
told-more past rs n c epoch (Some number) h =
    let more : List Seen = seen_on c (net_of past) rs in
    record {
      nodes = h.nodes;
      bytes = h.bytes;
      came = record {
        before = h.came.before;
        later = h.came.later ++ more;
        split = own-append c past rs ∙ ap (λ (l : List Seen). l ++ more) h.came.split ∙ append_assoc h.came.before h.came.later more;
        took = h.came.took;
        saw = has-before _ h.came.later more h.came.saw;
      };
      reads = h.reads;
    }

-- ---- a request that started

-- It is for a path, as long as the schedule did not touch the connection. The node was told where it is assigned, and behind that this
-- is so of the journal.
pub record Started (files : FilesAt) (n c epoch : ℕ) (P : List ℕ → List Rec → List Rec → Type 0) (J : List Rec) (r : ℕ) : Type 0 where
  pub path : List ℕ
  pub ask : Option ℕ
  pub before : List Rec
  pub later : List Rec
  pub split : J ≡ before ++ later
  pub told : WasTold before n c epoch ask
  pub for : is_touched J c ≡ false → IsFor files (wrote J c) r path × HasAssignment files (wrote J c) before c r ask
  pub stands : P path before later

-- it stays so
abbrev pub Stays : (List ℕ → List Rec → List Rec → Type 0) → Type 0
Stays P = (path : List ℕ) (before later rs : List Rec) → P path before later → P path before (later ++ rs)

pub started-more : (files : FilesAt) (n c epoch : ℕ) (P : List ℕ → List Rec → List Rec → Type 0) → Stays P → (J rs : List Rec) (r : ℕ) → Started files n c epoch P J r → Started files n c epoch P (J ++ rs) r
started-more files n c epoch P stays J rs r h = record {
  path = h.path;
  ask = h.ask;
  before = h.before;
  later = h.later ++ rs;
  split = ap (λ (l : List Rec). l ++ rs) h.split ∙ append_assoc h.before h.later rs;
  told = h.told;
  for = λ u. let k = h.for (untouched-before J rs c u) in (for-later files J rs c r h.path k.0, assigned-on files J rs h.before c r h.path h.ask k.0 k.1);
  stands = stays h.path h.before h.later rs h.stands;
}

-- its job was queued, and read
pub record WasDone (n c r : ℕ) (path : List ℕ) (rs : List Rec) : Type 0 where
  pub before : List Rec
  pub later : List Rec
  pub split : rs ≡ before ++ later
  pub queued : Has (rec.Queued n n c r path) before
  pub other : List ℕ
  pub read : Has (rec.Read n n c r other) later

-- a content for it came from node m
pub record HasCome (n m c epoch r : ℕ) (seen : List Seen) : Type 0 where
  pub file : List ℕ
  pub bytes : List ℕ
  pub came : Has (Came (record { from = Node m; to = Node n; bytes = bytes })) seen
  pub reads : decoded_message bytes ≡ Ok (record { c = c; epoch = record { 0 = epoch }; body = body.Content r file })

module _ (files : FilesAt) (n c epoch : ℕ) where
  abbrev pub Anything : List ℕ → List Rec → List Rec → Type 0
  Anything path before later = Unit {0}

  abbrev pub IsHit : List ℕ → List Rec → List Rec → Type 0
  IsHit path before later = Has (rec.Hit n path) later

  abbrev pub IsQueued : ℕ → List ℕ → List Rec → List Rec → Type 0
  IsQueued r path before later = Has (rec.Queued n n c r path) later

  abbrev pub IsDone : ℕ → List ℕ → List Rec → List Rec → Type 0
  IsDone r path before later = WasDone n c r path later

  abbrev pub Comes : ℕ → ℕ → List ℕ → List Rec → List Rec → Type 0
  Comes m r path before later = HasCome n m c epoch r (seen_on c (net_of before) later)

  hit-stays : Stays IsHit
  hit-stays path before later rs h = has-before (rec.Hit n path) later rs h

  queued-stays : (r : ℕ) → Stays (IsQueued r)
  queued-stays r path before later rs h = has-before (rec.Queued n n c r path) later rs h

  done-stays : (r : ℕ) → Stays (IsDone r)
  done-stays r path before later rs h = record {
    before = h.before;
    later = h.later ++ rs;
    split = ap (λ (l : List Rec). l ++ rs) h.split ∙ append_assoc h.before h.later rs;
    queued = h.queued;
    other = h.other;
    read = has-before (rec.Read n n c r h.other) h.later rs h.read;
  }

  comes-stays : (m r : ℕ) → Stays (Comes m r)
  comes-stays m r path before later rs h =
      let l : Seen = Came (record { from = Node m; to = Node n; bytes = h.bytes }) in
      record { file = h.file; bytes = h.bytes; came = subst (Has l) (sym (seen_on-append c (net_of before) later rs)) (has-before l (seen_on c (net_of before) later) _ h.came); reads = h.reads }

  -- what is so of a content that is there by this way
  abbrev pub Ways : List Rec → ℕ → Via → Type 0
  Ways J r via.Own = Unit {0}
  Ways J r via.Cache = Started files n c epoch IsHit J r
  Ways J r via.Disk = Started files n c epoch (IsDone r) J r
  Ways J r (via.Node m) = Started files n c epoch (Comes m r) J r

  pub ways-more : (J rs : List Rec) (r : ℕ) (way : Via) → Ways J r way → Ways (J ++ rs) r way
  ways-more J rs r via.Own h = tt
  ways-more J rs r via.Cache h = started-more files n c epoch IsHit hit-stays J rs r h
  ways-more J rs r via.Disk h = started-more files n c epoch (IsDone r) (done-stays r) J rs r h
  ways-more J rs r (via.Node m) h = started-more files n c epoch (Comes m r) (comes-stays m r) J rs r h

  -- and of a request in hand
  abbrev pub Holds : List Rec → ℕ → Progress → Type 0
  Holds J r (progress.Ready way) = Ways J r way
  Holds J r progress.Named = Unit {0}
  Holds J r progress.Reading = Started files n c epoch (IsQueued r) J r
  Holds J r (progress.Awaited node) = Started files n c epoch Anything J r

  pub one-more : (J rs : List Rec) (r : ℕ) (p : Progress) → Holds J r p → Holds (J ++ rs) r p
  one-more J rs r (progress.Ready way) h = ways-more J rs r way h
  one-more J rs r progress.Named h = tt
  one-more J rs r progress.Reading h = started-more files n c epoch (IsQueued r) (queued-stays r) J rs r h
  one-more J rs r (progress.Awaited node) h = started-more files n c epoch Anything (λ path before later rs h. tt) J rs r h

  -- ---- what it awaits comes

  -- its job is read
  pub job-done : (J : List Rec) (r : ℕ) (path : List ℕ) → Holds J r progress.Reading → Holds (J ++ rec.Read n n c r path ∷ []) r (progress.Ready via.Disk)
  unfolding started-more queued-stays
  job-done J r path h =
      let read : Rec = rec.Read n n c r path in
      let more = started-more files n c epoch (IsQueued r) (queued-stays r) J (read ∷ []) r h in
      record {
        path = more.path;
        ask = more.ask;
        before = more.before;
        later = more.later;
        split = more.split;
        told = more.told;
        for = more.for;
        stands = record { before = h.later; later = read ∷ []; split = refl; queued = h.stands; other = path; read = inl refl };
      }

  -- its content comes
  pub content-come : (J first : List Rec) (m node r : ℕ) → HasCome n m c epoch r (seen_on c (net_of J) first) → Holds J r (progress.Awaited node) → Holds (J ++ first) r (progress.Ready (via.Node m))
  unfolding started-more
  content-come J first m node r come h =
      let more = started-more files n c epoch Anything (λ path before later rs h. tt) J first r h in
      let l : Seen = Came (record { from = Node m; to = Node n; bytes = come.bytes }) in
      let net : fold net_step (net_of h.before) h.later ≡ net_of J = sym (fold-append net_step [] h.before h.later) ∙ ap net_of (sym h.split) in
      record {
        path = more.path;
        ask = more.ask;
        before = more.before;
        later = more.later;
        split = more.split;
        told = more.told;
        for = more.for;
        stands = record {
          file = come.file;
          bytes = come.bytes;
          came = subst (Has l) (sym (seen_on-append c (net_of h.before) h.later first)) (has-behind l (seen_on c (net_of h.before) h.later) _ (subst (λ (ps : List Packet). Has l (seen_on c ps first)) (sym net) come.came));
          reads = come.reads;
        };
      }

-- ---- requests in hand

-- each of a batch, the first with number r
abbrev pub AreHeld : (ℕ → Progress → Type 0) → ℕ → List Entry → Type 0
AreHeld P r [] = Unit {0}
AreHeld P r (e ∷ es) = P r e.progress × AreHeld P (r + 1) es

-- one more comes behind them
pub pushed : (P : ℕ → Progress → Type 0) (r at : ℕ) (es : List Entry) (e : Entry) → at ≡ r + length es → AreHeld P r es → P at e.progress → AreHeld P r (es ++ e ∷ [])
pushed P r at [] e is h by = (subst (λ (i : ℕ). P i e.progress) (let same : at ≡ r = omega (arith, is) in same) by, tt)
pushed P r at (y ∷ es) e is h by = (h.0, pushed P (r + 1) at es e (omega (arith, is)) h.1 by)

module _ (P Q : ℕ → Progress → Type 0) (more : (r : ℕ) (p : Progress) → P r p → Q r p) where
  pub held-weaker : (r : ℕ) (es : List Entry) → AreHeld P r es → AreHeld Q r es
  held-weaker r [] h = tt
  held-weaker r (e ∷ es) h = (more r e.progress h.0, held-weaker (r + 1) es h.1)

  -- one of them comes so far
  pub come-held : (f : Progress → Progress) (r i at : ℕ) (es : List Entry) → r + i ≡ at → ((p : Progress) → P at p → Q at (f p)) → AreHeld P r es → AreHeld Q r (come_on f i es)
  come-held f r i at [] is by h = tt
  come-held f r zero at (e ∷ es) is by h =
      let same : at ≡ r = omega (arith, is) in
      (subst (λ (n : ℕ). Q n (f e.progress)) same (by e.progress (subst (λ (n : ℕ). P n e.progress) (sym same) h.0)), held-weaker (r + 1) es h.1)
  come-held f r (suc i) at (e ∷ es) is by h = (more r e.progress h.0, come-held f (r + 1) i at es (omega (arith, is)) by h.1)

-- ---- a stay

-- the epoch in which a node has it
abbrev pub epoch_by : Option BackRow → ℕ
epoch_by o = elim o [ None ↦ 0 | Some row ↦ row.epoch.0 ]

module _ (files : FilesAt) (n c : ℕ) where
  pub batch-more : (epoch : ℕ) (J rs : List Rec) (r : ℕ) (es : List Entry) → AreHeld (Holds files n c epoch J) r es → AreHeld (Holds files n c epoch (J ++ rs)) r es
  batch-more epoch J rs r es h = held-weaker (Holds files n c epoch J) (Holds files n c epoch (J ++ rs)) (λ r p. one-more files n c epoch J rs r p) r es h

  abbrev pub StayHits : List Rec → Option BackRow → Option Stay → Type 0
  StayHits J row None = Unit {0}
  StayHits J row (Some s) = AreHeld (Holds files n c (epoch_by row) J) (s.served + 1) s.batch

  pub stay-more : (J rs : List Rec) (row : Option BackRow) (o : Option Stay) → StayHits J row o → StayHits (J ++ rs) row o
  stay-more J rs row None h = tt
  stay-more J rs row (Some s) h = batch-more (epoch_by row) J rs (s.served + 1) s.batch h

  -- its end is acknowledged
  pub gone-hits : (J : List Rec) (row : Option BackRow) (o : Option Stay) → StayHits J row o → StayHits J (gone row) o
  gone-hits J None o h = h
  gone-hits J (Some row) None h = tt
  gone-hits J (Some row) (Some s) h = h
