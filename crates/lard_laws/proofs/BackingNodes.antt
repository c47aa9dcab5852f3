-- The rules of a node, where it has the connection.
use Rattle.std.proofs.Common.{◌≡◌, ◌≤◌, ◌^◌, ◌+◌, ◌-◌, nat_lt, ℕ, List, [], ◌++◌, map, length, Some, None, ⊎_elim, refl, sym, ap, ◌∙◌, subst, append-nil}
use Rattle.std.proofs.lemmas.Bool.{cond_both}
use Rattle.lard_law_view.specs.Prelude.{Conn, ControlBlock, FilesAt, IsNodeEnv, IsPrefix, Node, NodeDeed, NodeEnv, NodePart, Progress, Rec, Seen, Setting, Station, Stay, Talk, Verdict, Work, after_timer, again_sent, came_for, come_on, goes_on, here, letter, named_records, node_does, node_fired, serving, serving_ready_of, spoken, timed, verdicts, with_work, work_of}
use Rattle.lard_laws.specs.BackingRequests.{IsFor}
use Rattle.lard_laws.specs.BackingState.{LetterFor, SaysFor}
use Rattle.lard_laws.proofs.BackingMoving.{Keeps, clients-for, each-named, makes, nodes-for}
use Rattle.lard_laws.proofs.BackingTurns.{AreAt, Clean, DeedBacks, EachNamed, IsSteady, SaidFor, all-named, batch-at, ends-back, goes-clean, steady-backs, works-back}
use Rattle.lard_law_connections.specs.BytesAgreement.{IsOpen}
use Rattle.lard_law_connections.proofs.BytesNodeTurns.{It, agrees-by, here-or, talk-of, ways-here}
use Rattle.lard_law_connections.proofs.BytesStays.{at-epoch}
use Rattle.lard_law_connections.proofs.PlacesLoops.{spoken-to}
use Rattle.lard_law_connections.proofs.PlacesTurns.{IsPlaced}
use Rattle.lard_laws.specs.WaysState.{marks_at}
use Rattle.lard_laws.specs.Ways.{WayMarks}
use Rattle.lard_history.proofs.Each.{Each, Each-append}
use Rattle.lard_law_view.proofs.EachNode.{told_first}
use Rattle.lard_rules.specs.Node.{Does, Drops, Says}
use Rattle.lard_law_view.proofs.EndpointSends.{ready-to}

-- ---- what a node does, as a move

-- nothing is said
pub still-makes : (files : FilesAt) (x : Conn) (n : ℕ) (heads : List Seen) (first : List Rec) → Each (IsSteady files (marks_at x)) first
    → Keeps files x (told_first first (node_does x n heads Drops))
still-makes files x n heads first steady =
    makes files x (told_first first (node_does x n heads Drops)) (steady-backs files (marks_at x) (first ++ []) (Each-append (IsSteady files (marks_at x)) first [] steady tt)) tt tt

module _ (env : NodeEnv) (x : Conn) (n : ℕ) (is_node : env.n ≡ n) where
  abbrev all_files : FilesAt
  all_files = env.serve.files

  abbrev wrote_now : List ℕ
  wrote_now = (marks_at x).wrote

  said-for : (ms : List (_ × List ℕ)) → Each (SaidFor env (marks_at x)) ms → Each (LetterFor all_files wrote_now) (map (letter (Node n)) ms)
  said-for ms h = nodes-for all_files wrote_now n ms (subst (λ (i : ℕ). Each (λ s. SaysFor all_files wrote_now (Node i) s.0 s.1) ms) is_node h)

  -- behind the record of a job that was completed, or of none
  pub deed-makes : (heads : List Seen) (first : List Rec) → Each (IsSteady all_files (marks_at x)) first → (d : NodeDeed) → DeedBacks env (marks_at x) d
      → Keeps all_files x (told_first first (node_does x n heads d))
  deed-makes heads first steady Drops b = still-makes all_files x n heads first steady
  deed-makes heads first steady (Says ms) b =
      makes all_files x (told_first first (node_does x n heads (Says ms))) (steady-backs all_files (marks_at x) (first ++ []) (Each-append (IsSteady all_files (marks_at x)) first [] steady tt)) tt (said-for ms b)
  deed-makes heads first steady (Does given) b = makes all_files x (told_first first (node_does x n heads (Does given)))
      (steady-backs all_files (marks_at x) (first ++ named_records given.1.notes)
      (Each-append (IsSteady all_files (marks_at x)) first (named_records given.1.notes) steady (each-named (IsSteady all_files (marks_at x)) given.1.notes b.notes)))
      (clients-for all_files wrote_now (Node n) env.serve.c given.1.segments b.segments) (said-for given.1.messages b.messages)

-- ---- the rules over what is in hand

module _ (env : NodeEnv) (m : WayMarks) (most : length m.wrote ≤ 2 ^ 30) (p : NodePart) where
  abbrev Backed : NodeDeed → Type 0
  Backed d = DeedBacks env m d

  pub fresh : (b : ControlBlock) (s : Stay) → Clean env m (work_of b s)
  fresh b s = record { notes = tt; wants = tt }

  pub came-clean : (f : Progress → Progress) (r : ℕ) (b : ControlBlock) (s : Stay) → Clean env m (came_for f r (work_of b s))
  came-clean f r b s = cond_both (nat_lt s.served r) (record (work_of b s) { batch = come_on f (r - (s.served + 1)) s.batch }) (work_of b s) (Clean env m) (λ t. record { notes = tt; wants = tt }) (λ t. fresh b s)

  pub goes-back : (part : NodePart) (k : Work) → Clean env m k → Backed (with_work env part [] (goes_on env k))
  goes-back part k h = works-back env m most part [] (goes_on env k) tt (goes-clean env m k h)

  pub fired-back : Each (SaidFor env m) (again_sent p) → (b : ControlBlock) (s : Stay)
      → Backed (Does (node_fired env p (b, s) (spoken env.serve (serving (after_timer b) s.served []) (serving_ready_of env.serve (after_timer b) (timed b)))))
  fired-back said b s =
      let w = serving (after_timer b) s.served [] in
      let before = serving_ready_of env.serve (after_timer b) (timed b) in
      ends-back env m most p (again_sent p) (work_of (after_timer b) s) (spoken env.serve w before) said refl (spoken-to env.serve w before (ready-to env.serve (after_timer b) (timed b))) (fresh (after_timer b) s)

-- ---- of one whose client opened

module _ (k : Setting) (small : k.stream ≤ 2 ^ 30) (x : Conn) (s : Station) (there : x.part.station ≡ Some s) (l : Talk) (pend : List Verdict) (o : IsOpen k.files x l pend s) (n epoch : ℕ) (env : NodeEnv) (is : IsNodeEnv k x.c n epoch env) where
  abbrev pub files : FilesAt
  files = env.serve.files

  abbrev pub m : WayMarks
  m = marks_at x

  abbrev pub p : NodePart
  p = x.part.nodes n

  abbrev pub IsIt : Type 0
  IsIt = It k small x s there l pend o n env epoch is env.epoch

  pub most-written : length m.wrote ≤ 2 ^ 30
  most-written = subst (λ (q : List ℕ). length q ≤ 2 ^ 30) (sym o.tale.wrote) (talk-of k small x s there l pend o n env epoch is).stream.most

  -- as many were answered as its stay counts
  pub hand-counted : IsIt → IsPlaced x → (y : ControlBlock × Stay) → here env.epoch p ≡ Some y → y.1.served ≡ length l.vs
  hand-counted it placed = at-epoch env l.w l.out l.vs l.was_reset pend (λ z. (y : ControlBlock × Stay) → z ≡ Some y → y.1.served ≡ length l.vs) (λ y e. let no : None ≡ Some y = e in absurd cc)
      (λ z held y e.
      let same : z ≡ y = cc in
      ap (λ (w : ControlBlock × Stay). w.1.served) (sym same) ∙ held.1.counted)
      p env.serve.c p.row (agrees-by k small x s there l pend o n env epoch is it placed) (ways-here k small x s there l pend o n env epoch is)

  -- the requests in hand of a stay stand behind those that were answered
  pub hand-at : IsIt → IsPlaced x → (y : ControlBlock × Stay) → here env.epoch p ≡ Some y → AreAt m.wrote (y.1.served + 1) y.1.batch
  hand-at it placed = at-epoch env l.w l.out l.vs l.was_reset pend (λ z. (y : ControlBlock × Stay) → z ≡ Some y → AreAt m.wrote (y.1.served + 1) y.1.batch) (λ y e. let no : None ≡ Some y = e in absurd cc)
      (λ z held y e.
      let same : z ≡ y = cc in
      subst (λ (w : ControlBlock × Stay). AreAt m.wrote (w.1.served + 1) w.1.batch) same
      (batch-at m.wrote l.vs z.1.batch (z.1.served + 1) (ap (λ (i : ℕ). i + 1) held.1.counted)
      (subst (λ (us : List Verdict). IsPrefix (l.vs ++ us) (verdicts m.wrote)) held.0 (subst (λ (q : List ℕ). IsPrefix (l.vs ++ pend) (verdicts q)) (append-nil l.w.bytes ∙ sym o.tale.wrote) (held.1.has_read.fronts [])))))
      p env.serve.c p.row (agrees-by k small x s there l pend o n env epoch is it placed) (ways-here k small x s there l pend o n env epoch is)

  pub hand-for : IsPlaced x → (y : ControlBlock × Stay) → here env.epoch p ≡ Some y → EachNamed files (IsFor files m.wrote) (y.1.served + 1) y.1.batch
  hand-for placed y e = ⊎_elim
      (λ (none : here env.epoch p ≡ None). let no : None ≡ Some y = sym none ∙ e in absurd cc)
      (λ (it : IsIt). all-named m.wrote files (y.1.served + 1) y.1.batch (hand-at it placed y e))
      (here-or k small x s there l pend o n env epoch is)
