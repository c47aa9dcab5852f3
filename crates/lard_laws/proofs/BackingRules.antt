-- Each rule leaves what is said of a connection's requests right, so it is in every run.
use Rattle.std.proofs.Common.{◌≡◌, ◌≤◌, ◌^◌, ℕ, false, List, [], ◌∷◌, ◌++◌, ◌+◌, length, refl, sym, ◌∙◌, subst, Ok}
use Rattle.lard_base.proofs.Usable.{usable}
use Rattle.lard_law_view.specs.Prelude.{AreSent, Client, ClientRules, Completed, Config, Conn, ControlBlock, EachRow, FilesAt, FrontRules, Guarded, IsGuardedLaw, IsNodeEnv, MayRestOn, Move, Node, NodeDeed, NodeEnv, NodeGets, NodePart, NodeRules, OfEach, Place, Rec, Seen, Setting, Stay, Untouched, UntouchedRules, Work, after_timer, again_sent, brought_said, came_for, come_progress, config_check, content_bytes, content_said, file_at, gives_back, goes_on, gone, grown, kept_refused, node_does, node_fired, node_saying, nothing_said, offered_by, on_segment, packet_seen, read_progress, refused_sent, seen_in, serving, serving_ready_of, setting, spoken, stands, tagged, taken_sent, tale_at, timed, told_kind, with_leaving, with_work, without, work_of}
use Rattle.lard_base.specs.declared.place.TimerKind.TheVariants as timer
use Rattle.lard_laws.specs.BackingState.{FetchesFor, LetterFor, SaysFor}
use Rattle.lard_laws.proofs.BackingFronts.{front-makes}
use Rattle.lard_laws.proofs.BackingMoving.{Keeps, again-for, content-for, makes, nodes-for, others-for}
use Rattle.lard_laws.proofs.BackingNodes.{came-clean, deed-makes, fired-back, fresh, goes-back, hand-at, most-written, still-makes}
use Rattle.lard_laws.proofs.BackingTurns.{AreAt, Clean, DeedBacks, IsSteady, SaidFor, gives-back, goes-clean, tagged-clean}
use Rattle.lard_laws.proofs.NodeHere.{here-of}
use Rattle.lard_laws.proofs.NodeStays.{StayHolds, stay-holds}
use Rattle.lard_laws.proofs.WaysHomes.{sent-append}
use Rattle.lard_laws.proofs.BackingOffered.{new-makes}
use Rattle.lard_laws.proofs.BackingRows.{Backs, Mine}
use Rattle.lard_law_connections.specs.BytesAgreement.{IsTruthful}
use Rattle.lard_law_connections.proofs.BytesClientMoves.{has-fair, open-at}
use Rattle.lard_law_connections.proofs.BytesFrontMessages.{opened-at}
use Rattle.lard_law_connections.proofs.BytesNodeRest.{front-opens}
use Rattle.lard_law_connections.proofs.BytesOwners.{Known, Knows, known}
use Rattle.lard_law_connections.proofs.BytesRuns.{states-truthful}
use Rattle.lard_law_connections.proofs.PlacesLaw.{owing}
use Rattle.lard_law_connections.proofs.PlacesRuns.{each-placed}
use Rattle.lard_law_connections.proofs.PlacesTurns.{IsPlaced}
use Rattle.lard_law_connections.proofs.PlacesTurns as places
use Rattle.lard_law_view.proofs.Carried.{carried}
use Rattle.lard_law_view.proofs.Frames as frames
use Rattle.lard_law_view.proofs.Frames.{clients-leave}
use Rattle.lard_law_view.proofs.Fine.{IsFine, IsItsOwn, fine}
use Rattle.lard_law_view.proofs.Guarded.{client-weaker, guarded-law, untouched-both, untouched-weaker}
use Rattle.lard_law_view.proofs.Saying.{NotedAt}
use Rattle.lard_laws.specs.WaysState.{GoesItsWay, marks_at}
use Rattle.lard_laws.specs.Ways.{WayMarks}
use Rattle.lard_laws.proofs.WaysRuns.{each-guarded}
use Rattle.lard_laws.proofs.WaysMarking.{mark}
use Rattle.lard_history.proofs.Each.{Each}
use Rattle.lard_journal.specs.declared.rec.Rec.TheVariants as rec
use Rattle.lard_handoff_back.specs.declared.table.Adopt.TheVariants.{New}
use Rattle.lard_law_view.proofs.EachNode.{Answers, Aside, Brings, MayAside, NodeComes, Queues, aside_said, aside_seen, each-node, job_notes, node_goes, told_first}
use Rattle.lard_rules.proofs.NodeCases.{IsHereWith, KeptByNode, Turned, node-keeps}
use Rattle.lard_rules.specs.Node.{Does, Says}
use Rattle.lard_law_view.proofs.EachFront.{each-front}

-- ---- a client

client-notes : (files : FilesAt) (e c : ℕ) (m : WayMarks) (rs : List Rec) → Each (NotedAt (Client e) c) rs → Backs files m rs
client-notes files e c m [] h = tt
client-notes files e c m (rec.Wrote d bytes ∷ rs) h = (tt, client-notes files e c (mark m (rec.Wrote d bytes)) rs h.1)
client-notes files e c m (rec.Accepted d bytes ∷ rs) h = (tt, client-notes files e c m rs h.1)
client-notes files e c m (rec.Eof d ∷ rs) h = (tt, client-notes files e c m rs h.1)
client-notes files e c m (rec.Aborted d ∷ rs) h = (tt, client-notes files e c m rs h.1)
client-notes files e c m (_ ∷ rs) h = absurd h.0

client-makes : (files : FilesAt) (x : Conn) (v : Move) (e : ℕ) → v.place ≡ Client e → Keeps files x v
client-makes files x v e at help g old =
    let wrote : List ℕ = (marks_at x).wrote in
    makes files x v (client-notes files e x.c (marks_at x) v.said.notes (subst (λ (p : Place). Each (NotedAt p x.c) v.said.notes) at help.own.notes))
    (others-for files wrote v.place other v.said.segments) (others-for files wrote v.place other v.said.messages) help g old where
      other : (n : ℕ) → v.place ≡ Node n → ⊥
      other n f = let no : Client e ≡ Node n = sym at ∙ f in cc

module _ (k : Setting) (small : k.stream ≤ 2 ^ 30) where
  -- what is owed of a move of a connection that agrees
  abbrev Owes : Conn → Move → Type 0
  Owes x v = IsTruthful k.files x → Keeps k.files x v

  clients : ClientRules k Owes
  clients = client-weaker k (frames.Owed Owes) Owes (λ x v owed h help. owed help.number help.sound h help) (clients-leave k Owes (λ x v at own number sound h. client-makes k.files x v x.c at.client))

  -- ---- the front end

  fronts : FrontRules k Owes
  fronts = each-front k Owes (λ x env heads g is comes h. front-makes k small x h env is heads g comes)

  -- ---- a node

  -- behind the record of a job that was completed, or of none
  module _ (x : Conn) (truth : IsTruthful k.files x) (n epoch : ℕ) (env : NodeEnv) (is : IsNodeEnv k x.c n epoch env) (heads : List Seen) (first : List Rec) (steady : Each (IsSteady env.serve.files (marks_at x)) first) where
    abbrev ours : NodePart
    ours = x.part.nodes n

    abbrev marks : WayMarks
    marks = marks_at x

    abbrev After : NodeDeed → Type 0
    After d = Keeps env.serve.files x (told_first first (node_does x n heads d))

    abbrev Comes : NodeGets → Type 0
    Comes g = NodeComes x n epoch heads g × (first ≡ job_notes x.c n g)

    alone : first ≡ [] → (d : NodeDeed) → Keeps env.serve.files x (node_does x n heads d) → After d
    alone none d h = subst (λ (rs : List Rec). Keeps env.serve.files x (told_first rs (node_does x n heads d))) (sym none) h

    -- what was held is said again
    again-said : AreSent x (Node n) ours.kept → AreSent x (Node n) ours.fetches → FetchesFor env.serve.files x
        → Each (λ s. SaysFor env.serve.files marks.wrote (Node n) s.0 s.1) (again_sent ours)
    again-said kept fetches old = again-for env.serve.files x n (ours.kept ++ ours.fetches) (sent-append x (Node n) ours.kept ours.fetches kept fetches) old

    -- where it is here
    does-here : (b : ControlBlock) (t : Stay) → IsHereWith env.epoch ours b t → (d : NodeDeed)
        → (length marks.wrote ≤ 2 ^ 30 → AreAt marks.wrote (t.served + 1) t.batch → Each (SaidFor env marks) (again_sent ours) → DeedBacks env marks d) → After d
    does-here b t at d knows help g old =
        let y : StayHolds k small x truth n epoch env is b t = stay-holds k small x truth n epoch env is help.placed b t at in
        let again : Each (SaidFor env marks) (again_sent ours) = subst (λ (i : ℕ). Each (λ s. SaysFor env.serve.files marks.wrote (Node i) s.0 s.1) (again_sent ours)) (sym is.node) (again-said (help.sound.kept n) (help.sound.fetches n) old) in
        deed-makes env x n is.node heads first steady d
        (knows (most-written k small x y.station y.there truth.talk truth.pend y.opened n epoch env is)
        (hand-at k small x y.station y.there truth.talk truth.pend y.opened n epoch env is y.it help.placed (b, t) (here-of env.epoch ours b t at)) again) help g old

    turns : (b : ControlBlock) (t : Stay) → IsHereWith env.epoch ours b t → (q : NodePart) (w : Work)
        → (length marks.wrote ≤ 2 ^ 30 → AreAt marks.wrote (t.served + 1) t.batch → Clean env marks w) → Turned After env q [] (goes_on env w)
    turns b t at q w clean = (
      λ rests. does-here b t at (with_work env q [] (goes_on env w)) (λ most are again. goes-back env marks most ours q w (clean most are)),
      λ back. does-here b t at (gives_back env q [] (goes_on env w)) (λ most are again. gives-back env marks most q [] (goes_on env w) tt (goes-clean env marks w (clean most are))),
    )

    rules_keep : KeptByNode env ours Comes After
    rules_keep = record {
      drops = still-makes env.serve.files x n heads first steady;
      hears = λ said b t m at. turns b t at ours (work_of (on_segment b said).1 t) (λ most are. fresh env marks most ours (on_segment b said).1 t);
      tags = λ number nodes b t m at asked same count. turns b t at (record ours { kept = without timer.Ask 0 ours.kept }) (tagged env nodes (work_of b t))
          (λ most are. tagged-clean env marks most nodes (work_of b t) are (fresh env marks most ours b t));
      comes = λ from r b t m at wanted.
          turns b t at (record ours { fetches = without timer.Fetch r ours.fetches }) (came_for (come_progress from) r (work_of b t)) (λ most are. came-clean env marks most ours (come_progress from) r b t);
      reads = λ r path b t m at. turns b t at ours (came_for read_progress r (work_of b t)) (λ most are. came-clean env marks most ours read_progress r b t);
      begins = λ parts m new may.
          let s = opened-at k.files x truth (front-opens x n m.0.bytes m.0.was) in
          alone m.1 (offered_by env parts ours New) (new-makes k small x s.0 s.1 truth.talk truth.pend (open-at k.files x s.0 s.1 truth) n epoch env is parts m.0.bytes m.0.spells m.0.was heads new);
      takes_again = λ parts m again. alone m.1 (Says (taken_sent env)) (makes env.serve.files x (node_does x n heads (Says (taken_sent env))) tt tt (tt, tt));
      refuses = λ parts m is. alone m.1 (Does (kept_refused env ours, node_saying (refused_sent env))) (makes env.serve.files x (node_does x n heads (Does (kept_refused env ours, node_saying (refused_sent env)))) tt tt (tt, tt));
      fires = λ b t m at.
          does-here b t at (Does (node_fired env ours (b, t) (spoken env.serve (serving (after_timer b) t.served []) (serving_ready_of env.serve (after_timer b) (timed b)))))
          (λ most are again. fired-back env marks most ours again b t);
      resends = λ m none. alone m.1 (Says (again_sent ours))
          (λ help g old. makes env.serve.files x (node_does x n heads (Says (again_sent ours))) tt tt (nodes-for env.serve.files marks.wrote n (again_sent ours) (again-said (help.sound.kept n) (help.sound.fetches n) old)) help g old);
      ends = λ back m told was. alone m.1 (Does (record ours { row = gone ours.row; kept = without (told_kind back) 0 ours.kept }, node_saying []))
          (makes env.serve.files x (node_does x n heads (Does (record ours { row = gone ours.row; kept = without (told_kind back) 0 ours.kept }, node_saying []))) tt tt tt);
      leaves = λ b t m at back. does-here b t at (gives_back env ours [] (work_of b t)) (λ most are again. gives-back env marks most ours [] (work_of b t) tt (fresh env marks most ours b t));
    }

  jobs-steady : (x : Conn) (files : FilesAt) (n : ℕ) (g : NodeGets) → Each (IsSteady files (marks_at x)) (job_notes x.c n g)
  jobs-steady x files n (Completed r path) = ((tt, tt), tt)
  jobs-steady x files n _ = tt

  asides-keep : (x : Conn) (n : ℕ) (a : Aside) → MayAside k x n a → Owes x (stands x (Node n) (aside_seen n a) (aside_said k n x.c a))
  asides-keep x n (Answers from epoch r path file bytes) may h help g old = makes k.files x (stands x (Node n) (packet_seen (Node from) (Node n) bytes) (content_said k n from x.c epoch r path)) tt tt
      (content-for k.files (marks_at x).wrote n from x.c epoch r (content_bytes (k.files path)), tt) help g old
  asides-keep x n (Queues from epoch r path file bytes) may h help g old =
      let asked = (has-fair (LetterFor k.files (marks_at x).wrote) (record { from = Node from; to = Node n; bytes = bytes }) x.letters may.was old) _ may.spells in
      makes k.files x (stands x (Node n) (packet_seen (Node from) (Node n) bytes) (record nothing_said { notes = rec.Queued n from x.c r path ∷ [] })) ((asked.0, asked.1), tt) tt tt help g old
  asides-keep x n (Brings from epoch r path) may h help g old = makes k.files x (stands x (Node n) [] (brought_said k n from x.c epoch r path)) (tt, tt) tt
      (content-for k.files (marks_at x).wrote n from x.c epoch r (content_bytes (k.files path)), tt) help g old

  nodes : NodeRules k Owes
  nodes = each-node k Owes (record {
    does = λ x n epoch env heads g is at comes h.
        let first : List Rec = job_notes x.c n g in
        let steady : Each (IsSteady env.serve.files (marks_at x)) first = jobs-steady x env.serve.files n g in
        subst (λ (f : FilesAt). Keeps f x (node_goes x n env heads g)) is.files
        (node-keeps env (x.part.nodes n) (Comes x h n epoch env is heads first steady) (After x h n epoch env is heads first steady) (rules_keep x h n epoch env is heads first steady) g at.0 (comes, refl));
    aside = asides-keep;
  })

  -- ---- the law

  keeps : UntouchedRules k Owes
  keeps = record { client = clients; front = fronts; node = nodes; ignores = λ x from to bytes was h. makes k.files x (stands x to (packet_seen from to bytes) nothing_said) tt tt tt }

  abbrev Owed : Conn → Move → Type 0
  Owed x v = MayRestOn IsPlaced x → IsPlaced x → places.Owes x v

  abbrev pub Given : Conn → Type 0
  Given x = IsPlaced x × Untouched (IsTruthful k.files) x × Untouched (GoesItsWay k.files) x

  abbrev All : Conn → Move → Type 0
  All x v = ((IsFine x v × Owed x v) × Knows x v) × Owes x v

  abbrev Wanted : Conn → Move → Type 0
  Wanted x v = MayRestOn Given x → (tale_at x).touched ≡ false → FetchesFor k.files x → FetchesFor k.files (grown x v) × EachRow (Mine k.files x.c) x.seen (seen_in x v)

  all : UntouchedRules k All
  all = untouched-both k (λ x v. (IsFine x v × Owed x v) × Knows x v) Owes (untouched-both k (λ x v. IsFine x v × Owed x v) Knows (untouched-both k IsFine Owed (fine k).untouched (owing k IsPlaced).untouched) (known k)) keeps

  wanted : (x : Conn) (v : Move) → All x v → Wanted x v
  wanted x v h may untouched old =
      let placed : MayRestOn IsPlaced x = record { number = may.number; sound = may.sound; given = may.given.0 } in
      let own : IsItsOwn x v = (h.0.0.0 may.number may.sound).0 in
      let more : Known x v = h.0.1 placed own in
      h.1 (may.given.1 untouched) (record { number = may.number; sound = may.sound; placed = may.given.0; owes = h.0.0.1 placed may.given.0; own = own; heads = more.heads; serves = more.serves }) (may.given.2 untouched) old

  pub backing-law : IsGuardedLaw k Given (FetchesFor k.files) (λ c. Mine k.files c)
  backing-law = record {
    begins = λ c. tt;
    events = λ c past e. tt;
    injected = λ c past. tt;
    moves = untouched-weaker k All Wanted wanted all;
  }

-- ---- every run

module _ (config : Config) (files : List (List ℕ × List ℕ)) (checked : config_check config ≡ Ok tt) where
  abbrev k : Setting
  k = setting config files

  small : config.stream ≤ 2 ^ 30
  small = (usable config checked).stream

  pub each-backed : OfEach config files (Guarded (FetchesFor (file_at files)) (λ c. Mine (file_at files) c))
  each-backed = carried config files (Given k small) (Guarded (FetchesFor (file_at files)) (λ c. Mine (file_at files) c))
      (λ l. guarded-law (with_leaving k l) (Given k small) (FetchesFor (file_at files)) (λ c. Mine (file_at files) c) (backing-law (with_leaving k l) small))
      (λ m r q. (each-placed config files checked m r q, states-truthful config files checked m r q, (each-guarded config files checked m r q).0))
