-- One lemma for all rules of a node, in place of one for each: by what comes to it, and by what it does aside for another node. A law that does not
-- look at what comes says so in a line; one that does goes by `NodeCases` of `lard_rules`.
use Rattle.std.proofs.Common.{◌≡◌, ℕ, List, [], ◌∷◌, ◌++◌, Option, Some, Result, refl, sym, ap, ◌∙◌}
use Rattle.lard_base.specs.declared.event.Event.TheVariants as event
use Rattle.lard_journal.specs.declared.rec.Rec.TheVariants as rec
use Rattle.lard_law_view.specs.Prelude.{Acknowledged, BackRow, Body, Completed, Conn, Content, Fires, Forwarded, Front, IsNodeEnv, Leaves, Move, Node, NodeEnv, NodeGets, NodeRules, Offered, Place, Rec, Said, Seen, SegFault, Setting, SpellsMessage, Station, Tagged, ToCluster, TurnSaid, Was, ack_body, brought_said, content_said, decoded, epoch_in, event_seen, node_does, node_rule, nothing_said, packet_seen, stands}
use Rattle.lard_message.specs.declared.message.Body.TheVariants as body
use Rattle.lard_rules.proofs.NodeCases.{IsInItsEpoch}

-- ---- what comes

-- a message from this place, in this epoch
pub record HasCome (x : Conn) (from : Place) (n epoch : ℕ) (b : Body) (heads : List Seen) : Type 0 where
  pub bytes : List ℕ
  pub spells : SpellsMessage x.c epoch b bytes
  pub was : Was x from (Node n) bytes
  pub seen : heads ≡ packet_seen from (Node n) bytes

-- a segment that the front end forwards, as it is read
pub record HasForwarded (x : Conn) (n epoch : ℕ) (given : Result Said SegFault) (heads : List Seen) : Type 0 where
  pub segment : List ℕ
  pub came : HasCome x Front n epoch (body.Forward segment) heads
  pub read : given ≡ decoded segment x.c ToCluster

pub record HasContent (x : Conn) (from n epoch r : ℕ) (heads : List Seen) : Type 0 where
  pub file : List ℕ
  pub came : HasCome x (Node from) n epoch (body.Content r file) heads

-- its timer, in the epoch that it is in
pub record HasFired (x : Conn) (n epoch : ℕ) (heads : List Seen) : Type 0 where
  pub station : Station
  pub there : x.part.station ≡ Some station
  pub epoch_is : epoch ≡ epoch_in (x.part.nodes n)
  pub seen : heads ≡ event_seen (event.Timer (Node n) x.c)

-- what is seen first where this comes to node n, and what is known of it
abbrev pub NodeComes : Conn → ℕ → ℕ → List Seen → NodeGets → Type 0
NodeComes x n epoch heads (Offered parts) = HasCome x Front n epoch (body.Offer parts) heads
NodeComes x n epoch heads (Forwarded given) = HasForwarded x n epoch given heads
NodeComes x n epoch heads (Tagged number nodes) = HasCome x Front n epoch (body.Tag number nodes) heads
NodeComes x n epoch heads (Content from r) = HasContent x from n epoch r heads
NodeComes x n epoch heads (Acknowledged back) = HasCome x Front n epoch (ack_body back) heads
NodeComes x n epoch heads (Completed r path) = heads ≡ []
NodeComes x n epoch heads Fires = HasFired x n epoch heads
NodeComes x n epoch heads Leaves = (heads ≡ []) × (epoch ≡ epoch_in (x.part.nodes n))

-- the record of a job that was completed stands before all that it leads to
abbrev pub job_notes : ℕ → ℕ → NodeGets → List Rec
job_notes c n (Completed r path) = rec.Read n n c r path ∷ []
job_notes c n _ = []

-- a move with these notes before its own
abbrev pub told_first : List Rec → Move → Move
told_first rs v = record v { said = record v.said { notes = rs ++ v.said.notes } }

abbrev pub node_goes : Conn → ℕ → NodeEnv → List Seen → NodeGets → Move
node_goes x n env heads g = told_first (job_notes x.c n g) (node_does x n heads (node_rule env (x.part.nodes n) g))

-- ---- what a node does aside, for another one

-- It answers a Fetch of that node, or queues a job for it, or sends the content that the job read.
pub data Aside : Type 0 where
  Answers : (from epoch r : ℕ) (path file bytes : List ℕ) → Aside
  Queues : (from epoch r : ℕ) (path file bytes : List ℕ) → Aside
  Brings : (from epoch r : ℕ) (path : List ℕ) → Aside

-- it has the file that a Fetch asks for
pub record IsFetched (k : Setting) (x : Conn) (n from epoch r : ℕ) (path file bytes : List ℕ) : Type 0 where
  pub there : k.files path ≡ Some file
  pub spells : SpellsMessage x.c epoch (body.Fetch r path) bytes
  pub was : Was x (Node from) (Node n) bytes

abbrev pub MayAside : Setting → Conn → ℕ → Aside → Type 0
MayAside k x n (Answers from epoch r path file bytes) = IsFetched k x n from epoch r path file bytes
MayAside k x n (Queues from epoch r path file bytes) = IsFetched k x n from epoch r path file bytes
MayAside k x n (Brings from epoch r path) = Unit {0}

abbrev pub aside_seen : ℕ → Aside → List Seen
aside_seen n (Answers from epoch r path file bytes) = packet_seen (Node from) (Node n) bytes
aside_seen n (Queues from epoch r path file bytes) = packet_seen (Node from) (Node n) bytes
aside_seen n (Brings from epoch r path) = []

abbrev pub aside_said : Setting → ℕ → ℕ → Aside → TurnSaid
aside_said k n c (Answers from epoch r path file bytes) = content_said k n from c epoch r path
aside_said k n c (Queues from epoch r path file bytes) = record nothing_said { notes = rec.Queued n from c r path ∷ [] }
aside_said k n c (Brings from epoch r path) = brought_said k n from c epoch r path

-- ---- all rules by these two

pub record EachNode (k : Setting) (P : Conn → Move → Type 0) : Type 0 where
  pub does : (x : Conn) (n epoch : ℕ) (env : NodeEnv) (heads : List Seen) (g : NodeGets) → IsNodeEnv k x.c n epoch env → IsInItsEpoch env (x.part.nodes n) g → NodeComes x n epoch heads g
      → P x (node_goes x n env heads g)
  pub aside : (x : Conn) (n : ℕ) (a : Aside) → MayAside k x n a → P x (stands x (Node n) (aside_seen n a) (aside_said k n x.c a))

-- a timer fires in the epoch of the row
row-epoch : (x : Conn) (n : ℕ) (env : NodeEnv) → env.epoch ≡ epoch_in (x.part.nodes n) → (row : BackRow) → (x.part.nodes n).row ≡ Some row → row.epoch.0 ≡ env.epoch
row-epoch x n env is row found = sym (is ∙ ap (λ (o : Option BackRow). epoch_in (record (x.part.nodes n) { row = o })) found)

module _ (k : Setting) (P : Conn → Move → Type 0) where
  pub each-node : EachNode k P → NodeRules k P
  each-node e = record {
    offered = λ x n epoch env parts bytes is spells was. e.does x n epoch env (packet_seen Front (Node n) bytes) (Offered parts) is (tt, is.remains) (record { bytes = bytes; spells = spells; was = was; seen = refl });
    forwarded = λ x n epoch env segment bytes is spells was. e.does x n epoch env (packet_seen Front (Node n) bytes) (Forwarded (decoded segment x.c ToCluster)) is (tt, is.remains)
        (record { segment = segment; came = record { bytes = bytes; spells = spells; was = was; seen = refl }; read = refl });
    tagged = λ x n epoch number nodes env bytes is spells was. e.does x n epoch env (packet_seen Front (Node n) bytes) (Tagged number nodes) is (tt, is.remains) (record { bytes = bytes; spells = spells; was = was; seen = refl });
    content = λ x n from epoch r env file bytes is spells was. e.does x n epoch env (packet_seen (Node from) (Node n) bytes) (Content from r) is (tt, is.remains)
        (record { file = file; came = record { bytes = bytes; spells = spells; was = was; seen = refl } });
    acknowledged = λ x n epoch back env bytes is spells was. e.does x n epoch env (packet_seen Front (Node n) bytes) (Acknowledged back) is (tt, is.remains)
        (record { bytes = bytes; spells = spells; was = was; seen = refl });
    read = λ x n epoch r env path is. e.does x n epoch env [] (Completed r path) is (tt, is.remains) refl;
    fires = λ x s n env there is. e.does x n (epoch_in (x.part.nodes n)) env (event_seen (event.Timer (Node n) x.c)) Fires is (row-epoch x n env is.epoch_is, is.remains) (record { station = s; there = there; epoch_is = refl; seen = refl });
    answers = λ x n from epoch r path file bytes there spells was. e.aside x n (Answers from epoch r path file bytes) (record { there = there; spells = spells; was = was });
    queues = λ x n from epoch r path file bytes there spells was. e.aside x n (Queues from epoch r path file bytes) (record { there = there; spells = spells; was = was });
    brings = λ x n from epoch r path. e.aside x n (Brings from epoch r path) tt;
  }
