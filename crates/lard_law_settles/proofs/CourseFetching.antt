-- A Fetch comes to its node, which has the file in its cache and sends it, or queues a job, or has one queued already.
use Rattle.std.proofs.Common.{◌≡◌, ◌≢◌, ◌<◌, ◌≤◌, ◌||◌, ℕ, ◌+◌, ◌-◌, Bool, true, false, cond, List, [], ◌∷◌, ◌++◌, length, Option, Some, None, Ok, inl, inr, refl, sym, ap, ◌∙◌, subst, arith, append-nil}
use Rattle.std.proofs.lemmas.Option.{slice_get_within}
use Rattle.std.specs.Prelude.{slice_set}
use Rattle.std.specs.List.{find, list_any}
use Rattle.lard_law_view.specs.Prelude.{ClientBlock, Conn, ControlBlock, Event, FilesAt, Has, IsConnNumber, IsMessage, Job, Letter, Machine, Message, Node, NodePart, NodeSetting, NodeState, NodeTurn, Out, Packet, Place, Rec, SpellsMessage, Station, Was, aside, conn, content_bytes, content_sent, decoded_message, fetched, fetched_file, file_at, has_path, is_for, is_from, is_under, machine_step, machine_told, node_acts, node_at, node_deed, node_gave, node_gets, node_part, node_saying, node_setting, nothing_done, packet_at, packet_of, packets_of, part_of, to_place, with_node}
use Rattle.lard_base.specs.declared.event.Event.TheVariants as event
use Rattle.lard_base.specs.declared.place.TimerKind.TheVariants as kind
use Rattle.lard_bound.specs.Nears.{IsWanted, NearAside, OfMessage}
use Rattle.lard_bound.specs.Progress.{NearAt, NearOn, spot_at, spot_with}
use Rattle.lard_bound.specs.Seats.{Here, SeatNow, Staying, seat_of}
use Rattle.lard_bound.specs.Spots.{Spot, post_of, spot_of}
use Rattle.lard_bound.specs.Units.{Whole}
use Rattle.lard_law_connections.proofs.Happened.{deliver-is}
use Rattle.lard_law_view.proofs.Naming.{spelled-named}
use Rattle.lard_law_view.proofs.Parts.{node-here, node-mine, node-set}
use Rattle.lard_law_settles.specs.CourseGame.{game}
use Rattle.lard_law_settles.proofs.CourseGoing.{IsPlain}
use Rattle.lard_law_settles.proofs.CourseSending.{at-index, get-behind, within-net}
use Rattle.lard_history.proofs.Seeing.{has-behind}
use Rattle.lard_journal.specs.declared.rec.Rec.TheVariants as rec
use Rattle.lard_message.specs.declared.message.Body.TheVariants as body
use Rattle.lard_message.proofs.Whole.{again}
use Rattle.lard_rules.specs.declared.node.BackIn.TheVariants as back
use Rattle.lard_rules.specs.Node as node
use Rattle.lard_rules.specs.Node.{message}
use Rattle.lard_rounds.specs.Rounds.{Nearer}

-- ---- what a node's step leaves

module _ (m : Machine) (b : ℕ) (s : NodeState) (there : node_at m.nodes b ≡ Some s) (e : Event) (own : List Rec) (given : NodeState × Out) where
  pub gave-state : node_at (node_gave m e own b given).nodes b ≡ Some given.0
  unfolding machine_told
  gave-state = node-set m.nodes b s given.0 there

  -- one message is sent, and nothing else
  pub gave-sends : (x : Place × List ℕ) → given.1.segments ≡ [] → given.1.messages ≡ x ∷ [] → packet_at (node_gave m e own b given).net (length m.net + 1) ≡ Some (packet_of (Node b) x)
  unfolding machine_told
  gave-sends x none one =
      let net : (node_gave m e own b given).net ≡ m.net ++ packet_of (Node b) x ∷ [] =
      (λ i. (m.net ++ packets_of (Node b) (none i)) ++ packets_of (Node b) (one i)) ∙ ap (λ (ps : List Packet). ps ++ packet_of (Node b) x ∷ []) (append-nil m.net) in
      let zero_ : length m.net ≡ length m.net + 0 = omega arith in
      ap (λ (ps : List Packet). packet_at ps (length m.net + 1)) net ∙ at-index (m.net ++ packet_of (Node b) x ∷ []) (length m.net) ∙ get-behind m.net (packet_of (Node b) x ∷ []) 0 (length m.net) zero_

-- of connection q: its part is as what the node keeps says
module _ (m : Machine) (q : ℕ) where
  part-behind : (e : Event) (own : List Rec) (i : ℕ) (given : NodeState × Out) → part_of (node_gave m e own i given) q ≡ part_of (record m { nodes = slice_set m.nodes (i - 1) given.0 }) q
  unfolding machine_told part_of
  part-behind e own i given = refl

  -- what a rule did on it is its part
  pub deed-part : (n : Machine) (e : Event) (own : List Rec) (i : ℕ) (s : NodeState) (given : NodeState × Out) (did : NodePart × NodeTurn) → node_at m.nodes i ≡ Some s → n ≡ node_gave m e own i given
      → given.0 ≡ (node_deed (node_setting m i) s q (node.Does did)).0 → part_of n q ≡ with_node (part_of m q) i did.0
  deed-part n e own i s given did there is put =
      let mine : node_part given.0 q ≡ did.0 = ap (λ (z : NodeState). node_part z q) put ∙ node-here s q did.0 in
      ap (λ (z : Machine). part_of z q) is ∙ part-behind e own i given ∙ node-mine m i s given.0 there q did.0 mine

-- ---- a content is nearer

abbrev pub content_of : ℕ → ℕ → ℕ → List ℕ → Message
content_of c e r file = record { c = c; epoch = record { 0 = e }; body = body.Content r file }

near-conn : (files : FilesAt) (n : Machine) (c d : ℕ) (l : Letter) → NearOn files (spot_at files (conn n c)) c d l → NearAt files (conn n c) d l
unfolding conn
near-conn files n c d l h = h

module _ (Good : Machine → Type 0) (all : ℕ → Whole) (m n : Machine) (plain : IsPlain m n) where
  pub content-nearer : (c e r a b d : ℕ) (file : List ℕ) → IsConnNumber c → IsMessage (content_of c e r file) → (t : Spot) → spot_at (file_at n.files) (conn n c) ≡ Some t → IsWanted a e b r t.post → 1 ≤ d
      → packet_at n.net (length m.net + 1) ≡ Some (packet_of (Node b) (Node a, message c e (body.Content r file))) → Nearer (game all Good) n (length m.net) d
  content-nearer c e r a b d file number may t spot wanted some sent =
      let bytes : List ℕ = message c e (body.Content r file) in
      let l : Letter = record { from = Node b; to = Node a; bytes = bytes } in
      let h : OfMessage (λ (x : Message). NearAside (file_at n.files) t d b a x.epoch.0 x.body) (decoded_message bytes) =
      subst (OfMessage (λ (x : Message). NearAside (file_at n.files) t d b a x.epoch.0 x.body)) (sym (again (content_of c e r file) may)) (wanted, some) in
      let w = within-net n.net (length m.net + 1) _ sent in
      let low : w.0 < length n.net = slice_get_within n.net w.0 _ w.2 in
      let is : length m.net + 1 ≡ w.0 + 1 = w.1 in
      record {
        number = length m.net + 1;
        is_new = omega arith;
        waits = plain.new (length m.net + 1) (omega arith) (omega (arith, low, is));
        leads = record {
          packet = packet_of (Node b) (Node a, bytes);
          at = sent;
          c = c;
          number = number;
          is_of = spelled-named (content_of c e r file) number;
          near = near-conn (file_at n.files) n c d l (subst (λ o. NearOn (file_at n.files) o c d l) (sym spot) h);
        };
      }

-- ---- who awaits it

pub record IsHome (z : SeatNow) (h e from r : ℕ) : Type 0 where
  pub told : Bool
  pub block : ControlBlock
  pub staying : Staying
  pub seat : z ≡ Here told h e block staying
  pub wanted : is_from from e (find (is_under kind.Fetch r) staying.fetches) ≡ true

pub wanted-home : (files : FilesAt) (x : ClientBlock) (z : SeatNow) (h e from r : ℕ) → IsWanted h e from r (post_of files x z) → IsHome z h e from r
wanted-home files x (Here told n i b s) h e from r w =
    let at : Here told n i b s ≡ Here told h e b s = λ j. Here told (w.0 j) (w.1 j) b s in
    record { told = told; block = b; staying = s; seat = at; wanted = subst (λ (k : ℕ). is_from from k (find (is_under kind.Fetch r) s.fetches) ≡ true) w.1 (subst (λ (k : ℕ). is_from from k (find (is_under kind.Fetch r) s.fetches) ≡ true) (sym w.1) w.2) }
wanted-home files x _ h e from r w = absurd w

pub spot-home : (files : FilesAt) (x : Conn) (t : Spot) (h e from r : ℕ) → spot_at files x ≡ Some t → IsWanted h e from r t.post → IsHome (seat_of x.part) h e from r
unfolding spot_of
spot-home files x t h e from r is w = go x.part.station is where
  go : (o : Option Station) → spot_with files x o ≡ Some t → IsHome (seat_of x.part) h e from r
  go None none = let bad : None ≡ Some t = none in absurd cc
  go (Some st) same =
      let one : spot_of files x.part st ≡ t = cc in
      wanted-home files st.client (seat_of x.part) h e from r (subst (λ (z : Spot). IsWanted h e from r z.post) (sym one) w)

-- What is known within a settle of Fetches and jobs: a Fetch that is awaited goes to another node, which is there; a job is of the node
-- that has the connection in its epoch; and the contents that they ask for can be told.
pub record Fetches (m : Machine) : Type 0 where
  pub goals : (q h e from r : ℕ) → IsHome (seat_of (part_of m q)) h e from r → (h ≢ from) × (1 ≤ from) × (from ≤ m.config.nodes)
  pub origins : (i : ℕ) (s : NodeState) (job : Job) → node_at m.nodes i ≡ Some s → Has job s.disk → (h from r : ℕ) → IsHome (seat_of (part_of m job.c)) h job.epoch.0 from r → job.origin ≡ h
  pub contents : (q a b e r : ℕ) (path file bytes : List ℕ) → Was (conn m q) (Node a) (Node b) bytes → SpellsMessage q e (body.Fetch r path) bytes → file_at m.files path ≡ Some file → IsMessage (content_of q e r file)
  pub jobs : (i : ℕ) (s : NodeState) (job : Job) → node_at m.nodes i ≡ Some s → Has job s.disk → IsMessage (content_of job.c job.epoch.0 job.r (content_bytes (file_at m.files job.path)))

-- ---- what the node does

-- a job for this request waits, or the content is sent, or a job is queued
pub data Outcome (k : NodeSetting) (s : NodeState) (a c e r : ℕ) (path : List ℕ) (given : NodeState × Out) : Type 0 where
  Queued : (job : Job) → Has job s.disk → is_for c e r job ≡ true → given.0 ≡ s → Outcome k s a c e r path given
  Sent : given.1.segments ≡ [] → given.1.messages ≡ content_sent k a c e r path ∷ [] → Outcome k s a c e r path given
  Queues : Has (record { origin = a; c = c; epoch = record { 0 = e }; r = r; path = path }) given.0.disk → Outcome k s a c e r path given

any-job : (test : Job → Bool) (jobs : List Job) → list_any test jobs ≡ true → (job : Job) × Has job jobs × (test job ≡ true)
any-job test [] e = let no : false ≡ true = e in absurd cc
any-job test (j ∷ jobs) e = go (any-job test jobs) (test j) refl e where
  go : (list_any test jobs ≡ true → (job : Job) × Has job jobs × (test job ≡ true)) → (b : Bool) → test j ≡ b → (b || list_any test jobs) ≡ true → (job : Job) × Has job (j ∷ jobs) × (test job ≡ true)
  go later true is h = (j, inl refl, is)
  go later false is h = let rest = later h in (rest.0, inr rest.1, rest.2)

pub outcome : (k : NodeSetting) (s : NodeState) (a c e r : ℕ) (path file : List ℕ) → Outcome k s a c e r path (fetched k s a c e r path (Some file))
outcome k s a c e r path file = queued (list_any (is_for c e r) s.disk) refl where
  job : Job
  job = record { origin = a; c = c; epoch = record { 0 = e }; r = r; path = path }

  cached : (b : Bool)
      → Outcome k s a c e r path (aside s (cond b (record (node_saying (content_sent k a c e r path ∷ [])) { notes = rec.Hit k.n path ∷ [] }) (record (node_saying []) { notes = rec.Queued k.n a c r path ∷ []; jobs = job ∷ [] })))
  cached true = Sent refl refl
  cached false = Queues (has-behind job s.disk (job ∷ []) (inl refl))

  queued : (b : Bool) → list_any (is_for c e r) s.disk ≡ b → Outcome k s a c e r path (cond b (s, nothing_done) (aside s (fetched_file k s a c e r path)))
  queued true is = let j = any-job (is_for c e r) s.disk is in Queued j.0 j.1 j.2 refl
  queued false is = cached (has_path s.cache.entries path)

-- ---- the step

-- what is delivered to a node
pub delivered-to : (m n : Machine) (k b : ℕ) (p : Packet) (s : NodeState) → packet_at m.net k ≡ Some p → p.to ≡ Node b → node_at m.nodes b ≡ Some s → machine_step m (event.Deliver k) ≡ Ok n
    → n ≡ node_gave m (event.Deliver k) (rec.Got k ∷ []) b (node_gets (node_setting m b) s p.from (decoded_message p.bytes))
delivered-to m n k b p s at to there is =
    deliver-is m n k p at is ∙ ap (to_place m k p) to ∙ ap (node_acts m (event.Deliver k) (rec.Got k ∷ []) b (back.Message p.from p.bytes)) there
