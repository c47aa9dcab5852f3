-- Which jobs a step leaves: those that waited, but the one that is done. A timer queues none, and nor does a job; and a packet queues some
-- where it is an Offer or a Fetch, of which something comes, or a Tag that counts, with which a unit goes.
use Rattle.std.proofs.Common.{◌≡◌, ◌≢◌, ◌<◌, ◌≤◌, ℕ, List, [], ◌∷◌, ◌++◌, Some, Ok, inl, inr, ⊎_elim, refl, sym, ap, ◌∙◌, subst, arith}
use Rattle.std.specs.Prelude.{◌⊎◌}
use Rattle.lard_law_view.specs.Prelude.{Conn, Event, Front, Has, IsConnNumber, IsNodeEnv, Job, Letter, Machine, Message, Move, Node, NodeEnv, NodePart, NodeSetting, NodeState, NodeTurn, Out, Packet, Place, Rec, SpellsMessage, Station, Was, conn, conn_of, decoded_message, file_at, job_at, leaves_at, letter_of, letters, machine_step, machine_told, node_at, node_deed, node_env, node_epoch_at, node_gave, node_gets, node_part, node_setting, node_step, node_tagged, node_timer, packet_at, part_of, setting_of, with_node}
use Rattle.lard_base.specs.declared.event.Event.TheVariants as event
use Rattle.lard_bound.specs.Chains.{aside_chain, chain_between, front_chain, of_message}
use Rattle.lard_bound.specs.Progress.{chain_on, spot_with}
use Rattle.lard_bound.specs.Spots.{Spot, spot_of}
use Rattle.lard_bound.specs.Units.{Whole, units, machine_units}
use Rattle.lard_law_view.proofs.Naming.{decoded-names}
use Rattle.lard_law_view.proofs.Parts.{node-kept, node-others}
use Rattle.lard_law_settles.specs.Course.{chain_in}
use Rattle.lard_law_settles.proofs.CourseActing.{FiresTo, GoesTo, deliver-goes, disk-goes, timer-goes}
use Rattle.lard_law_settles.specs.CourseGame.{Task, TaskWaits}
use Rattle.lard_law_connections.proofs.Happened.{disk-is}
use Rattle.lard_law_settles.proofs.CourseDelivering.{chain-is}
use Rattle.lard_law_settles.proofs.CourseFetching.{deed-part, delivered-to, gave-state}
use Rattle.lard_law_settles.proofs.CourseJobs.{Asked, Leaves, Nothing, Offered, Tagged, Why, deed-adds, gets-leaves, timer-queues}
use Rattle.lard_law_settles.proofs.CourseLasting.{each-still}
use Rattle.lard_law_settles.proofs.CourseOwing.{IsStep}
use Rattle.lard_law_settles.proofs.CourseQueueing.{first-disk}
use Rattle.lard_history.proofs.Seeing.{by_number, has-before, has-letter}
use Rattle.lard_journal.specs.declared.rec.Rec.TheVariants as rec
use Rattle.lard_message.specs.declared.message.Body.TheVariants as body
use Rattle.lard_rules.specs.declared.node.BackIn.TheVariants as back
use Rattle.lard_rules.specs.Node as node

-- ---- what is claimed

-- those that waited, but the first of the node that completes it; and new ones of a packet of which something comes, or where a unit goes
pub record Stocks (all : ℕ → Whole) (m : Machine) (e : Event) (n : Machine) : Type 0 where
  pub kept : (t : Task) → TaskWaits m t → ((s : NodeState) × (e ≡ event.Disk t.0 1) × (node_at m.nodes t.0 ≡ Some s) × (job_at s.disk 1 ≡ Some t.1)) ⊎ TaskWaits n t
  pub queued : (t : Task) → TaskWaits n t → TaskWaits m t ⊎ ((k : ℕ) × (e ≡ event.Deliver k) × (machine_units all m ≤ machine_units all n → 1 ≤ chain_in m k))

-- ---- what waits

has-parts : {A : Type 0} (a : A) (xs ys : List A) → Has a (xs ++ ys) → Has a xs ⊎ Has a ys
has-parts a [] ys h = inr h
has-parts a (x ∷ xs) ys (inl same) = inl (inl same)
has-parts a (x ∷ xs) ys (inr h) = ⊎_elim (λ (g : Has a xs). inl (inr g)) (λ (g : Has a ys). inr g) (has-parts a xs ys h)

some-state : (a b : NodeState) → Some a ≡ Some b → a ≡ b
some-state a b e = cc

-- where all nodes stay
waits-same : (m n : Machine) (t : Task) → n.nodes ≡ m.nodes → TaskWaits m t → TaskWaits n t
waits-same m n t same (z, at, has) = (z, ap (λ (ns : List NodeState). node_at ns t.0) same ∙ at, has)

module _ (m n : Machine) (e : Event) (own : List Rec) (i : ℕ) (s : NodeState) (given : NodeState × Out) (there : node_at m.nodes i ≡ Some s) (is : n ≡ node_gave m e own i given) where
  state : node_at n.nodes i ≡ Some given.0
  state = ap (λ (x : Machine). node_at x.nodes i) is ∙ gave-state m i s there e own given

  other : (j : ℕ) → j ≢ i → node_at n.nodes j ≡ node_at m.nodes j
  unfolding machine_told
  other j apart = ap (λ (x : Machine). node_at x.nodes j) is ∙ node-others m.nodes i j s given.0 there apart

  -- what waits at the node and what waits elsewhere
  waits-on : (t : Task) → TaskWaits m t → ((t.0 ≡ i) × Has t.1 s.disk) ⊎ TaskWaits n t
  waits-on t (z, at, has) = by_number (((t.0 ≡ i) × Has t.1 s.disk) ⊎ TaskWaits n t) t.0 i
      (λ same. inl (same, subst (λ (y : NodeState). Has t.1 y.disk) (some-state z s (sym at ∙ ap (node_at m.nodes) same ∙ there)) has))
      (λ apart. inr (z, other t.0 apart ∙ at, has))

  waits-back : (t : Task) → TaskWaits n t → ((t.0 ≡ i) × Has t.1 given.0.disk) ⊎ TaskWaits m t
  waits-back t (z, at, has) = by_number (((t.0 ≡ i) × Has t.1 given.0.disk) ⊎ TaskWaits m t) t.0 i
      (λ same. inl (same, subst (λ (y : NodeState). Has t.1 y.disk) (some-state z given.0 (sym at ∙ ap (node_at n.nodes) same ∙ state)) has))
      (λ apart. inr (z, sym (other t.0 apart) ∙ at, has))

  waits-here : (t : Task) → t.0 ≡ i → Has t.1 given.0.disk → TaskWaits n t
  waits-here t same has = (given.0, ap (node_at n.nodes) same ∙ state, has)

  waited-here : (t : Task) → t.0 ≡ i → Has t.1 s.disk → TaskWaits m t
  waited-here t same has = (s, ap (node_at m.nodes) same ∙ there, has)

  -- where jobs are added, if any
  module _ (js : List Job) (disk : given.0.disk ≡ s.disk ++ js) where
    pub added-kept : (t : Task) → TaskWaits m t → TaskWaits n t
    added-kept t w = ⊎_elim
        (λ (h : (t.0 ≡ i) × Has t.1 s.disk). waits-here t h.0 (subst (Has t.1) (sym disk) (has-before t.1 s.disk js h.1)))
        (λ (h : TaskWaits n t). h)
        (waits-on t w)

    pub added-new : (t : Task) → TaskWaits n t → TaskWaits m t ⊎ Has t.1 js
    added-new t w = ⊎_elim
        (λ (h : (t.0 ≡ i) × Has t.1 given.0.disk). ⊎_elim (λ (g : Has t.1 s.disk). inl (waited-here t h.0 g)) (λ (g : Has t.1 js). inr g) (has-parts t.1 s.disk js (subst (Has t.1) disk h.1)))
        (λ (h : TaskWaits m t). inl h)
        (waits-back t w)

-- ---- what is given

-- the client of a connection of which an Offer or a Fetch was sent opened
pub record Opened (m : Machine) : Type 0 where
  pub offers : (q i : ℕ) (bytes : List ℕ) → Was (conn m q) Front (Node i) bytes → (st : Station) × ((conn m q).part.station ≡ Some st)
  pub fetches : (q a i e r : ℕ) (path bytes : List ℕ) → Was (conn m q) (Node a) (Node i) bytes → SpellsMessage q e (body.Fetch r path) bytes → (st : Station) × ((conn m q).part.station ≡ Some st)

-- with a Tag that counts a unit of its connection goes
abbrev pub TagsFall : (ℕ → Whole) → Machine → Machine → Type 0
TagsFall all m n = (q i e number : ℕ) (nodes : List ℕ) (env : NodeEnv) (given : NodePart × NodeTurn) → IsConnNumber q → IsNodeEnv (setting_of m) q i e env → node_tagged env ((part_of m q).nodes i) number nodes ≡ node.Does given
    → part_of n q ≡ with_node (part_of m q) i given.0 → units (all q) m.config.nodes (conn n q) < units (all q) m.config.nodes (conn m q)

-- ---- of a packet

module _ (Given : Conn → Type 0) (Came : Conn → Move → Type 0) (all : ℕ → Whole) (m n : Machine) (k : ℕ) (step : IsStep Given Came all m n (event.Deliver k)) (opened : Opened m) (tags : TagsFall all m n)
    (p : Packet) (at : packet_at m.net k ≡ Some p) (q : ℕ) (of : conn_of p.from p.to p.bytes ≡ Some q) (number : IsConnNumber q) where
  abbrev Comes : Type 0
  Comes = machine_units all m ≤ machine_units all n → 1 ≤ chain_in m k

  some-is : (a b : ℕ) → Some a ≡ Some b → a ≡ b
  some-is a b e = cc

  was : (from to : Place) → p.from ≡ from → p.to ≡ to → Was (conn m q) from to p.bytes
  unfolding conn
  was from to is-from is-to = subst (λ (l : Letter). Has l (letters q m.net)) (λ i. record { from = is-from i; to = is-to i; bytes = p.bytes }) (has-letter q k m.net p at of)

  -- of a message between two machines of the cluster, whose client opened
  chain-by : (st : Station) → (conn m q).part.station ≡ Some st → (from to : Place) → p.from ≡ from → p.to ≡ to → (c : ℕ) → c ≡ chain_between (spot_of (file_at m.files) (conn m q).part st) q from to (letter_of p) → chain_in m k ≡ c
  unfolding conn
  chain-by st is from to is-from is-to c same =
      chain-is m k q p at of ∙ ap (λ o. chain_on (spot_with (file_at m.files) (conn m q) o) q (letter_of p)) is
      ∙ (λ i. chain_between (spot_of (file_at m.files) (conn m q).part st) q (is-from i) (is-to i) (letter_of p)) ∙ sym same

  same-front : (i : ℕ) (x : Message) → p.from ≡ Front → p.to ≡ Node i → decoded_message p.bytes ≡ Ok x → x.c ≡ q
  same-front i x from to reads = let names = decoded-names x p.bytes reads in some-is x.c q (sym names.named ∙ sym (λ j. conn_of (from j) (to j) p.bytes) ∙ of)

  same-node : (a i : ℕ) (x : Message) → p.from ≡ Node a → p.to ≡ Node i → decoded_message p.bytes ≡ Ok x → x.c ≡ q
  same-node a i x from to reads = let names = decoded-names x p.bytes reads in some-is x.c q (sym names.named ∙ sym (λ j. conn_of (from j) (to j) p.bytes) ∙ of)

  -- the node that gets it
  module _ (i : ℕ) (s : NodeState) (to : p.to ≡ Node i) (there : node_at m.nodes i ≡ Some s) where
    abbrev ks : NodeSetting
    ks = node_setting m i

    abbrev given : NodeState × Out
    given = node_gets ks s p.from (decoded_message p.bytes)

    got : n ≡ node_gave m (event.Deliver k) (rec.Got k ∷ []) i given
    got = delivered-to m n k i p s at to there step.is

    leaves : Leaves ks s p.from (decoded_message p.bytes) given.0
    leaves = gets-leaves ks s p.from (decoded_message p.bytes)

    tag-falls : (c e tag : ℕ) (nodes : List ℕ) (g : NodePart × NodeTurn) → c ≡ q → node_tagged (node_env ks s c e) (node_part s c) tag nodes ≡ node.Does g → given.0 ≡ (node_deed ks s c (node.Does g)).0
        → units (all q) m.config.nodes (conn n q) < units (all q) m.config.nodes (conn m q)
    tag-falls c e tag nodes g same does put =
        let env : NodeEnv = node_env ks s q e in
        let here : node_tagged env (node_part s q) tag nodes ≡ node.Does g = subst (λ (j : ℕ). node_tagged (node_env ks s j e) (node_part s j) tag nodes ≡ node.Does g) same does in
        let kept = node-kept m i s q there in
        let same_put : given.0 ≡ (node_deed ks s q (node.Does g)).0 = put ∙ ap (λ (j : ℕ). (node_deed ks s j (node.Does g)).0) same in
        let part = deed-part m q n (event.Deliver k) (rec.Got k ∷ []) i s given g there got same_put in
        tags q i e tag nodes env g number (record { place = refl; number = refl; files = refl; stream = refl; node = refl; epoch_is = refl; leaves = ap leaves_at (sym there); remains = step.view.remain i s there }) (ap (λ (z : NodePart). node_tagged env z tag nodes) kept ∙ here) part

    by-why : (job : Job) (js : List Job) → Why ks s p.from (decoded_message p.bytes) given.0 js → Has job js → Comes
    by-why job js (Nothing none) has up = absurd (subst (Has job) none has)
    by-why job js (Offered c e parts from reads) has up =
        let st = opened.offers q i p.bytes (was Front (Node i) from to) in
        let t : Spot = spot_of (file_at m.files) (conn m q).part st.0 in
        let one : chain_in m k ≡ 1 = chain-by st.0 st.1 Front (Node i) from to 1 (sym (ap (of_message (λ (x : Message). front_chain t q x.body)) reads)) in
        omega (arith, one)
    by-why job js (Asked a c e r path from reads) has up =
        let same = same-node a i (record { c = c; epoch = record { 0 = e }; body = body.Fetch r path }) from to reads in
        let spells : SpellsMessage q e (body.Fetch r path) p.bytes = reads ∙ ap (λ (j : ℕ). Ok (record { c = j; epoch = record { 0 = e }; body = body.Fetch r path })) same in
        let st = opened.fetches q a i e r path p.bytes (was (Node a) (Node i) from to) spells in
        let one : chain_in m k ≡ 1 = chain-by st.0 st.1 (Node a) (Node i) from to 1 (sym (ap (of_message (λ (x : Message). aside_chain x.body)) reads)) in
        omega (arith, one)
    by-why job js (Tagged c e tag nodes g from reads does put jobs) has up =
        let same = same-front i (record { c = c; epoch = record { 0 = e }; body = body.Tag tag nodes }) from to reads in
        let falls = tag-falls c e tag nodes g same does put in
        let still = each-still Given Came all m n (event.Deliver k) step up q number.0 number.1 in
        absurd (omega (arith, falls, still))

    node-stocks : Stocks all m (event.Deliver k) n
    node-stocks = record {
      kept = λ t w. inr (added-kept m n (event.Deliver k) (rec.Got k ∷ []) i s given there got leaves.jobs leaves.disk t w);
      queued = λ t w. ⊎_elim
          (λ (h : TaskWaits m t). inl h)
          (λ (h : Has t.1 leaves.jobs). inr (k, refl, by-why t.1 leaves.jobs leaves.why h))
          (added-new m n (event.Deliver k) (rec.Got k ∷ []) i s given there got leaves.jobs leaves.disk t w);
    }

  pub packet-stocks : Stocks all m (event.Deliver k) n
  packet-stocks = go (deliver-goes m n k p at step.is) where
    go : GoesTo m n p → Stocks all m (event.Deliver k) n
    go (inl same) = record { kept = λ t w. inr (waits-same m n t same w); queued = λ t w. inl (waits-same n m t (sym same) w) }
    go (inr (i, s, to, there)) = node-stocks i s to there

-- ---- of a timer and of a job

pub timer-stocks : (all : ℕ → Whole) (m n : Machine) (p : Place) (c : ℕ) → machine_step m (event.Timer p c) ≡ Ok n → Stocks all m (event.Timer p c) n
timer-stocks all m n p c step = go (timer-goes m n p c step) where
  go : FiresTo m n p c → Stocks all m (event.Timer p c) n
  go (inl same) = record { kept = λ t w. inr (waits-same m n t same w); queued = λ t w. inl (waits-same n m t (sym same) w) }
  go (inr (i, s, there, is)) =
      let ks : NodeSetting = node_setting m i in
      let d = node_timer (node_env ks s c (node_epoch_at s c)) (node_part s c) in
      let given : NodeState × Out = node_step ks s (back.Timer c) in
      let disk : given.0.disk ≡ s.disk ++ [] = deed-adds ks s c d ∙ ap (λ (js : List Job). s.disk ++ js) (timer-queues (node_env ks s c (node_epoch_at s c)) (node_part s c)) in
      record {
        kept = λ t w. inr (added-kept m n (event.Timer p c) [] i s given there is [] disk t w);
        queued = λ t w. ⊎_elim (λ (h : TaskWaits m t). inl h) (λ (h : Has t.1 []). absurd h) (added-new m n (event.Timer p c) [] i s given there is [] disk t w);
      }

pub job-stocks : (all : ℕ → Whole) (m n : Machine) (i : ℕ) → machine_step m (event.Disk i 1) ≡ Ok n → Stocks all m (event.Disk i 1) n
job-stocks all m n i step =
    let f = disk-goes m n i step in
    let given : NodeState × Out = node_step (node_setting m i) f.state (back.Disk 1) in
    let is = disk-is m n i 1 f.state f.at step in
    let rest : given.0.disk ≡ f.jobs = first-disk (node_setting m i) f.state f.job f.jobs f.were in
    record {
      kept = λ t w. ⊎_elim
          (λ (h : (t.0 ≡ i) × Has t.1 f.state.disk). first f.state f.job f.jobs f.were f.at t h.0 (λ g. waits-here m n (event.Disk i 1) [] i f.state given f.at is t h.0 (subst (Has t.1) (sym rest) g)) (subst (Has t.1) f.were h.1))
          (λ (h : TaskWaits n t). inr h)
          (waits-on m n (event.Disk i 1) [] i f.state given f.at is t w);
      queued = λ t w. ⊎_elim
          (λ (h : (t.0 ≡ i) × Has t.1 given.0.disk). inl (waited-here m n (event.Disk i 1) [] i f.state given f.at is t h.0 (subst (Has t.1) (sym f.were) (inr (subst (Has t.1) rest h.1)))))
          (λ (h : TaskWaits m t). inl h)
          (waits-back m n (event.Disk i 1) [] i f.state given f.at is t w);
    }
  where
    first : (s : NodeState) (j : Job) (js : List Job) → s.disk ≡ j ∷ js → node_at m.nodes i ≡ Some s → (t : Task) → t.0 ≡ i → (Has t.1 js → TaskWaits n t) → Has t.1 (j ∷ js)
        → ((z : NodeState) × (event.Disk i 1 ≡ event.Disk t.0 1) × (node_at m.nodes t.0 ≡ Some z) × (job_at z.disk 1 ≡ Some t.1)) ⊎ TaskWaits n t
    first s j js were there t same later (inl is) = inl (s, ap (λ (x : ℕ). event.Disk x 1) (sym same), ap (node_at m.nodes) same ∙ there, ap (λ (d : List Job). job_at d 1) were ∙ ap Some is)
    first s j js were there t same later (inr h) = inr (later h)
