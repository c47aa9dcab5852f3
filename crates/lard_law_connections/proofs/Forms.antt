-- The forms of a step of the whole machine, by who gets what: the front end, a node, neither of them, or the time moves on. A law of
-- what no connection's part has, as the dispatcher's books, a cache or a disk, goes by these.
use Rattle.std.proofs.Common.{◌≡◌, ℕ, Bool, true, false, cond, nat_lt, List, [], ◌∷◌, Option, Some, None, Result, Ok, Err, refl, sym, ap, ◌∙◌, subst, ⊎_elim, inl, inr}
use Rattle.std.specs.Prelude.{◌⊎◌}
use Rattle.std.proofs.lemmas.Bool.{cond_both}
use Rattle.std.specs.FinMap as table
use Rattle.lard_law_view.specs.Prelude.{BackIn, Client, ClientBlock, Event, Front, FrontIn, HasRule, IsViewed, Job, Machine, MayClose, Node, NodeState, Packet, Place, Rec, Station, StepFault, ToClient, Turn, What, client_aborts, client_acted, client_acts, client_gets, client_goes_on, client_holds, client_injects, client_opens, client_shuts, client_takes, client_timer, client_writes, clocked, completes, decoded, delivered, disk_at, drained, from_place, front_acts, front_gave, front_setting, front_step, happens, has_other_open, is_client_armed, is_no_job, is_no_node, job_at, limit_reached, lost, machine_opened, machine_step, machine_to_client, machine_to_front, machine_told, machine_wrote, node_acts, node_at, node_gave, node_setting, node_step, packet_at, passed, request, timer, to_place, unless_limit, written_len}
use Rattle.lard_base.specs.declared.event.Event.TheVariants as event
use Rattle.lard_law_connections.proofs.Calm.{Allows, AllowsNotes, AtClock, IsCalm, OnlyAct, passed-calm, step-calm}
use Rattle.lard_law_view.proofs.Heads.{ActsAt}
use Rattle.lard_law_view.proofs.Nothing.{numbered}
use Rattle.lard_law_view.proofs.Saying.{NamesAll}
use Rattle.lard_journal.specs.declared.rec.Rec.TheVariants as rec
use Rattle.lard_rules.specs.declared.node.BackIn.TheVariants as back
use Rattle.lard_rules.specs.declared.front.FrontIn.TheVariants as input
use Rattle.lard_law_view.proofs.OwnRecords.{behind}

-- who acts in the step of the event
abbrev pub FrontActs : Machine → Event → Type 0
FrontActs m e = ActsAt m.net e Front

abbrev pub NodeActs : Machine → Event → Type 0
NodeActs m e = (i : ℕ) × ActsAt m.net e (Node i)

-- the event is none of the clock
abbrev pub IsUntimed : Event → Type 0
IsUntimed (event.Clock ms) = ⊥
IsUntimed _ = Unit {0}

-- it is no event of a disk
abbrev pub IsOther : Event → Type 0
IsOther (event.Disk i j) = ⊥
IsOther _ = Unit {0}

-- This comes to node i by the event: a packet that is there, its timer for a client that is there, or a job that is there.
abbrev pub Comes : Machine → Event → ℕ → NodeState → BackIn → Type 0
Comes m e i s (back.Message from bytes) = (k : ℕ) × (p : Packet) × (e ≡ event.Deliver k) × (packet_at m.net k ≡ Some p) × (p.from ≡ from) × (p.to ≡ Node i) × (p.bytes ≡ bytes)
Comes m e i s (back.Timer c) = (e ≡ event.Timer (Node i) c) × (x : Station) × (table.get m.clients c ≡ Some x)
Comes m e i s (back.Disk j) = (e ≡ event.Disk i j) × (job : Job) × (job_at s.disk j ≡ Some job)

-- And this to the front end: a message is of the packet that is delivered, and a node is drained while another one is open.
abbrev pub ComesToFront : Machine → Event → FrontIn → Type 0
ComesToFront m e (input.Message from bytes) = (k : ℕ) × (p : Packet) × (e ≡ event.Deliver k) × (packet_at m.net k ≡ Some p) × (p.from ≡ Node from) × (p.to ≡ Front) × (p.bytes ≡ bytes)
ComesToFront m e (input.Drain n) = MayClose m.front (input.Drain n)
ComesToFront m e _ = Unit {0}

-- so that node acts in the step of the event
pub comes-at : (m : Machine) (e : Event) (i k : ℕ) (s : NodeState) (x : BackIn) → Comes m e k s x → ActsAt m.net e (Node i) → k ≡ i
comes-at m e i k s (back.Message from bytes) c acts =
    let at : ActsAt m.net (event.Deliver c.0) (Node i) = subst (λ d. ActsAt m.net d (Node i)) c.2 acts in
    let both : Some c.1 ≡ Some at.0 = sym c.3 ∙ at.1 in
    let one : c.1 ≡ at.0 = cc in
    let places : Node k ≡ Node i = sym c.5 ∙ ap (λ (l : Packet). l.to) one ∙ at.3 in cc
comes-at m e i k s (back.Timer d) c acts =
    let at : ActsAt m.net (event.Timer (Node k) d) (Node i) = subst (λ d. ActsAt m.net d (Node i)) c.0 acts in
    let places : Some (Node k) ≡ Some (Node i) = at [] in cc
comes-at m e i k s (back.Disk j) c acts =
    let at : ActsAt m.net (event.Disk k j) (Node i) = subst (λ d. ActsAt m.net d (Node i)) c.0 acts in
    let places : Some (Node k) ≡ Some (Node i) = at [] in cc

-- ---- the forms

-- Neither the front end nor a node acts, and the time is as before.
pub record Elsewhere (m : Machine) (e : Event) (n : Machine) : Type 0 where
  pub front : n.front ≡ m.front
  pub nodes : n.nodes ≡ m.nodes
  pub now : n.now ≡ m.now
  pub untimed : IsUntimed e
  pub no_front : FrontActs m e → ⊥
  pub no_node : NodeActs m e → ⊥

-- Nobody is there to act.
pub record Passes (m : Machine) (e : Event) (n : Machine) : Type 0 where
  pub is : n ≡ passed m e (behind e)
  pub untimed : IsUntimed e
  pub other : IsOther e

-- The front end gets this, and moves.
pub record FrontStep (m : Machine) (e : Event) (n : Machine) : Type 0 where
  pub comes : FrontIn
  pub came : ComesToFront m e comes
  pub is : n ≡ front_gave m e (behind e) (front_step (front_setting m) m.front comes)
  pub no_node : NodeActs m e → ⊥

-- Node i gets this, and moves.
pub record NodeStep (m : Machine) (e : Event) (n : Machine) : Type 0 where
  pub i : ℕ
  pub s : NodeState
  pub comes : BackIn
  pub there : node_at m.nodes i ≡ Some s
  pub came : Comes m e i s comes
  pub is : n ≡ node_gave m e (behind e) i (node_step (node_setting m i) s comes)
  pub untimed : IsUntimed e
  pub no_front : FrontActs m e → ⊥

-- The time moves on.
pub record Clocks (m : Machine) (e : Event) (n : Machine) : Type 0 where
  pub ms : ℕ
  pub is : n ≡ clocked m ms
  pub no_node : NodeActs m e → ⊥

pub data IsForm (m : Machine) (e : Event) (n : Machine) : Type 0 where
  InElsewhere : Elsewhere m e n → IsForm m e n
  InPasses : Passes m e n → IsForm m e n
  InFront : FrontStep m e n → IsForm m e n
  InNode : NodeStep m e n → IsForm m e n
  InClock : Clocks m e n → IsForm m e n

-- ---- each step has one of them

abbrev Formed : Machine → Event → Result Machine StepFault → Type 0
Formed m e (Ok n) = IsForm m e n
Formed m e (Err fault) = Unit {0}

-- where one place acts, no other does
client-no-front : (c : ℕ) → ((J : List Rec) → Some (Client c) ≡ Some Front) → ⊥
client-no-front c h = let no : Some (Client c) ≡ Some Front = h [] in cc

client-no-node : (c : ℕ) → (i : ℕ) × ((J : List Rec) → Some (Client c) ≡ Some (Node i)) → ⊥
client-no-node c h = let no : Some (Client c) ≡ Some (Node h.0) = h.1 [] in cc

node-no-front : (i : ℕ) → ((J : List Rec) → Some (Node i) ≡ Some Front) → ⊥
node-no-front i h = let no : Some (Node i) ≡ Some Front = h [] in cc

module _ (m : Machine) where
  module _ (e : Event) where
    -- of two answers by a test
    either : (b : Bool) (x y : Result Machine StepFault) → Formed m e x → Formed m e y → Formed m e (cond b x y)
    either true x y h k = h
    either false x y h k = k

    passed-form : IsUntimed e → IsOther e → IsForm m e (passed m e (behind e))
    passed-form untimed other = InPasses (record { is = refl; untimed = untimed; other = other })

    gets-form : (NodeActs m e → ⊥) → (x : FrontIn) → ComesToFront m e x → IsForm m e (front_acts m e (behind e) x)
    gets-form no_node x came = InFront (record { comes = x; came = came; is = refl; no_node = no_node })

    module _ (untimed : IsUntimed e) (no_front : FrontActs m e → ⊥) where
      acts-form : (i : ℕ) (x : BackIn) (o : Option NodeState) → node_at m.nodes i ≡ o → IsOther e → ((s : NodeState) → Comes m e i s x) → IsForm m e (node_acts m e (behind e) i x o)
      acts-form i x None at other came = passed-form untimed other
      acts-form i x (Some s) at other came =
          InNode (record { i = i; s = s; comes = x; there = at; came = came s; is = refl; untimed = untimed; no_front = no_front })

      module _ (no_node : NodeActs m e → ⊥) where
        client-form : (own : List Rec) (c iss : ℕ) (was : Bool) (given : ClientBlock × Turn) → IsForm m e (client_acted m e own c iss was given)
        unfolding machine_told
        client-form own c iss was given = InElsewhere (record { front = refl; nodes = refl; now = refl; untimed = untimed; no_front = no_front; no_node = no_node })

        goes-form : (own : List Rec) (c : ℕ) (x : Station) (given : ClientBlock × Turn) → IsForm m e (client_goes_on m e own c x given)
        goes-form own c x given = client-form own c x.iss (is_client_armed x.client) given

        wrote-form : (c : ℕ) (bytes : List ℕ) (o : Option Station) → Formed m e (machine_wrote m e c bytes o)
        unfolding machine_wrote
        wrote-form c bytes None = tt
        wrote-form c bytes (Some x) = either (nat_lt m.config.stream (written_len x.client bytes)) _ _ tt (goes-form [] c x (client_writes x.client bytes))

        does-form : (own : List Rec) (c : ℕ) (rule : ClientBlock → ClientBlock × Turn) (o : Option Station) → Formed m e (client_acts m e own c rule o)
        unfolding client_acts
        does-form own c rule None = tt
        does-form own c rule (Some x) = goes-form own c x (rule x.client)

  -- ---- events of clients, and timers

  opened-form : (c isn iss wnd mss : ℕ) (o : Option Station) → Formed m (event.Open c isn iss wnd mss) (machine_opened m c isn iss wnd mss o)
  unfolding machine_opened
  opened-form c isn iss wnd mss None =
      client-form (event.Open c isn iss wnd mss) tt (client-no-front c) (client-no-node c)
      (rec.Opened c isn iss wnd mss ∷ []) c iss false (client_opens c isn wnd mss)
  opened-form c isn iss wnd mss (Some x) = tt

  timer-form : (p : Place) (c : ℕ) (o : Option Station) → table.get m.clients c ≡ o → Formed m (event.Timer p c) (timer m p c o)
  unfolding timer
  timer-form p c None at = tt
  timer-form Front c (Some x) at = gets-form (event.Timer Front c) (λ h. let no : Some Front ≡ Some (Node h.0) = h.1 [] in cc) (input.Timer c) tt
  timer-form (Client d) c (Some x) at = goes-form (event.Timer (Client d) c) tt (client-no-front d) (client-no-node d) [] c x (client_timer x.client)
  timer-form (Node i) c (Some x) at = either (event.Timer (Node i) c) (is_no_node m.config.nodes i) _ _ tt
      (acts-form (event.Timer (Node i) c) tt (node-no-front i) i (back.Timer c) (node_at m.nodes i) refl tt (λ s. (refl, x, at)))

  -- ---- packets

  module _ (k : ℕ) (p : Packet) (at : packet_at m.net k ≡ Some p) where
    abbrev e : Event
    e = event.Deliver k

    -- where it comes to one place, no other acts
    its-place : (to place : Place) → p.to ≡ to → ActsAt m.net e place → to ≡ place
    its-place to place is h = let same : Some p ≡ Some h.0 = sym at ∙ h.1 in let one : p ≡ h.0 = cc in sym is ∙ ap (λ (l : Packet). l.to) one ∙ h.3

    front-gets : (NodeActs m e → ⊥) → (c : ℕ) (o : Option Station) → IsForm m e (machine_to_front m k p.bytes c o)
    front-gets no_node c None = passed-form e tt tt
    front-gets no_node c (Some x) = gets-form e no_node (input.Segment c (record { 0 = x.iss }) p.bytes) tt

    from-form : (NodeActs m e → ⊥) → (from : Place) → p.from ≡ from → p.to ≡ Front → IsForm m e (from_place m k p.bytes from)
    from-form no_node (Client c) sender goal = front-gets no_node c (table.get m.clients c)
    from-form no_node Front sender goal = passed-form e tt tt
    from-form no_node (Node i) sender goal = gets-form e no_node (input.Message i p.bytes) (k, p, refl, at, sender, goal, refl)

    client-gets-form : (FrontActs m e → ⊥) → (NodeActs m e → ⊥) → (c : ℕ) (o : Option Station) → IsForm m e (machine_to_client m k p.bytes c o)
    client-gets-form no_front no_node c None = passed-form e tt tt
    client-gets-form no_front no_node c (Some x) = goes-form e tt no_front no_node (rec.Got k ∷ []) c x (client_gets x.client (decoded p.bytes c ToClient))

    place-form : (to : Place) → p.to ≡ to → IsForm m e (to_place m k p to)
    place-form Front is = from-form (λ h. let no : Front ≡ Node h.0 = its-place Front (Node h.0) is h.1 in cc) p.from refl is
    place-form (Client c) is = client-gets-form (λ h. let no : Client c ≡ Front = its-place (Client c) Front is h in cc)
        (λ h. let no : Client c ≡ Node h.0 = its-place (Client c) (Node h.0) is h.1 in cc) c (table.get m.clients c)
    place-form (Node i) is = acts-form e tt (λ h. let no : Node i ≡ Front = its-place (Node i) Front is h in cc) i (back.Message p.from p.bytes)
        (node_at m.nodes i) refl tt (λ s. (k, p, refl, at, refl, is, refl))

  delivered-form : (k : ℕ) (o : Option Packet) → packet_at m.net k ≡ o → Formed m (event.Deliver k) (delivered m k o)
  unfolding delivered
  delivered-form k None at = tt
  delivered-form k (Some p) at = either (event.Deliver k) p.lost _ _ tt (place-form k p at p.to refl)

  lost-form : (k : ℕ) (o : Option Packet) → Formed m (event.Lose k) (lost m k o)
  unfolding lost
  lost-form k None = tt
  lost-form k (Some p) = either (event.Lose k) p.lost _ _ tt (InElsewhere (record {
    front = refl;
    nodes = refl;
    now = refl;
    untimed = tt;
    no_front = λ h. let no : None ≡ Some Front = h [] in cc;
    no_node = λ h. let no : None ≡ Some (Node h.0) = h.1 [] in cc;
  }))

  -- ---- nodes that close

  drained-form : (n : ℕ) → Formed m (event.Drain n) (drained m n)
  unfolding drained
  drained-form n = cond_both (is_no_node m.config.nodes n) (Err _) _ (Formed m (event.Drain n)) (λ none. tt)
      (λ there. cond_both (has_other_open m.front.dispatch.books.loads n) (Ok _) (Err _) (Formed m (event.Drain n))
      (λ other. gets-form (event.Drain n) (λ h. let no : Some Front ≡ Some (Node h.0) = h.1 [] in cc) (input.Drain n) other)
      (λ last. tt))

  -- ---- disks, and the clock

  disk-form : (i j : ℕ) (o : Option NodeState) → node_at m.nodes i ≡ o → Formed m (event.Disk i j) (disk_at m i j o)
  disk-form i j None at = tt
  disk-form i j (Some s) at = cond_both (is_no_job s j) (Err _) (Ok _) (Formed m (event.Disk i j)) (λ none. tt)
      (λ some. InNode (record {
        i = i;
        s = s;
        comes = back.Disk j;
        there = at;
        came = (refl, (numbered s.disk j some).0, (numbered s.disk j some).1);
        is = refl;
        untimed = tt;
        no_front = node-no-front i;
      }))

  completes-form : (i j : ℕ) → Formed m (event.Disk i j) (completes m i j)
  unfolding completes
  completes-form i j = either (event.Disk i j) (is_no_node m.config.nodes i) _ _ tt (disk-form i j (node_at m.nodes i) refl)

  clocked-form : (ms : ℕ) → IsForm m (event.Clock ms) (clocked m ms)
  clocked-form ms = InClock (record { ms = ms; is = refl; no_node = λ h. let no : None ≡ Some (Node h.0) = h.1 [] in cc })

  settle-form : (rounds : ℕ) → IsForm m (event.Settle rounds) m
  settle-form rounds = InElsewhere (record {
    front = refl;
    nodes = refl;
    now = refl;
    untimed = tt;
    no_front = λ h. let no : None ≡ Some Front = h [] in cc;
    no_node = λ h. let no : None ≡ Some (Node h.0) = h.1 [] in cc;
  })

  happens-form : (e : Event) → Formed m e (happens m e)
  happens-form (event.Open c isn iss wnd mss) = opened-form c isn iss wnd mss (table.get m.clients c)
  happens-form (event.Get c path) = wrote-form (event.Get c path) tt (client-no-front c) (client-no-node c) c (request path) (table.get m.clients c)
  happens-form (event.Write c bytes) = wrote-form (event.Write c bytes) tt (client-no-front c) (client-no-node c) c bytes (table.get m.clients c)
  happens-form (event.Shut c) = does-form (event.Shut c) tt (client-no-front c) (client-no-node c) [] c client_shuts (table.get m.clients c)
  happens-form (event.Abort c) = does-form (event.Abort c) tt (client-no-front c) (client-no-node c) [] c client_aborts (table.get m.clients c)
  happens-form (event.Hold c) = does-form (event.Hold c) tt (client-no-front c) (client-no-node c) [] c client_holds (table.get m.clients c)
  happens-form (event.Take c) = does-form (event.Take c) tt (client-no-front c) (client-no-node c) [] c client_takes (table.get m.clients c)
  happens-form (event.Inject c bytes) =
      does-form (event.Inject c bytes) tt (client-no-front c) (client-no-node c) (rec.Injected c ∷ []) c (λ x. client_injects x bytes) (table.get m.clients c)
  happens-form (event.Deliver k) = delivered-form k (packet_at m.net k) refl
  happens-form (event.Lose k) = lost-form k (packet_at m.net k)
  happens-form (event.Timer p c) = timer-form p c (table.get m.clients c) refl
  happens-form (event.Disk i j) = completes-form i j
  happens-form (event.Drain n) = drained-form n
  happens-form (event.Clock ms) = clocked-form ms
  happens-form (event.Settle rounds) = settle-form rounds

  unless-form : (e : Event) (o : Option What) (given : Result Machine StepFault) → Formed m e given → Formed m e (unless_limit o given)
  unless-form e None given h = h
  unless-form e (Some what) given h = tt

  pub step-form : (e : Event) (n : Machine) → machine_step m e ≡ Ok n → IsForm m e n
  unfolding machine_step
  step-form e n is = subst (Formed m e) is (unless-form e (limit_reached m) (happens m e) (happens-form e))

-- ---- by what comes to a node

-- No node moves: none acts, or nobody is there to act.
abbrev pub NodesStay : Machine → Event → Machine → Type 0
NodesStay m e n = (n.nodes ≡ m.nodes) × IsOther e × ((NodeActs m e → ⊥) ⊎ Passes m e n)

-- a node that acts in each event of a disk does not where none does
no-disk : (m : Machine) (e : Event) → (NodeActs m e → ⊥) → IsOther e
no-disk m (event.Disk i j) never = never (i, λ J. refl)
no-disk m _ never = tt

pub node-form : (m n : Machine) (e : Event) → machine_step m e ≡ Ok n → NodesStay m e n ⊎ NodeStep m e n
unfolding machine_told clocked
node-form m n e is = go (step-form m e n is) where
  go : IsForm m e n → NodesStay m e n ⊎ NodeStep m e n
  go (InElsewhere s) = inl (s.nodes, no-disk m e s.no_node, inl s.no_node)
  go (InPasses s) = inl (ap (λ (k : Machine). k.nodes) s.is, s.other, inr s)
  go (InFront s) = inl (ap (λ (k : Machine). k.nodes) s.is, no-disk m e s.no_node, inl s.no_node)
  go (InNode s) = inr s
  go (InClock s) = inl (ap (λ (k : Machine). k.nodes) s.is, no-disk m e s.no_node, inl s.no_node)

-- what is said where no node moves, is so where it is so of all but nodes' notes
pub nodes-calm : (P : Rec → Type 0) → Allows P → AllowsNotes NamesAll P → (m : Machine) → IsViewed m → (e : Event) (n : Machine) → HasRule e → machine_step m e ≡ Ok n
    → AtClock P e → NodesStay m e n → IsCalm P m n
nodes-calm P k notes m view e n rule is clock stay = ⊎_elim
    (λ (never : NodeActs m e → ⊥). step-calm P k NamesAll notes m view e n rule is clock (only never))
    (λ (s : Passes m e n). subst (IsCalm P m) (sym s.is) (passed-calm P k m e))
    stay.2
  where
    only : (NodeActs m e → ⊥) → OnlyAct NamesAll m e
    only never (Node i) acts = never (i, acts)
    only never _ acts = tt

-- ---- by what comes to the front end

-- The front end stays as it is, and so does the time: it does not act, or nobody is there to act.
pub record FrontStays (m : Machine) (e : Event) (n : Machine) : Type 0 where
  pub front : n.front ≡ m.front
  pub now : n.now ≡ m.now
  pub untimed : IsUntimed e
  pub calm : (FrontActs m e → ⊥) ⊎ Passes m e n

pub front-form : (m n : Machine) (e : Event) → machine_step m e ≡ Ok n → FrontStays m e n ⊎ (FrontStep m e n ⊎ Clocks m e n)
unfolding machine_told
front-form m n e is = go (step-form m e n is) where
  go : IsForm m e n → FrontStays m e n ⊎ (FrontStep m e n ⊎ Clocks m e n)
  go (InElsewhere s) = inl (record { front = s.front; now = s.now; untimed = s.untimed; calm = inl s.no_front })
  go (InPasses s) = inl (record { front = ap (λ (k : Machine). k.front) s.is; now = ap (λ (k : Machine). k.now) s.is; untimed = s.untimed; calm = inr s })
  go (InFront s) = inr (inl s)
  go (InNode s) = inl (record { front = ap (λ (k : Machine). k.front) s.is; now = ap (λ (k : Machine). k.now) s.is; untimed = s.untimed; calm = inl s.no_front })
  go (InClock s) = inr (inr s)

-- what a client or a node notes
abbrev pub IsNoFront : Place → Type 0
IsNoFront Front = ⊥
IsNoFront _ = Unit {0}

-- so it is of what is said where the front end stays
pub front-calm : (P : Rec → Type 0) → Allows P → AllowsNotes IsNoFront P → (m : Machine) → IsViewed m → (e : Event) (n : Machine) → HasRule e → machine_step m e ≡ Ok n
    → FrontStays m e n → IsCalm P m n
front-calm P k notes m view e n rule is stay = ⊎_elim
    (λ (never : FrontActs m e → ⊥). step-calm P k IsNoFront notes m view e n rule is (clock e stay.untimed) (only never))
    (λ (s : Passes m e n). subst (IsCalm P m) (sym s.is) (passed-calm P k m e))
    stay.calm
  where
    clock : (d : Event) → IsUntimed d → AtClock P d
    clock (event.Clock ms) h = absurd h
    clock _ h = tt

    only : (FrontActs m e → ⊥) → OnlyAct IsNoFront m e
    only never Front acts = never acts
    only never _ acts = tt
