-- The jobs of all disks are for nodes that decided their connections in the epochs of the jobs, or behind these.
use Rattle.std.proofs.Common.{◌≡◌, ◌≢◌, ◌⊎◌, ℕ, List, Option, Some, None, Ok, refl, sym, ap, ◌∙◌, subst, ⊎_elim}
use Rattle.lard_law_view.specs.Prelude.{BackIn, Body, Config, Conn, Event, GoesBy, Has, HasRule, IsConnNumber, Job, Letter, Machine, Move, Node, NodeState, Packet, SpellsMessage, Was, config_check, conn, conn_of, grown, kept_at, letters, machine_start, machine_step, machine_told, no_stays, node_at, node_part, node_setting, node_step, packet_at, part_of, setting, with_leaving}
use Rattle.lard_laws.proofs.OriginsDisks.{IsFetched, IsOfStep, IsOwn, step-jobs}
use Rattle.lard_laws.specs.OriginsLaws.{JobsComeFromHome}
use Rattle.lard_law_connections.proofs.Forms.{Comes, NodeStep, NodesStay, node-form}
use Rattle.lard_law_connections.proofs.PlacesFrontMessages.{came-says}
use Rattle.lard_law_connections.proofs.PlacesFrontRules.{has-each}
use Rattle.lard_law_connections.proofs.PlacesGrowing.{Grows, decided-grows, grows-still}
use Rattle.lard_law_connections.proofs.PlacesLaw.{Owing, owing}
use Rattle.lard_law_connections.proofs.PlacesRuns.{each-placed}
use Rattle.lard_law_connections.proofs.PlacesTurns.{IsPlaced}
use Rattle.lard_law_connections.specs.Places.{IsDecided}
use Rattle.lard_law_view.proofs.Carried.{IsOn, carried-keep, goes-on, may-move}
use Rattle.lard_law_view.proofs.Naming.{decoded-names}
use Rattle.lard_law_view.proofs.Parts.{node-others, node-set}
use Rattle.lard_law_view.proofs.Runs.{of-nodes}
use Rattle.lard_history.proofs.Each.{Each, Each-weaker}
use Rattle.lard_history.proofs.Seeing.{by_number, has-letter}
use Rattle.lard_message.specs.declared.message.Body.TheVariants as body
use Rattle.lard_rules.specs.declared.node.BackIn.TheVariants as input

-- the node that it is for decided its epoch
abbrev IsAsked : Machine → Job → Type 0
IsAsked m job = IsDecided job.epoch.0 ((conn m job.c).part.nodes job.origin).row

abbrev AllAsked : Machine → Type 0
AllAsked m = (i : ℕ) (s : NodeState) → node_at m.nodes i ≡ Some s → Each (IsAsked m) s.disk

-- a node's row of a connection
row-at : (n : Machine) (i q : ℕ) (t : NodeState) → node_at n.nodes i ≡ Some t → ((conn n q).part.nodes i).row ≡ (node_part t q).row
unfolding conn part_of
row-at n i q t at = ap (λ (o : Option NodeState). (kept_at q o).row) at

-- a packet between nodes is one of the connection that it names
was-letter : (m : Machine) (k q e r from i : ℕ) (path : List ℕ) (p : Packet) → packet_at m.net k ≡ Some p → p.from ≡ Node from → p.to ≡ Node i
    → SpellsMessage q e (body.Fetch r path) p.bytes
    → Was (conn m q) (Node from) (Node i) p.bytes
unfolding conn
was-letter m k q e r from i path p at sent to spells =
    let named : conn_of p.from p.to p.bytes ≡ Some q = (λ j. conn_of (sent j) (to j) p.bytes)
    ∙ (decoded-names (record { c = q; epoch = record { 0 = e }; body = body.Fetch r path }) p.bytes spells).named in
    subst (λ (l : Letter). Has l (letters q m.net)) (λ j. record { from = sent j; to = to j; bytes = p.bytes }) (has-letter q k m.net p at named)

conn-number : (m : Machine) (q : ℕ) → (conn m q).c ≡ q
unfolding conn
conn-number m q = refl

module _ (config : Config) (files : List (List ℕ × List ℕ)) (checked : config_check config ≡ Ok tt) (m n : Machine) (e : Event)
    (on : IsOn config files m) (h : AllAsked m) (rule : HasRule e) (is : machine_step m e ≡ Ok n) where
  -- rows go on
  grows : (q : ℕ) → Grows (conn m q).part (conn n q).part
  grows q =
      let placed : IsPlaced (conn m q) = each-placed config files checked m on.reached q in
      let P : Conn → Move → Type 0 = Owing (setting config files) IsPlaced in
      let goes : GoesBy (λ x v. IsConnNumber x.c × P x v) (conn m q) (conn n q) =
      goes-on config files P (λ l. owing (with_leaving (setting config files) l) IsPlaced) m n e on rule is q in
      ⊎_elim
      (λ (same : conn n q ≡ conn m q). subst (λ (y : Conn). Grows (conn m q).part y.part) (sym same) (grows-still (conn m q).part))
      (λ (k : (v : Move) × (IsConnNumber (conn m q).c × P (conn m q) v) × (conn n q ≡ grown (conn m q) v)).
      subst (λ (y : Conn). Grows (conn m q).part y.part) (sym k.2) (k.1.1 (may-move IsPlaced (conn m q) k.1.0 (on.view.sound q) placed) placed).grows)
      goes

  asked-grows : (job : Job) → IsAsked m job → IsAsked n job
  asked-grows job asked =
      decided-grows job.epoch.0 ((conn m job.c).part.nodes job.origin).row ((conn n job.c).part.nodes job.origin).row ((grows job.c).nodes job.origin) asked

  old-asked : (i : ℕ) (s : NodeState) → node_at m.nodes i ≡ Some s → Each (IsAsked n) s.disk
  old-asked i s at = Each-weaker (IsAsked m) (IsAsked n) asked-grows s.disk (h i s at)

  module _ (step : NodeStep m e n) where
    abbrev t : NodeState
    t = (node_step (node_setting m step.i) step.s step.comes).0

    there-now : node_at n.nodes step.i ≡ Some t
    unfolding machine_told
    there-now = ap (λ (k : Machine). node_at k.nodes step.i) step.is ∙ node-set m.nodes step.i step.s t step.there

    others-now : (i : ℕ) → i ≢ step.i → node_at m.nodes i ≡ node_at n.nodes i
    unfolding machine_told
    others-now i other = sym (ap (λ (k : Machine). node_at k.nodes i) step.is ∙ node-others m.nodes step.i i step.s t step.there other)

    -- the Fetch was sent by a node that decided its epoch
    fetched-asked : (job : Job) (comes : BackIn) → Comes m e step.i step.s comes → IsFetched comes job → IsAsked m job
    fetched-asked job (input.Message (Node from) bytes) c its =
        let x : Conn = conn m job.c in
        let fetch : Body = body.Fetch job.r job.path in
        let same : SpellsMessage job.c job.epoch.0 fetch c.1.bytes = subst (SpellsMessage job.c job.epoch.0 fetch) (sym c.6) its.1 in
        let was : Was x (Node from) (Node step.i) c.1.bytes = was-letter m c.0 job.c job.epoch.0 job.r from step.i job.path c.1 c.3 c.4 c.5 same in
        let spells : SpellsMessage x.c job.epoch.0 fetch c.1.bytes = subst (λ (q : ℕ). SpellsMessage q job.epoch.0 fetch c.1.bytes) (sym (conn-number m job.c)) same in
        let placed : IsPlaced x = each-placed config files checked m on.reached job.c in
        let decided : IsDecided job.epoch.0 (x.part.nodes from).row =
        came-says x (Node from) (Node step.i) job.epoch.0 fetch c.1.bytes placed.letters was spells in
        subst (λ (o : ℕ). IsDecided job.epoch.0 (x.part.nodes o).row) (sym its.0) decided
    fetched-asked job _ c its = absurd its

    new-asked : (job : Job) → IsOfStep (node_setting m step.i) step.s.disk step.comes t job → IsAsked n job
    new-asked job its = ⊎_elim
        (λ (old : Has job step.s.disk). asked-grows job (has-each (IsAsked m) job step.s.disk old (h step.i step.s step.there)))
        (λ (new : IsOwn step.i t job ⊎ IsFetched step.comes job). ⊎_elim
        (λ (own : IsOwn step.i t job). subst (λ (o : ℕ). IsDecided job.epoch.0 ((conn n job.c).part.nodes o).row) (sym own.origin)
        (subst (IsDecided job.epoch.0) (sym (row-at n step.i job.c t there-now)) own.decided))
        (λ (asked : IsFetched step.comes job). asked-grows job (fetched-asked job step.comes step.came asked))
        new)
        its

    node-asked : AllAsked n
    node-asked i u at = by_number (Each (IsAsked n) u.disk) i step.i
        (λ same.
        let one : Some t ≡ Some u = sym there-now ∙ ap (node_at n.nodes) (sym same) ∙ at in
        let is_t : t ≡ u = cc in
        subst (λ (s : NodeState). Each (IsAsked n) s.disk) is_t
        (Each-weaker (IsOfStep (node_setting m step.i) step.s.disk step.comes t) (IsAsked n) new-asked t.disk (step-jobs (node_setting m step.i) step.s step.comes)))
        (λ other. old-asked i u (others-now i other ∙ at))

  step-asked : AllAsked n
  step-asked = ⊎_elim
      (λ (stay : NodesStay m e n). λ i s at. old-asked i s (ap (λ (nodes : List NodeState). node_at nodes i) (sym stay.0) ∙ at))
      (λ (step : NodeStep m e n). node-asked step)
      (node-form m n e is)

-- no job is there at first
start-asked : (config : Config) (files : List (List ℕ × List ℕ)) → AllAsked (machine_start config files)
start-asked config files n s at = of-nodes
    (λ (o : Option NodeState). o ≡ Some s → Each (IsAsked (machine_start config files)) s.disk) config.nodes (no_stays config.cache)
    (λ e. let no : None ≡ Some s = e in absurd cc)
    (λ e. let same : no_stays config.cache ≡ s = cc in subst (λ (u : NodeState). Each (IsAsked (machine_start config files)) u.disk) same tt)
    n at

pub jobs-from-home : JobsComeFromHome
jobs-from-home config files m checked r i s at job has = has-each (IsAsked m) job s.disk has
    (carried-keep config files AllAsked (start-asked config files) (λ k n e on h rule is. step-asked config files checked k n e on h rule is) m r i s at)
