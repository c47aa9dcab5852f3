-- An event of a settle that was done has its numbers in range: it names a packet, a node or a client that is there.
use Rattle.std.proofs.Common.{◌≡◌, ◌≤◌, ◌<◌, ◌-◌, ◌==◌, nat_lt, ℕ, Bool, true, false, cond, List, [], length, Option, Some, None, Result, Ok, Err, refl, sym, ap, ◌∙◌, subst, arith}
use Rattle.std.specs.FinMap as table
use Rattle.std.specs.Prelude.{slice_get}
use Rattle.std.proofs.lemmas.Bool.{ltb-false, or_parts}
use Rattle.std.proofs.lemmas.Option.{slice_get_within}
use Rattle.lard_law_view.specs.Prelude.{Client, Config, Event, Front, HasTimer, IsNumber, IsPlaceInRange, IsReached, IsViewed, Machine, Node, Packet, Place, Station, StepFault, bytes_in, client_acts, client_takes, completes, config_check, conn, delivered, disk_at, is_no_node, machine_step, node_acts, node_at, packet_at, part_of, timer}
use Rattle.lard_base.proofs.Usable.{usable}
use Rattle.lard_base.specs.declared.event.Event.TheVariants as event
use Rattle.lard_rules.specs.declared.fault.Refusal.TheVariants.{NoClient, NoNode, NotSent}
use Rattle.lard_rules.specs.declared.fault.StepFault.TheVariants.{Refused}
use Rattle.lard_rules.specs.Bounds as bounds
use Rattle.lard_laws.specs.Records.{IsScheduled}
use Rattle.lard_law_connections.proofs.Happened.{done-happens}
use Rattle.lard_law_view.proofs.After.{step-after}
use Rattle.lard_law_view.proofs.Carried.{carried-keep, reached-viewed}
use Rattle.lard_law_settles.proofs.KnownRuns.{number-of}
use Rattle.lard_law_settles.proofs.SettlesFiring.{IsInner}
use Rattle.lard_law_view.proofs.EventRange.{few-before}
use Rattle.lard_rules.specs.declared.node.BackIn.TheVariants as back

never : {A : Type 0} (fault : StepFault) (n : Machine) → ◌≡◌ {A = Result Machine StepFault} (Err fault) (Ok n) → A
never fault n e = absurd cc

within-net : (net : List Packet) (k : ℕ) (p : Packet) → packet_at net k ≡ Some p → k ≤ length net
within-net net k p e = go (k == 0) e where
  go : (b : Bool) → cond b None (slice_get net (k - 1)) ≡ Some p → k ≤ length net
  go true h = absurd (let bad : ◌≡◌ {A = Option Packet} None (Some p) = h in cc)
  go false h = let l = slice_get_within net (k - 1) p h in omega (arith, l)

module _ (m n : Machine) (view : IsViewed m) (nodes : IsNumber m.config.nodes) where
  -- a client that opened has the number of a connection
  client-number : (c : ℕ) (x : Station) → table.get m.clients c ≡ Some x → IsNumber c
  unfolding conn part_of
  client-number c x at = let h : bounds.IsConnNumber c = number-of (conn m c) x (view.sound c) at in let most = h.1 in omega (arith, most)

  node-number : (i : ℕ) → is_no_node m.config.nodes i ≡ false → IsNumber i
  node-number i e = let l = ltb-false m.config.nodes i (or_parts (i == 0) (nat_lt m.config.nodes i) e).1 in omega (arith, l, nodes)

  takes : (c : ℕ) (e : Event) (o : Option Station) → table.get m.clients c ≡ o → client_acts m e [] c client_takes o ≡ Ok n → IsNumber c
  unfolding client_acts
  takes c e None at is = never (Refused (NoClient c)) n is
  takes c e (Some x) at is = client-number c x at

  delivers : (k : ℕ) (o : Option Packet) → packet_at m.net k ≡ o → length m.net < 1000000 → delivered m k o ≡ Ok n → IsNumber k
  unfolding delivered
  delivers k None at few is = never (Refused (NotSent k (length m.net))) n is
  delivers k (Some p) at few is = let l = within-net m.net k p at in omega (arith, l, few)

  completed : (i j : ℕ) → completes m i j ≡ Ok n → IsNumber i
  unfolding completes
  completed i j is = go (is_no_node m.config.nodes i) refl is where
    go : (b : Bool) → is_no_node m.config.nodes i ≡ b → cond b (Err (Refused (NoNode i m.config.nodes))) (disk_at m i j (node_at m.nodes i)) ≡ Ok n → IsNumber i
    go true t h = never (Refused (NoNode i m.config.nodes)) n h
    go false t h = node-number i t

  fires : (p : Place) (c : ℕ) → HasTimer p c → (o : Option Station) → table.get m.clients c ≡ o → timer m p c o ≡ Ok n → IsPlaceInRange p × IsNumber c
  unfolding timer
  fires p c has None at is = never (Refused (NoClient c)) n is
  fires Front c has (Some x) at is = (tt, client-number c x at)
  fires (Client d) c has (Some x) at is = (subst IsNumber (sym has) (client-number c x at), client-number c x at)
  fires (Node i) c has (Some x) at is = (test (is_no_node m.config.nodes i) refl is, client-number c x at) where
    test : (b : Bool) → is_no_node m.config.nodes i ≡ b → cond {A = Result Machine StepFault} b (Err (Refused (NoNode i m.config.nodes))) (Ok (node_acts m (event.Timer (Node i) c) [] i (back.Timer c) (node_at m.nodes i))) ≡ Ok n → IsNumber i
    test true t h = never (Refused (NoNode i m.config.nodes)) n h
    test false t h = node-number i t

  pub event-given : (e : Event) → IsInner e → machine_step m e ≡ Ok n → IsScheduled e
  event-given (event.Take c) h is = (takes c (event.Take c) (table.get m.clients c) refl (done-happens m n (event.Take c) is).1, tt)
  event-given (event.Deliver k) h is =
      let parts = done-happens m n (event.Deliver k) is in
      let few = few-before (length m.net) (bytes_in m.net) (length m.journal) m.answered parts.0 in
      (delivers k (packet_at m.net k) refl few.0 parts.1, tt)
  event-given (event.Disk i j) h is = ((completed i j (done-happens m n (event.Disk i j) is).1, omega (arith, h)), tt)
  event-given (event.Timer p c) h is = (fires p c h (table.get m.clients c) refl (done-happens m n (event.Timer p c) is).1, tt)
  event-given _ h is = absurd h

-- ---- every run

pub config-of : (config : Config) (files : List (List ℕ × List ℕ)) (m : Machine) → IsReached config files m → m.config ≡ config
config-of config files m reached = carried-keep config files (λ k. k.config ≡ config) refl (λ k n e on h rule is. (step-after k on.view e n rule is).config ∙ h) m reached

pub settle-given : (config : Config) (files : List (List ℕ × List ℕ)) → config_check config ≡ Ok tt → (m n : Machine) (e : Event) → IsReached config files m → IsInner e → machine_step m e ≡ Ok n → IsScheduled e
settle-given config files checked m n e reached of is =
    let few = (usable config checked).nodes in
    let same : m.config.nodes ≡ config.nodes = ap (λ (c : Config). c.nodes) (config-of config files m reached) in
    event-given m n (reached-viewed config files m reached) (omega (arith, few, same)) e of is
