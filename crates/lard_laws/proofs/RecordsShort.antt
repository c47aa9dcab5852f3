-- A disk stays short: before a step it has no more jobs than there are records, which are few then, and a step adds eight at most.
use Rattle.std.proofs.Common.{◌≡◌, ℕ, ◌+◌, ◌-◌, ◌≤◌, ◌^◌, List, [], length, Some, Ok, refl, sym, ap, ◌∙◌, subst, inl, inr, arith}
use Rattle.std.specs.Prelude.{◌⊎◌, slice_set}
use Rattle.lard_law_view.specs.Prelude.{Config, Event, HasRule, Machine, NodeState, Out, bytes_in, machine_start, machine_step, machine_told, node_at, node_setting, node_step}
use Rattle.lard_laws.proofs.RecordsDisks.{disks-short}
use Rattle.lard_laws.proofs.RecordsQueues.{step-gains}
use Rattle.lard_law_connections.proofs.Happened.{done-happens}
use Rattle.lard_laws.specs.RecordsDisks.{DisksStayShort}
use Rattle.lard_law_connections.proofs.Forms.{NodeStep, NodesStay, node-form}
use Rattle.lard_law_view.proofs.Carried.{IsOn, carried-keep}
use Rattle.lard_law_view.proofs.Parts.{node-others, node-set}
use Rattle.lard_history.proofs.Seeing.{by_number}
use Rattle.lard_law_view.proofs.EventRange.{few-before}

-- so many jobs at most at each node that is there
abbrev AreWithin : ℕ → List NodeState → Type 0
AreWithin most nodes = (n : ℕ) (s : NodeState) → node_at nodes n ≡ Some s → length s.disk ≤ most

-- where one node moved by its step
moved-within : (m n : Machine) (e : Event) → AreWithin (2 ^ 30) m.nodes → NodeStep m e n → AreWithin (2 ^ 30 + 8) n.nodes
unfolding machine_told
moved-within m n e short move q s at =
    let x : NodeState × Out = node_step (node_setting m move.i) move.s move.comes in
    let nodes : List NodeState = slice_set m.nodes (move.i - 1) x.0 in
    let there : node_at nodes q ≡ Some s = ap (λ (k : Machine). node_at k.nodes q) (sym move.is) ∙ at in
    by_number (length s.disk ≤ 2 ^ 30 + 8) q move.i
    (λ same.
    let own : Some x.0 ≡ Some s = sym (node-set m.nodes move.i move.s x.0 move.there) ∙ ap (node_at nodes) (sym same) ∙ there in
    let is : x.0 ≡ s = cc in
    let before = short move.i move.s move.there in
    let gains = step-gains (node_setting m move.i) move.s move.comes in
    subst (λ (t : NodeState). length t.disk ≤ 2 ^ 30 + 8) is (omega (arith, before, gains)))
    (λ other. let before = short q s (sym (node-others m.nodes move.i q move.s x.0 move.there other) ∙ there) in omega (arith, before))

form-within : (m n : Machine) (e : Event) → AreWithin (2 ^ 30) m.nodes → NodesStay m e n ⊎ NodeStep m e n → AreWithin (2 ^ 30 + 8) n.nodes
form-within m n e short (inl still) q s at = let before = short q s (ap (λ (ns : List NodeState). node_at ns q) (sym still.0) ∙ at) in omega (arith, before)
form-within m n e short (inr move) q s at = moved-within m n e short move q s at

module _ (config : Config) (files : List (List ℕ × List ℕ)) where
  short-step : (m n : Machine) (e : Event) → IsOn config files m → AreWithin (2 ^ 30 + 8) m.nodes → HasRule e → machine_step m e ≡ Ok n → AreWithin (2 ^ 30 + 8) n.nodes
  short-step m n e on h rule is =
      let few = few-before (length m.net) (bytes_in m.net) (length m.journal) m.answered (done-happens m n e is).0 in
      form-within m n e (disks-short config files m on.reached few.1) (node-form m n e is)

  start-short : AreWithin (2 ^ 30 + 8) (machine_start config files).nodes
  start-short n s at = let few = disks-short config files (machine_start config files) ([], refl) (omega arith) n s at in omega (arith, few)

pub disks-stay : DisksStayShort
disks-stay config files m r n s at = let few = carried-keep config files (λ k. AreWithin (2 ^ 30 + 8) k.nodes) (start-short config files) (short-step config files) m r n s at in omega (arith, few)
