-- No slot is taken, no node has a load.
use Rattle.std.proofs.Common.{refl}
use Rattle.lard_loads.proofs.Beginnings.{begun, begun_is}
use Rattle.lard_loads.proofs.loads.Loads.new.Goals as goal

pub invariant_of-result : goal.invariant_of-result
invariant_of-result c = begun c.in_ok-running.running c.first_nodes.result c.in_ok-slots.slots.items c.args.nodes 16384 _ c.in_ok-running.ensures c.requires.some c.requires.few
    refl (c.in_ok-slots.ensures.items_if_clones_equal (λ y e. e)) refl refl refl c.first_nodes.ensures

pub returns : goal.returns
returns c = begun_is c.in_ok-running.running c.first_nodes.result c.in_ok-slots.slots.items c.args.nodes 16384 _ c.in_ok-running.ensures c.requires.some c.requires.few
    refl (c.in_ok-slots.ensures.items_if_clones_equal (λ y e. e)) refl refl refl c.first_nodes.ensures
