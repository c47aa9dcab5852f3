-- One more connection, with a whole at its home.
use Rattle.std.proofs.Common.{◌≡◌, ◌+◌, ◌-◌, arith, length, ap, sym, ◌∙◌, None}
use Rattle.std.proofs.lemmas.List.{length-set}
use Rattle.lard_loads.specs.Slot.{standing_of}
use Rattle.lard_loads.specs.Running.{at_node}
use Rattle.lard_loads.specs.Tally.{Tally}
use Rattle.lard_loads.proofs.Calls.{connecting, standing-is}
use Rattle.lard_loads.proofs.Tallies.{found_in, load-most, seen_as}
use Rattle.lard_loads.proofs.Standings.{len-standings}
use Rattle.lard_loads.proofs.loads.Loads.connect.Goals as goal

pub raise-requires-clause-fits : goal.raise-requires-clause-fits
raise-requires-clause-fits c =
    let nodes : length c.self.inside.running ≡ c.args.self.now.nodes = ap (λ (t : Tally). t.nodes) c.self.view_is in
    let value = c.number.ensures.value in
    let some = c.number.ensures.range.0 in
    let node = c.requires.node in
    let running = c.self.invariant.running c.number.result some (omega (arith, nodes, value, node)) in
    let most = load-most c.self.invariant c.number.result in
    omega (arith, running, most)

pub overflow_add-self : goal.overflow_add-self
overflow_add-self c =
    let most = len-standings c.self.inside.slots.items in
    let all = c.self.invariant.all_slots in
    let e = c.self.invariant.counted in
    omega (arith, most, all, e)

pub invariant_of-self : goal.invariant_of-self
invariant_of-self c =
    let nodes : length c.self.inside.running ≡ c.args.self.now.nodes = ap (λ (t : Tally). t.nodes) c.self.view_is in
    let value = c.number.ensures.value in
    let node = c.requires.node in
    let free : standing_of c.index_mut.result.now ≡ None = sym (found_in c.self.invariant c.at.ensures.within c.index_mut.ensures.value c.self.view_is c.at.ensures.value) ∙ c.requires.free in
    connecting c.self.invariant c.at.ensures.within c.index_mut.ensures.value c.occupy.new.self c.number.ensures.range.0 (omega (arith, nodes, value, node)) free (rw value c.occupy.ensures.home) c.occupy.ensures.shares c.raise.ensures

pub returns : goal.returns
returns c =
    seen_as c.self.invariant c.at.ensures.within c.index_mut.ensures.value c.occupy.new.self c.raise.new.self
    (ap length c.raise.ensures ∙ length-set c.self.inside.running (c.number.result - 1) (at_node c.self.inside.running c.number.result + 840))
    c.self.view_is c.at.ensures.value (standing-is c.occupy.new.self _ _ c.occupy.ensures.home c.occupy.ensures.shares)
