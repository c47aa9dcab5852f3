-- The slot is free, and the home has a whole less.
use Rattle.std.proofs.Common.{◌≡◌, ◌-◌, length, Some, refl, ap, ◌∙◌}
use Rattle.std.proofs.lemmas.List.{length-set}
use Rattle.lard_loads.specs.Running.{at_node}
use Rattle.lard_loads.proofs.Batches.{HasHome}
use Rattle.lard_loads.proofs.Calls.{freeing, home_known, home_read, none_known, now_gone, someone, whole_there}
use Rattle.lard_loads.proofs.Tallies.{seen_as}
use Rattle.lard_loads.proofs.loads.Loads.free.Goals as goal

pub unwrap-home-requires : goal.unwrap-home-requires
unwrap-home-requires c =
    let home : HasHome c.index_mut-slot.result.now = home_known c.self.invariant c.at.ensures.within c.index_mut-slot.ensures.value c.self.view_is c.at.ensures.value c.requires.admitted in
    rw (c.home.ensures ∙ home.is) refl

pub lower-requires-clause-there : goal.lower-requires-clause-there
lower-requires-clause-there c =
    let home : c.index_mut-slot.result.now.home ≡ Some c.number.result = home_read c.home.ensures c.unwrap-home.ensures c.number.ensures.value in
    let none = none_known c.self.invariant c.at.ensures.within c.index_mut-slot.ensures.value c.self.view_is c.at.ensures.value home c.requires.no_shares in
    whole_there c.self.invariant c.at.ensures.within c.index_mut-slot.ensures.value c.vacate.new.self home none c.vacate.ensures.home

pub overflow_sub-self : goal.overflow_sub-self
overflow_sub-self c =
    let home : c.index_mut-slot.result.now.home ≡ Some c.number.result = home_read c.home.ensures c.unwrap-home.ensures c.number.ensures.value in
    let none = none_known c.self.invariant c.at.ensures.within c.index_mut-slot.ensures.value c.self.view_is c.at.ensures.value home c.requires.no_shares in
    someone c.self.invariant c.at.ensures.within c.index_mut-slot.ensures.value c.vacate.new.self home none c.vacate.ensures.home

pub invariant_of-self : goal.invariant_of-self
invariant_of-self c =
    let home : c.index_mut-slot.result.now.home ≡ Some c.number.result = home_read c.home.ensures c.unwrap-home.ensures c.number.ensures.value in
    let none = none_known c.self.invariant c.at.ensures.within c.index_mut-slot.ensures.value c.self.view_is c.at.ensures.value home c.requires.no_shares in
    freeing c.self.invariant c.at.ensures.within c.index_mut-slot.ensures.value c.vacate.new.self home none c.vacate.ensures.home c.vacate.ensures.shares c.lower.ensures

pub returns : goal.returns
returns c =
    let home : c.index_mut-slot.result.now.home ≡ Some c.number.result = home_read c.home.ensures c.unwrap-home.ensures c.number.ensures.value in
    let none = none_known c.self.invariant c.at.ensures.within c.index_mut-slot.ensures.value c.self.view_is c.at.ensures.value home c.requires.no_shares in
    seen_as c.self.invariant c.at.ensures.within c.index_mut-slot.ensures.value c.vacate.new.self c.lower.new.self
    (ap length c.lower.ensures ∙ length-set c.self.inside.running (c.number.result - 1) (at_node c.self.inside.running c.number.result - 840))
    c.self.view_is c.at.ensures.value (now_gone c.self.invariant c.at.ensures.within c.index_mut-slot.ensures.value c.vacate.new.self home none c.vacate.ensures.home)
