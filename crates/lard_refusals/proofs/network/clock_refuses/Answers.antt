use Rattle.std.proofs.Common.{◌≡◌, ◌+◌, Some, arith, refl}
use Rattle.lard_base.specs.declared.event.Event.TheVariants as event
use Rattle.lard_refusals.proofs.network.clock_refuses.Goals as goal

pub returns-clause-a_millisecond_lost : goal.returns-clause-a_millisecond_lost
returns-clause-a_millisecond_lost c h =
    let by = h.1.0.0 in
    let moved : Some (event.Clock 5) ≡ Some (event.Clock by) = h.1.0.1 in
    let five : 5 ≡ by = cc in
    let told : 4 ≡ 0 + by = h.1.0.2 in
    omega arith

pub returns-clause-time_of_its_own : goal.returns-clause-time_of_its_own
returns-clause-time_of_its_own c h = let e : Some (event.Shut 1) ≡ Some (event.Clock h.1.0.0) = h.1.0.1 in cc

pub returns-clause-five_milliseconds_told : goal.returns-clause-five_milliseconds_told
returns-clause-five_milliseconds_told c = (tt, ((5, refl, refl), tt))
