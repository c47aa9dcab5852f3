-- The slot has as many as the tally, and none is where there is no home.
use Rattle.std.proofs.Common.{ℕ, Option, length, ap, sym, ◌∙◌}
use Rattle.lard_loads.specs.Slot.{shares_open_in, standing_with}
use Rattle.lard_loads.specs.Tally.{shares_of}
use Rattle.lard_loads.proofs.Calls.{shares_known}
use Rattle.lard_loads.proofs.Tallies.{found_in}
use Rattle.lard_loads.proofs.loads.Loads.open_shares.Goals as goal

pub returns-in-Some : goal.returns-in-Some
returns-in-Some c = c.open_shares.ensures ∙ sym (shares_known c.self.invariant c.at.ensures.within c.index-slot.ensures c.self.view_is c.at.ensures.value (sym c.home.ensures ∙ c.in-Some.is))

pub returns-in-None : goal.returns-in-None
returns-in-None c =
    sym (ap (λ o. length (shares_of o)) (found_in c.self.invariant c.at.ensures.within c.index-slot.ensures c.self.view_is c.at.ensures.value
    ∙ ap (λ (h : Option ℕ). standing_with h (shares_open_in c.index-slot.result.now)) (sym c.home.ensures ∙ c.in-None.is)))
