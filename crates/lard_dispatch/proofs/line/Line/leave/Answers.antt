-- What is left of the line, and of the arrivals.
use Rattle.std.proofs.Common.{◌≡◌, ℕ, ◌-◌, ap, ◌∙◌, subst, List, slice_set, arith}
use Rattle.std.specs.List.{AllByRecursion}
use Rattle.lard_dispatch.specs.Line.{arrival_of, IsLineKept, who, line_without}
use Rattle.lard_dispatch.proofs.Kept.{IsLeft, left-line, left-kept}
use Rattle.lard_dispatch.proofs.line.Line.leave.Goals as goal

rest : (c : goal.After-self-1) → (who c.remove.new.self.entries ≡ line_without c.args.self.now c.args.c) × AllByRecursion (IsLeft c.self.inside.arrivals.items c.self.inside.next c.args.c) c.remove.new.self.entries
rest c =
    left-line c.self.inside.waiting.entries c.remove.new.self.entries c.self.inside.arrivals.items c.self.inside.next c.args.c c.arrival_of-arrival.result c.args.self.now
    c.self.invariant c.arrival_of-arrival.ensures.some (c.arrival_of-arrival.ensures.value ∙ ap (λ (xs : List ℕ). arrival_of xs c.args.c) c.as_slice.ensures.value)
    c.remove.ensures.entries c.self.view_is

pub invariant_of-self : goal.invariant_of-self
invariant_of-self c =
    let place : c.args.c - 1 ≡ c.at.result = omega (arith, c.at.ensures.place) in
    subst (λ (p : ℕ). IsLineKept c.remove.new.self.entries (slice_set c.self.inside.arrivals.items p 0) c.self.inside.next) place
    (left-kept c.self.inside.waiting.entries c.remove.new.self.entries c.self.inside.arrivals.items c.self.inside.next c.args.c c.self.invariant c.arrival_of-arrival.ensures.some
    (omega (arith, c.at.ensures.place, c.at.ensures.within)) c.remove.ensures.ordered (rest c).1)

pub returns : goal.returns
returns c = (rest c).0
