-- The first has left the arrivals.
use Rattle.std.proofs.Common.{◌≡◌, ℕ, ◌-◌, ◌∷◌, subst, List, slice_set, arith}
use Rattle.lard_dispatch.specs.Line.{IsLineKept}
use Rattle.lard_dispatch.proofs.Kept.{Entry, behind-first, left-kept}
use Rattle.lard_dispatch.proofs.line.Line.pop.Goals as goal

pub invariant_of-self-2 : goal.invariant_of-self-2
invariant_of-self-2 c =
    let place : c.in_ok-first.first.c - 1 ≡ c.at.result = omega (arith, c.at.ensures.place) in
    let first : Entry = (c.in_ok-first.field-0-0, c.in_ok-first.first) in
    let old : IsLineKept (first ∷ c.pop_first.new.self.entries) c.self.inside.arrivals.items c.self.inside.next =
    subst (λ (es : List Entry). IsLineKept es c.self.inside.arrivals.items c.self.inside.next) c.in_ok-first.ensures.removal c.self.invariant in
    subst (λ (p : ℕ). IsLineKept c.pop_first.new.self.entries (slice_set c.self.inside.arrivals.items p 0) c.self.inside.next) place
    (left-kept (first ∷ c.pop_first.new.self.entries) c.pop_first.new.self.entries c.self.inside.arrivals.items c.self.inside.next c.in_ok-first.first.c old old.found.0.0
    (omega (arith, c.at.ensures.place, c.at.ensures.within)) c.pop_first.ensures.ordered (behind-first first c.pop_first.new.self.entries c.self.inside.arrivals.items c.self.inside.next old))
