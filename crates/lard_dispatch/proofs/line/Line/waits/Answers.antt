-- Who waits is found by the arrival.
use Rattle.std.proofs.Common.{ℕ, ap, ◌∙◌, is_some, List}
use Rattle.std.specs.Map.{lookup}
use Rattle.std.specs.BTreeMap.{is_at}
use Rattle.std.specs.Ordering.{nat_cmp}
use Rattle.lard_dispatch.specs.declared.line.Waiting.{Waiting}
use Rattle.lard_dispatch.specs.Line.{arrival_of, line_waits}
use Rattle.lard_dispatch.proofs.Kept.{waits-found}
use Rattle.lard_dispatch.proofs.line.Line.waits.Goals as goal

pub returns : goal.returns
returns c =
    c.contains_key.ensures
    ∙ ap (λ (a : ℕ). is_some (lookup (is_at (nat_cmp a)) c.self.inside.waiting.entries)) (c.arrival_of-arrival.ensures.value ∙ ap (λ (xs : List ℕ). arrival_of xs c.args.c) c.as_slice.ensures.value)
    ∙ waits-found c.self.inside.waiting.entries c.self.inside.arrivals.items c.self.inside.next c.args.c c.self.invariant c.arrival_of-arrival.ensures.some
    ∙ ap (λ (line : List Waiting). line_waits line c.args.c) c.self.view_is
