-- The first entry of the range has the least number, and a range without entries has no number.
use Rattle.std.proofs.Common.{subst}
use Rattle.lard_table.specs.Table.{IsLast, IsNextAbove}
use Rattle.lard_table.proofs.Ordered.{next_found, none_found}
use Rattle.lard_table.proofs.table.Table.next_above.Goals as goal

pub returns-in-Some-clause-some : goal.returns-in-Some-clause-some
returns-in-Some-clause-some g c =
    subst (λ m. IsNextAbove m c.args.number c.in-Some.next.now c.in-Some.value.now) c.self.view_is
    (next_found c.self.inside.all c.args.number c.range.result c.next.new.self (c.in-Some.next.now, c.in-Some.value.now) (c.range.ensures.in_range tt) c.in-Some.ensures.steps)

pub returns-in-None-clause-none : goal.returns-in-None-clause-none
returns-in-None-clause-none g c =
    subst (λ m. IsLast m c.args.number) c.self.view_is (none_found c.self.inside.all c.args.number c.range.result (c.range.ensures.in_range tt) c.in-None.ensures.steps.0)
