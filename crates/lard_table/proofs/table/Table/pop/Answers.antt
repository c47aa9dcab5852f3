-- The first entry is taken out, so one fewer is left.
use Rattle.std.proofs.Common.{sym, ap, ◌∙◌}
use Rattle.std.specs.FinMap as map
use Rattle.lard_table.proofs.Map.{removed, shorter, get_is, map_of}
use Rattle.lard_table.proofs.table.Table.pop.Goals as goal

pub returns-in-Some-clause-some : goal.returns-in-Some-clause-some
returns-in-Some-clause-some g c = record {
  number = c.in-Some.field-0-0;
  found = sym (ap (λ m. map.get m c.in-Some.field-0-0) c.self.view_is) ∙ get_is c.self.inside.all c.in-Some.field-0-0 ∙ c.in-Some.ensures.value;
  rest = removed c.self.inside.all c.pop_first.new.self c.in-Some.field-0-0 c.in-Some.ensures.updates ∙ ap (λ m. map.remove m c.in-Some.field-0-0) c.self.view_is;
}

pub returns-in-Some-clause-len : goal.returns-in-Some-clause-len
returns-in-Some-clause-len g c = shorter c.args.self.now (map_of c.pop_first.new.self) c.in-Some.field-0-0 c.in-Some.value
    (sym (ap (λ m. map.get m c.in-Some.field-0-0) c.self.view_is) ∙ get_is c.self.inside.all c.in-Some.field-0-0 ∙ c.in-Some.ensures.value)
    (removed c.self.inside.all c.pop_first.new.self c.in-Some.field-0-0 c.in-Some.ensures.updates ∙ ap (λ m. map.remove m c.in-Some.field-0-0) c.self.view_is)
