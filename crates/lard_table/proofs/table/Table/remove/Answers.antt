-- What is taken out of the entries is taken out of the map.
use Rattle.std.proofs.Common.{sym, ap, ◌∙◌}
use Rattle.std.specs.FinMap as map
use Rattle.lard_table.proofs.Map.{get_is, removed}
use Rattle.lard_table.proofs.table.Table.remove.Goals as goal

pub returns-clause-before : goal.returns-clause-before
returns-clause-before g c = c.remove.ensures.value ∙ sym (get_is c.self.inside.all c.args.number) ∙ ap (λ m. map.get m c.args.number) c.self.view_is

pub returns-clause-after : goal.returns-clause-after
returns-clause-after g c = removed c.self.inside.all c.remove.new.self c.args.number c.remove.ensures.updates ∙ ap (λ m. map.remove m c.args.number) c.self.view_is
