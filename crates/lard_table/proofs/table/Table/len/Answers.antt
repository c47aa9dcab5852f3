-- There are as many entries as numbers with a value.
use Rattle.std.proofs.Common.{sym, ap, ◌∙◌}
use Rattle.std.specs.FinMap as map
use Rattle.lard_table.proofs.Ordered.{len_is}
use Rattle.lard_table.proofs.table.Table.len.Goals as goal

pub returns : goal.returns
returns g c = c.len.ensures.len ∙ sym (len_is c.self.inside.all.entries c.len.ensures.ordered) ∙ ap map.len c.self.view_is
