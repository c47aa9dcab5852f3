-- No entry is left where the map is empty.
use Rattle.std.proofs.Common.{◌∙◌}
use Rattle.lard_table.proofs.Map.{none_left}
use Rattle.lard_table.proofs.table.Table.destroy_empty.Goals as goal

pub destroy_empty-requires : goal.destroy_empty-requires
destroy_empty-requires g c = none_left c.self.inside.all (c.self.view_is ∙ c.requires)
