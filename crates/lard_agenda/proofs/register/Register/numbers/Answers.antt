-- The entries are those of the map.
use Rattle.std.proofs.Common.{sym, ap, ◌∙◌}
use Rattle.std.specs.FinMap as map
use Rattle.std.specs.Map.{keys_of}
use Rattle.lard_agenda.proofs.Entries.{entries_are}
use Rattle.lard_agenda.proofs.register.Register.numbers.Goals as goal

pub returns : goal.returns
returns g c = c.keys.ensures.rest ∙ ap keys_of (sym (entries_are c.self.inside.all.entries c.keys.ensures.ordered)) ∙ ap map.keys c.self.view_is
