-- What is looked up in the entries is looked up in the map.
use Rattle.std.proofs.Common.{sym, ap, ◌∙◌}
use Rattle.std.specs.FinMap as map
use Rattle.lard_table.proofs.Map.{get_is}
use Rattle.lard_agenda.proofs.register.Register.get.Goals as goal

pub returns : goal.returns
returns g c = c.copied.ensures ∙ c.get.ensures.value ∙ sym (get_is c.self.inside.all c.args.number) ∙ ap (λ m. map.get m c.args.number) c.self.view_is
