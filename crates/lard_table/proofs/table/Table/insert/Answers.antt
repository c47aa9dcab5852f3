-- What is set in the entries is set in the map.
use Rattle.std.proofs.Common.{sym, ap, ◌∙◌}
use Rattle.std.specs.FinMap as map
use Rattle.std.proofs.lemmas.Result.{IfOk-weaker, on_ok_weaker}
use Rattle.lard_table.proofs.Map.{get_is, inserted}
use Rattle.lard_table.proofs.table.Table.insert.Goals as goal

pub returns-clause-before : goal.returns-clause-before
returns-clause-before g c = IfOk-weaker c.insert.result _ _ (λ b h. h ∙ sym (get_is c.self.inside.all c.args.number) ∙ ap (λ m. map.get m c.args.number) c.self.view_is) c.insert.ensures.old

pub returns-clause-ok : goal.returns-clause-ok
returns-clause-ok g c = on_ok_weaker c.insert.result (λ h. inserted c.self.inside.all c.insert.new.self c.args.number c.args.value h ∙ ap (λ m. map.insert m c.args.number c.args.value) c.self.view_is) c.insert.ensures.updates
