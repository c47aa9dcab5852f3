-- A connection whose endpoint was taken out may have it back.
use Rattle.std.proofs.Common.{◌≡◌, true, OnSome, ap, subst}
use Rattle.std.specs.FinMap.{get}
use Rattle.lard_handoff_back.specs.Back.{back_may_put}
use Rattle.lard_handoff_back.proofs.Stages.{out_is}
use Rattle.lard_handoff_back.proofs.table.BackTable.take.Goals as goal

pub returns-clause-out : goal.returns-clause-out
returns-clause-out c = subst (λ m. OnSome c.into_endpoint.result (back_may_put m ≡ true)) (ap (get c.set_stage.new.conns) c.number-number.ensures.value) (out_is (get c.set_stage.new.conns c.number-number.result) c.into_endpoint.result c.set_stage.ensures.there)
