-- It is put back before it is handed off.
use Rattle.std.proofs.Common.{sym, ◌∙◌, subst}
use Rattle.lard_handoff_front.specs.Front.{MayBeOffered}
use Rattle.lard_front.proofs.Offered.{back_found, placed_is, where_ok}
use Rattle.lard_front.proofs.placing.place.Goals as goal

pub hand_off-requires-clause-may : goal.hand_off-requires-clause-may
hand_off-requires-clause-may c =
    subst (λ o. MayBeOffered o c.args.service.count)
    (sym (back_found c.args.around.now c.args.state.now c.args.endpoint c.args.service c.args.path c.in-Ok-Go.choice c.requires.lends.row c.requires.lends.found c.put.new.self c.put.ensures))
    (c.requires.may, c.requires.asked, c.requires.lends.small)

pub returns-in-Ok-Go-clause-turn : goal.returns-in-Ok-Go-clause-turn
returns-in-Ok-Go-clause-turn c =
    let l = c.requires.lends in
    where_ok _ _ (λ turn handed. placed_is c.args.around.now c.args.state.now c.args.endpoint c.args.service c.args.path c.in-Ok-Go.choice l.row l.found
    c.put.ensures c.in-Ok-Go.ensures.ok (sym c.in-Ok-Go.field-0-is ∙ c.in-Ok-Go.ensures.answer) handed) c.hand_off.result c.hand_off.ensures.turn
