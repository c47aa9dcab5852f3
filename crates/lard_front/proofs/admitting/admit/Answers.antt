-- It is handed off as it waits.
use Rattle.lard_front.proofs.Admitted.{admitted_is}
use Rattle.lard_front.proofs.admitting.admit.Goals as goal

pub returns-clause-turn : goal.returns-clause-turn
returns-clause-turn c =
    admitted_is c.args.around.now c.args.state.now c.requires.holds c.new-service.result c.count_of.result c.in_ok-path.path c.args.choice c.hand_off.new.state c.in_ok-turn.turn
    c.new-service.ensures c.count_of.ensures c.in_ok-path.ensures c.in_ok-turn.ensures.turn
