-- The rule was followed on the station that was taken out.
use Rattle.std.proofs.Common.{[], Ok, refl}
use Rattle.lard_base.specs.declared.event.Event.TheVariants.{Take}
use Rattle.lard_rules.specs.Client.{client_takes}
use Rattle.lard_rules.specs.Machine.{client_acts}
use Rattle.lard_stepping.proofs.Lent.{client_done}
use Rattle.lard_stepping.proofs.stations.take.Goals as goal

pub returns-clause-step : goal.returns-clause-step
unfolding client_acts
returns-clause-step c =
    let x = c.in-Some.acting.station in
    client_done (client_acts c.args.machine.now (Take c.args.c) [] c.args.c client_takes) Ok c.args.machine.now c.take_out.new.machine c.put_back.new.machine (Take c.args.c) [] c.args.c c.in-Some.acting.c x c.in-Some.acting.was_armed
    (c.take.new.client, c.in_ok-turn.turn) (client_takes x.client) refl c.in-Some.ensures.found c.in-Some.ensures.same c.in-Some.ensures.armed c.in-Some.ensures.after c.in_ok-turn.ensures.turn c.in_ok-put_back.ensures.ok
