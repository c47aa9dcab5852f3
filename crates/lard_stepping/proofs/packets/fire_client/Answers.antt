-- The rule was followed on the station that was taken out.
use Rattle.std.proofs.Common.{[], Ok, refl}
use Rattle.lard_base.specs.declared.event.Event.TheVariants.{Timer}
use Rattle.lard_base.specs.declared.place.Place.TheVariants.{Client}
use Rattle.lard_rules.specs.Client.{client_timer}
use Rattle.lard_rules.specs.Machine.{timer}
use Rattle.lard_stepping.proofs.Lent.{client_done}
use Rattle.lard_stepping.proofs.packets.fire_client.Goals as goal

pub returns-clause-step : goal.returns-clause-step
unfolding timer
returns-clause-step c =
    let x = c.in-Some.acting.station in
    client_done (timer c.args.machine.now (Client c.args.c) c.args.c) Ok c.args.machine.now c.take_out.new.machine c.put_back.new.machine (Timer (Client c.args.c) c.args.c) [] c.args.c c.in-Some.acting.c x c.in-Some.acting.was_armed
    (c.fire.new.client, c.in_ok-turn.turn) (client_timer x.client) refl c.in-Some.ensures.found c.in-Some.ensures.same c.in-Some.ensures.armed c.in-Some.ensures.after c.in_ok-turn.ensures.turn c.in_ok-put_back.ensures.ok
