-- The rule was followed on the station that was taken out.
use Rattle.std.proofs.Common.{[], ◌∷◌, Ok, refl, ap, ◌∙◌}
use Rattle.lard_base.specs.declared.event.Event.TheVariants.{Inject}
use Rattle.lard_journal.specs.declared.rec.Rec.TheVariants.{Injected}
use Rattle.lard_rules.specs.Client.{client_injects}
use Rattle.lard_rules.specs.Machine.{client_acts}
use Rattle.lard_stepping.proofs.Lent.{client_done}
use Rattle.lard_stepping.proofs.stations.inject.Goals as goal

pub returns-clause-step : goal.returns-clause-step
unfolding client_acts
returns-clause-step c =
    let x = c.in-Some.acting.station in
    client_done (client_acts c.args.machine.now (Inject c.args.c c.args.bytes) (Injected c.args.c ∷ []) c.args.c (λ b. client_injects b c.args.bytes)) Ok c.args.machine.now c.take_out.new.machine c.put_back.new.machine (Inject c.args.c c.args.bytes) (Injected c.args.c ∷ []) c.args.c c.in-Some.acting.c x c.in-Some.acting.was_armed
    (x.client, c.in_ok-turn.turn) (client_injects x.client c.args.bytes) refl c.in-Some.ensures.found c.in-Some.ensures.same c.in-Some.ensures.armed c.in-Some.ensures.after (c.in_ok-turn.ensures.turn ∙ ap (client_injects x.client) c.in_ok-copy.ensures) c.in_ok-put_back.ensures.ok
