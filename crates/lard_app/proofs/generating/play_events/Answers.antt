-- One more event was done, or it ended the run.
use Rattle.std.proofs.Common.{All, length, ap, subst, arith}
use Rattle.std.proofs.lemmas.List.Elements.{All-tail}
use Rattle.lard_schedule.specs.Events.{IsInLineRange}
use Rattle.lard_app.proofs.Played.{played-on}
use Rattle.lard_app.proofs.generating.play_events.Goals as goal

pub loop-event-preserved : goal.loop-event-preserved
loop-event-preserved c =
    let now = c.loop-event in
    let left = c.in-Some.ensures.steps.0 in
    let few = ap length left in record {
      played = played-on now.line now.world.machine c.settle_or_step.new.world.machine c.in-Some.event c.next.new.self.rest.items _ _ c.in-Ok.ensures.happens left now.invariant.played;
      usable = c.in-Ok.ensures.usable;
      agenda = c.in-Ok.ensures.agenda;
      range = All-tail IsInLineRange c.in-Some.event c.next.new.self.rest.items (subst (All IsInLineRange) left now.invariant.range);
      room = omega (arith, few, now.invariant.room);
    }
