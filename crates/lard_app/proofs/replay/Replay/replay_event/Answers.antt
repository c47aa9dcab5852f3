-- The journal grew, whether the event was done or ended the run, and the records that came were written.
use Rattle.std.proofs.Common.{◌≤◌, length, sym, ap, ◌∙◌, subst}
use Rattle.lard_settling.specs.Events.{event_step}
use Rattle.lard_app.specs.Seen.{replay_seen}
use Rattle.lard_app.proofs.Halts.{event-halts, writes-halts}
use Rattle.lard_app.proofs.Stopped.{event-longer, stopped-longer, stops-does}
use Rattle.lard_app.proofs.replay.Replay.replay_event.Goals as goal

pub write_records-requires : goal.write_records-requires
write_records-requires g c =
    subst (λ n. n ≤ length c.journal-in-Ok.result.now) (sym (c.len-before.ensures ∙ ap length c.journal.ensures))
    (subst (λ J. length c.args.self.now.world.machine.journal ≤ length J) (sym c.journal-in-Ok.ensures)
    (event-longer c.args.self.now.world.machine c.settle_or_step.new.world.machine c.args.event c.in-Ok.ensures.happens))

pub stop-requires : goal.stop-requires
stop-requires g c = λ some.
    subst (λ n. n ≤ length c.settle_or_step.new.world.machine.journal) (sym (c.len-before.ensures ∙ ap length c.journal.ensures))
    (stopped-longer c.args.self.now.world.machine c.settle_or_step.new.world.machine c.args.event c.in-Err.fault some c.in-Err.ensures.happens)

pub returns-in-Err-clause-taken : goal.returns-in-Err-clause-taken
returns-in-Err-clause-taken g c =
    stops-does (replay_seen c.args.self.now) (replay_seen (record c.args.self.now { world = c.settle_or_step.new.world; agenda = c.settle_or_step.new.agenda })) c.settle_or_step.new.world.machine (event_step c.args.self.now.world.machine c.args.event)
    (g.K.Sink.written c.args.sink.now) (g.K.Sink.written c.stop.new.sink) c.in-Err.fault c.stop.result _ (c.len-before.ensures ∙ ap length c.journal.ensures) c.in-Err.ensures.happens c.stop.ensures.stops

pub returns-in-Ok-clause-halts : goal.returns-in-Ok-clause-halts
returns-in-Ok-clause-halts g c = writes-halts _ _ _ _ _ c.write_records.result c.write_records.ensures.written

pub returns-in-Err-clause-halts : goal.returns-in-Err-clause-halts
returns-in-Err-clause-halts g c = event-halts _ _ c.in-Err.fault _ _ _ _ c.stop.result c.in-Err.ensures.happens c.stop.ensures.stops
