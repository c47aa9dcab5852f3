-- The machine began with the schedule's files, and its journal is kept.
use Rattle.std.proofs.Common.{◌≡◌, Ok, Err, ap, ◌∙◌, subst}
use Rattle.lard_law_view.specs.Prelude.{Machine, machine_start}
use Rattle.lard_app.specs.Generate.{GivesRun, run_begins, first_line, played}
use Rattle.lard_app.proofs.Giving.{plays-done, plays-stopped}
use Rattle.lard_app.proofs.generating.play.Goals as goal

pub returns-in-Ok-done : goal.returns-in-Ok-done
returns-in-Ok-done c =
    let begins_is : c.in-Ok.world.machine ≡ run_begins c.args.schedule = c.in-Ok.ensures.machine ∙ ap (λ k. machine_start k c.args.schedule.files) c.large.ensures in
    subst (λ (m : Machine). GivesRun (played first_line m c.args.schedule.events) (λ k. k.journal) (Ok c.finish-journal.result)) begins_is
    (plays-done (played first_line c.in-Ok.world.machine c.args.schedule.events) c.play_events-done.new.world.machine c.finish-journal.result c.in-Ok-done.ensures c.finish-journal.ensures)

pub returns-in-Err-done : goal.returns-in-Err-done
returns-in-Err-done c =
    let begins_is : c.in-Ok.world.machine ≡ run_begins c.args.schedule = c.in-Ok.ensures.machine ∙ ap (λ k. machine_start k c.args.schedule.files) c.large.ensures in
    subst (λ (m : Machine). GivesRun (played first_line m c.args.schedule.events) (λ k. k.journal) (Err c.in-Err-done.status)) begins_is
    (plays-stopped (played first_line c.in-Ok.world.machine c.args.schedule.events) c.play_events-done.new.world.machine (λ k. k.journal) c.in-Err-done.status c.in-Err-done.ensures)
