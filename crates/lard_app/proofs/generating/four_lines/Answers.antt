-- The schedule that was made is replayed, and what is counted is of its journal.
use Rattle.std.proofs.Common.{All, Ok, Err, sym, ap, ◌∙◌, subst}
use Rattle.lard_law_view.specs.Prelude.{Machine}
use Rattle.lard_generate.specs.declared.schedule.Schedule.{Schedule}
use Rattle.lard_schedule.specs.Events.{IsInLineRange}
use Rattle.lard_summary.specs.Lines.{summary}
use Rattle.lard_app.specs.declared.status.Status.{Status}
use Rattle.lard_app.specs.Generate.{GivesRun, run_of}
use Rattle.lard_app.proofs.Giving.{gives-no-other, run-is}
use Rattle.lard_app.proofs.Spelled.{in-range}
use Rattle.lard_app.proofs.generating.four_lines.Goals as goal

pub play-requires : goal.play-requires
play-requires c = record { range = subst (λ (s : Schedule). All IsInLineRange s.events) (sym c.in-Ok.ensures) (in-range c.args.seed c.args.clients c.requires.clients.1) }

pub returns-in-Err-play : goal.returns-in-Err-play
returns-in-Err-play c =
    gives-no-other (run_of c.args.seed c.args.clients) (λ m. m.journal) (λ m. summary c.args.seed c.args.clients m.journal) c.in-Err-play.status
    (subst (λ (p : Machine × Status). GivesRun p (λ m. m.journal) (Err c.in-Err-play.status)) (run-is c.args.seed c.args.clients c.in-Ok.schedule c.in-Ok.ensures) c.in-Err-play.ensures)

pub returns-in-Ok-summary : goal.returns-in-Ok-summary
returns-in-Ok-summary c =
    let played_ = subst (λ (p : Machine × Status). GivesRun p (λ m. m.journal) (Ok c.in-Ok-play.journal)) (run-is c.args.seed c.args.clients c.in-Ok.schedule c.in-Ok.ensures) c.in-Ok-play.ensures in
    (played_.0, c.in-Ok-summary.ensures ∙ ap (summary c.args.seed c.args.clients) (c.as_slice.ensures ∙ played_.1))
