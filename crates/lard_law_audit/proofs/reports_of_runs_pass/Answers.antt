-- The report is a sound one, and such texts pass.
use Rattle.std.proofs.Common.{List, length, ap, ◌∙◌}
use Rattle.lard_audit_run.specs.declared.verdict.Verdict.TheVariants.{Sound}
use Rattle.lard_law_audit.proofs.Reporting.{report-has, reports-sound}
use Rattle.lard_law_audit.specs.Reports.{run_report}
use Rattle.lard_law_audit.proofs.reports_of_runs_pass.Goals as goal
use Rattle.lard_law_view.specs.Prelude.{Rec}

pub returns-clause-sound : goal.returns-clause-sound
returns-clause-sound c = reports-sound

pub returns-clause-passes : goal.returns-clause-passes
returns-clause-passes c config files m run widths small =
    c.sound_reports_pass.ensures.count (run_report config files m) (reports-sound config files m run widths) small ∙ ap (λ (J : List Rec). Sound (length J)) (report-has config files m run widths)
