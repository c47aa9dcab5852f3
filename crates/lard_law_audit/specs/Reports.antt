-- That reports of runs pass an audit, as they are written.
use Rattle.std.specs.Prelude.{◌≡◌, ℕ, ◌≤◌, ◌^◌, List, [], length, Ok}
use Rattle.lard_audit_run.specs.Audited.{audited}
use Rattle.lard_audit_run.specs.Reports.{IsSoundReport, MayBeAdded}
use Rattle.lard_audit_run.specs.declared.verdict.Verdict.TheVariants.{Sound}
use Rattle.lard_history.proofs.Each.{Each}
use Rattle.lard_law_audit.specs.Laws.{file_lengths}
use Rattle.lard_law_view.specs.Prelude.{Config, Event, Machine, config_check, machine_start, report}
use Rattle.lard_report.specs.Formed.{HaveWidths, IsEventFormed}
use Rattle.lard_settling.specs.Events.{LeadsTo}

-- A run of such files and events, with a configuration that may be used: each file has a path that a file may have, and may be added to those
-- before; and each event has the form of one that a schedule gives.
pub record IsRunOf (config : Config) (files : List (List ℕ × List ℕ)) (m : Machine) : Type 0 where
  pub usable : config_check config ≡ Ok tt
  pub addable : MayBeAdded [] (file_lengths files)
  pub events : List Event
  pub formed : Each IsEventFormed events
  pub leads : LeadsTo (machine_start config files) events m

-- the text that is written of it
abbrev pub run_report : Config → List (List ℕ × List ℕ) → Machine → List ℕ
run_report config files m = report config (file_lengths files) m.journal

-- It is a sound report, wherever the run ended, also inside a settle, where the numbers of its records have the widths of their types.
abbrev pub ReportsAreSound : Type 0
ReportsAreSound = (config : Config) (files : List (List ℕ × List ℕ)) (m : Machine) → IsRunOf config files m → HaveWidths m.journal → IsSoundReport (run_report config files m)

-- So its audit passes, unless it is too long, with as many records as the run has.
abbrev pub ReportsPass : Type 0
ReportsPass = (config : Config) (files : List (List ℕ × List ℕ)) (m : Machine) → IsRunOf config files m → HaveWidths m.journal → length (run_report config files m) ≤ 2 ^ 30
    → audited (run_report config files m) ≡ Sound (length m.journal)
