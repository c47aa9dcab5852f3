use Rattle.std.proofs.Common.{length}
use Rattle.lard_audit_run.proofs.Back.{sound_passes}
use Rattle.lard_audit_run.proofs.Fronts.{fronts_sound}
use Rattle.lard_audit_run.proofs.One.{one_report}
use Rattle.lard_audit_run.proofs.Whole.{sound_passed}
use Rattle.lard_audit_run.proofs.laws.sound_reports_pass.Goals as goal

pub returns-clause-sound : goal.returns-clause-sound
returns-clause-sound c text = (
  λ e. let p = sound_passed text e.0 e.1 in (p.small, p.report),
  λ h. (length h.1.journal, sound_passes text h.1 h.0),
)

pub returns-clause-count : goal.returns-clause-count
returns-clause-count c text r small = sound_passes text r small

pub returns-clause-one : goal.returns-clause-one
returns-clause-one c text r s = one_report text r s

pub returns-clause-fronts : goal.returns-clause-fronts
returns-clause-fronts c text r before behind is = fronts_sound text r before behind is
