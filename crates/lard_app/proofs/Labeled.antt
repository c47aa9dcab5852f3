-- A lab's ends are statuses of their own.
use Rattle.std.proofs.Common.{◌≡◌, inl, inr, ℕ, List, Option, Some, None, refl, sym, ap, ◌∙◌}
use Rattle.lard_lab.specs.declared.policy.Policy.{Policy}
use Rattle.lard_lab_run.specs.declared.end.LabEnd.{LabEnd}
use Rattle.lard_lab_run.specs.declared.end.LabEnd.TheVariants as end
use Rattle.lard_lab_run.specs.Run.{IsSettledLab}
use Rattle.lard_lab_run.specs.Trial as trial
use Rattle.lard_app.specs.declared.status.Status.{Status}
use Rattle.lard_app.specs.declared.status.Status.TheVariants.{Usage, ReadFault}
use Rattle.lard_app.specs.Lab.{IsLabSettled, Labs, lab_status}
use Rattle.lard_app.specs.Replay.{EndsCount}

not-usage : (e : LabEnd) → ¬ (lab_status e ≡ Usage)
not-usage end.Done is = cc
not-usage (end.Refused line cause) is = cc
not-usage end.ReadFault is = cc
not-usage end.WriteFault is = cc
not-usage end.NoMemory is = cc
not-usage (end.Limit line past) is = cc

pub labs-not-usage : (policy : Policy) (status : Status) (left left_now old new : Option (List ℕ)) → Labs policy status left left_now old new → ¬ (status ≡ Usage)
labs-not-usage policy status left left_now old new l is = not-usage l.0 (sym l.1 ∙ is)

pub read-back : (e : LabEnd) → lab_status e ≡ ReadFault → e ≡ end.ReadFault
read-back end.Done is = cc
read-back (end.Refused line cause) is = cc
read-back end.ReadFault is = refl
read-back end.WriteFault is = cc
read-back end.NoMemory is = cc
read-back (end.Limit line past) is = cc

-- the count of a sink's faults is told alike
pub counts : (before now : ℕ) (e : LabEnd) → trial.EndsLabCount before now e → EndsCount before now (lab_status e)
counts before now end.Done h = h
counts before now (end.Refused line cause) h = h
counts before now end.ReadFault h = h
counts before now end.WriteFault h = h
counts before now end.NoMemory h = h
counts before now (end.Limit line past) h = h

pub labs-settled : (policy : Policy) (e : LabEnd) (left : Option (List ℕ)) → IsSettledLab policy e left → IsLabSettled policy (lab_status e) left
labs-settled policy e None h = tt
labs-settled policy e (Some input) (inl is) = inl (ap lab_status is)
labs-settled policy e (Some input) (inr is) = inr (ap lab_status is)
