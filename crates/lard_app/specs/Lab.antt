-- What the lab's command says, in the statuses of a run.
use Rattle.std.specs.Prelude.{◌≡◌, ◌⊎◌, ℕ, List, Option, Some, None}
use Rattle.lard_lab.specs.declared.policy.Policy.{Policy}
use Rattle.lard_lab_run.specs.declared.end.LabEnd.{LabEnd}
use Rattle.lard_lab_run.specs.declared.end.LabEnd.TheVariants as end
use Rattle.lard_lab_run.specs.declared.end.LabLimit.{LabLimit}
use Rattle.lard_lab_run.specs.declared.end.LabLimit.TheVariants as limit
use Rattle.lard_lab_run.specs.declared.end.LabWhy.{LabWhy}
use Rattle.lard_lab_run.specs.declared.end.LabWhy.TheVariants as reason
use Rattle.lard_lab_run.specs.Told.{LabRan}
use Rattle.lard_lab_run.specs.Trial.{lab_whole}
use Rattle.lard_law_view.specs.Prelude.{What}
use Rattle.lard_rules.specs.declared.fault.What.TheVariants as what
use Rattle.lard_app.specs.declared.status.Status.{Status}
use Rattle.lard_app.specs.declared.status.Status.TheVariants.{Done, Refused, ReadFault, WriteFault, NoMemory, Limit}
use Rattle.lard_app.specs.declared.status.Why.{Why}
use Rattle.lard_app.specs.declared.status.Why.TheVariants as why

abbrev pub lab_why : LabWhy → Why
lab_why reason.Syntax = why.Syntax
lab_why (reason.Config fault) = why.Config fault
lab_why (reason.File fault) = why.File fault
lab_why reason.NoFile = why.NoFile
lab_why (reason.NotOpen i) = why.NotOpen i

abbrev pub lab_limit : LabLimit → What
lab_limit limit.Input = what.Input
lab_limit limit.Requests = what.Requests

-- how the program ends where a lab ended so
abbrev pub lab_status : LabEnd → Status
lab_status end.Done = Done
lab_status (end.Refused line cause) = Refused line (lab_why cause)
lab_status end.ReadFault = ReadFault
lab_status end.WriteFault = WriteFault
lab_status end.NoMemory = NoMemory
lab_status (end.Limit line past) = Limit line (lab_limit past)

-- The lab ended so, and says all that it says.
abbrev pub Labs : Policy → Status → Option (List ℕ) → Option (List ℕ) → Option (List ℕ) → Option (List ℕ) → Type 0
Labs policy status left left_now old new = (ended : LabEnd) × (status ≡ lab_status ended) × LabRan policy ended left left_now old new

-- the status is that of a known trace, unless memory ran out
abbrev pub IsLabSettled : Policy → Status → Option (List ℕ) → Type 0
IsLabSettled policy status None = Unit {0}
IsLabSettled policy status (Some input) = (status ≡ lab_status (lab_whole policy input).0) ⊎ (status ≡ NoMemory)
