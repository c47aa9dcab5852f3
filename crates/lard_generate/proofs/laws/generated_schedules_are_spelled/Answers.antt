-- Part by part.
use Rattle.lard_generate.proofs.Spelled.{events_spelled, files_spelled}
use Rattle.lard_generate.proofs.laws.generated_schedules_are_spelled.Goals as goal

pub returns : goal.returns
returns c = record { events = events_spelled; files = files_spelled }
