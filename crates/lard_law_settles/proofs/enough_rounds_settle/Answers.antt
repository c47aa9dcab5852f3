-- State by state, and record by record.
use Rattle.lard_law_settles.proofs.EnoughLaw.{runs-settle, settles-end-quiet, settles-rest}
use Rattle.lard_law_settles.proofs.enough_rounds_settle.Goals as goal

pub returns : goal.returns
returns c = record { settles = settles-end-quiet; rests = settles-rest; runs = runs-settle }
