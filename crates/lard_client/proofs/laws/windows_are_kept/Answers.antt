-- The three laws, by their lemmas.
use Rattle.lard_client.proofs.Windows.{emitted-allowed, end-stays, emitted-tells, timed-tells}
use Rattle.lard_client.proofs.laws.windows_are_kept.Goals as goal

pub returns : goal.returns
returns c = record { sending = emitted-allowed; receiving = end-stays; telling = λ x r. (emitted-tells x r, timed-tells x r) }
