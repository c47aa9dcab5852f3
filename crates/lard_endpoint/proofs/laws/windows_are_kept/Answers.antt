-- The three laws, by their lemmas.
use Rattle.lard_endpoint.proofs.Windows.{emitted-allowed, end-stays, emitted-tells, timed-tells}
use Rattle.lard_endpoint.proofs.laws.windows_are_kept.Goals as goal

pub returns : goal.returns
returns c = record { sending = emitted-allowed; receiving = end-stays; telling = λ b r. (emitted-tells b r, timed-tells b r) }
