-- The law is three lemmas of proofs/Satisfied.antt.
use Rattle.lard_ranges.proofs.Satisfied.{bytes, none-asked, asked-none}
use Rattle.lard_ranges.proofs.laws.parts_have_what_is_asked_for.Goals as goal

pub returns-clause-bytes : goal.returns-clause-bytes
returns-clause-bytes c = bytes

pub returns-clause-none : goal.returns-clause-none
returns-clause-none c = λ range n forward. (none-asked range n, λ h. asked-none range n forward h.0 h.1)
