-- The law is two lemmas of proofs/Reading.antt.
use Rattle.lard_request.proofs.Reading.{head-sound, head-complete}
use Rattle.lard_request.proofs.laws.reads_the_grammar.Goals as goal

pub returns : goal.returns
returns c = λ b h. (head-sound b h, head-complete b h)
