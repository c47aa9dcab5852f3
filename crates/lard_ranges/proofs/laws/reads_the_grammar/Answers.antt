-- The law is two lemmas of proofs/Spelling.antt.
use Rattle.lard_ranges.proofs.Spelling.{read-sound, read-complete}
use Rattle.lard_ranges.proofs.laws.reads_the_grammar.Goals as goal

pub returns : goal.returns
returns c = λ value range. (read-sound value range, read-complete value range)
