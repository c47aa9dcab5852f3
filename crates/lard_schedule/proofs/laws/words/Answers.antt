use Rattle.lard_schedule.proofs.Sentences.{text_back, sentence_words}
use Rattle.lard_schedule.proofs.laws.words.Goals as goal

pub returns-clause-line : goal.returns-clause-line
returns-clause-line c line = text_back line

pub returns-clause-words : goal.returns-clause-words
returns-clause-words c words apart = sentence_words words apart
