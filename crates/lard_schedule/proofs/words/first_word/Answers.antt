use Rattle.std.proofs.Common.{sym, ap}
use Rattle.lard_schedule.specs.Words.{first_word_of}
use Rattle.lard_schedule.proofs.Cuts.{words_at, words_alone}
use Rattle.lard_schedule.proofs.words.first_word.Goals as goal

pub returns-in-Some : goal.returns-in-Some
returns-in-Some c = sym (ap first_word_of (words_at c.args.line.now c.in-Some.at (sym c.in-Some.ensures)))

pub returns-in-None : goal.returns-in-None
returns-in-None c = sym (ap first_word_of (words_alone c.args.line.now (sym c.in-None.ensures)))
