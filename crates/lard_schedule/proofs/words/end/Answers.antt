use Rattle.std.proofs.Common.{sym}
use Rattle.lard_schedule.proofs.Cuts.{some_word}
use Rattle.lard_schedule.proofs.words.end.Goals as goal

pub returns-in-Some : goal.returns-in-Some
returns-in-Some c = rw c.in-Some.is (sym (some_word c.in-Some.field-0.now))
