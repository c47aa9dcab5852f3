-- Nothing but the batch changes, and it has as many requests as before.
use Rattle.std.proofs.Common.{length, ap, ◌∙◌}
use Rattle.lard_stay.specs.Work.{progress_by}
use Rattle.lard_stay.proofs.Arrived.{come-length, sound_came}
use Rattle.lard_stay.proofs.coming.come_on.Goals as goal

pub returns-clause-sound : goal.returns-clause-sound
returns-clause-sound c = λ b s.
    sound_came b c.args.work.now c.from_vec.result
    (ap length (c.from_vec.ensures ∙ c.brought_on.ensures) ∙ come-length (progress_by c.args.coming) c.into_vec-entries.result.items _ ∙ ap length (c.into_vec-entries.ensures ∙ c.replace.ensures.value))
    s
