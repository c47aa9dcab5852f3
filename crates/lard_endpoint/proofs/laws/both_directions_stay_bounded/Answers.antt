-- Each rule that changes a half, by its lemma.
use Rattle.lard_endpoint.proofs.Sound.{on_segment-sound, after_emit-sound, after_timer-sound, queueing-sound}
use Rattle.lard_endpoint.proofs.laws.both_directions_stay_bounded.Goals as goal

pub returns-clause-arriving : goal.returns-clause-arriving
returns-clause-arriving c = on_segment-sound

pub returns-clause-leaving : goal.returns-clause-leaving
returns-clause-leaving c = λ b h. (after_emit-sound b h, after_timer-sound b h)

pub returns-clause-queueing : goal.returns-clause-queueing
returns-clause-queueing c = queueing-sound
