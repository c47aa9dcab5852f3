-- The four laws, by their lemmas.
use Rattle.lard_send.proofs.Unacknowledged.{kept-queued, kept-ack, kept-next, kept-resend, pieces}
use Rattle.lard_send.proofs.laws.pieces_are_parts_of_the_queue.Goals as goal

pub returns : goal.returns
returns c = record { queueing = kept-queued; acknowledging = kept-ack; sending = λ s all h. (kept-next s all h, kept-resend s all h); pieces = pieces }
