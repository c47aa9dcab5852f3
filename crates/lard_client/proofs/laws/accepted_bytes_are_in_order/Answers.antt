-- The laws, by their lemmas.
use Rattle.lard_client.proofs.Accepted.{arrived-order, arrived-bounded, arrived-ended, arrived-reply}
use Rattle.lard_client.proofs.laws.accepted_bytes_are_in_order.Goals as goal

pub returns : goal.returns
returns c = record { order = arrived-order; bounded = arrived-bounded; ended = arrived-ended; replies = arrived-reply }
