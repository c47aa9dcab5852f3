-- By what is read of what was spelled.
use Rattle.lard_law_connections.proofs.BytesMessages.{ends-read, forwards-read, offers-read}
use Rattle.lard_law_connections.proofs.messages_say_what_was_kept.Goals as goal

pub returns : goal.returns
returns c = record { offer = offers-read; forward = forwards-read; end = ends-read }
