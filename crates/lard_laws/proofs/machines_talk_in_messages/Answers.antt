-- By what holds of each packet.
use Rattle.lard_laws.proofs.RecordsTalking.{packets-decode}
use Rattle.lard_laws.proofs.machines_talk_in_messages.Goals as goal

pub returns : goal.returns
returns c = record { messages = packets-decode }
