-- The laws of messages and their bytes. They speak of no kind by its name, so that a further version changes none of them.
use Rattle.std.specs.Prelude.{◌≡◌, ℕ, ◌<◌, ◌≤◌, List, [], ◌++◌, length, slice_index, Ok, Err}
use Rattle.lard_base.specs.declared.limits.TheConstants.{MAX_MESSAGE_BYTES}
use Rattle.lard_message.specs.declared.fault.MsgFault.{MsgFault}
use Rattle.lard_message.specs.declared.message.Message.{Message}
use Rattle.lard_message.specs.Faults.{IsFirstFault}
use Rattle.lard_message.specs.Message.{IsMessage, spelled_message}
use Rattle.lard_message.specs.Reading.{decoded_message}

abbrev pub AreBytes : List ℕ → Type 0
AreBytes bytes = (i : ℕ) → slice_index bytes i < 256

-- What was written is read again.
abbrev pub ReadsAgain : Type 0
ReadsAgain = (m : Message) → IsMessage m → decoded_message (spelled_message m) ≡ Ok m

-- What is read is spelled so, each byte of it.
abbrev pub ReadsWhatIsSpelled : Type 0
ReadsWhatIsSpelled = (bytes : List ℕ) (m : Message) → AreBytes bytes → decoded_message bytes ≡ Ok m → IsMessage m × (spelled_message m ≡ bytes)

-- A fault is the first that applies.
abbrev pub NamesTheFirstFault : Type 0
NamesTheFirstFault = (bytes : List ℕ) (e : MsgFault) → decoded_message bytes ≡ Err e → IsFirstFault bytes e

-- Two messages have two spellings.
abbrev pub SpellsOneMessage : Type 0
SpellsOneMessage = (m n : Message) → IsMessage m → IsMessage n → spelled_message m ≡ spelled_message n → m ≡ n

-- No spelling is a proper prefix of another.
abbrev pub NoneBeginsAnother : Type 0
NoneBeginsAnother = (m n : Message) (rest : List ℕ) → IsMessage m → IsMessage n → spelled_message m ++ rest ≡ spelled_message n → rest ≡ []

-- A spelling is no longer than a packet may be.
abbrev pub FitsAPacket : Type 0
FitsAPacket = (m : Message) → IsMessage m → length (spelled_message m) ≤ MAX_MESSAGE_BYTES
