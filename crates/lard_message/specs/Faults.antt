-- What is wrong with bytes that are no message, fault by fault, and that an answer names the first that applies.
use Rattle.std.specs.Prelude.{◌≡◌, ℕ, ◌+◌, ◌<◌, List, [], ◌∷◌, length}
use Rattle.std.specs.List.{AllByRecursion}
use Rattle.lard_message.specs.declared.fault.MsgFault.{MsgFault}
use Rattle.lard_message.specs.declared.fault.MsgFault.TheVariants.{Short, Version, Kind, Length, Trailing, Field, NoMemory}
use Rattle.lard_message.specs.declared.kind.Kind as the_kind
use Rattle.lard_message.specs.declared.message.Message.{Message}
use Rattle.lard_message.specs.Kinds.{version_of, kind_number}
use Rattle.lard_message.specs.Message.{IsMessage, spelled_message}
use Rattle.lard_message.specs.Reading.{version_at, number_byte, length_at}

-- Ten bytes come before the body. The first is the version, the second the kind's number, and the last four are the length.
abbrev pub Applies : MsgFault → List ℕ → Type 0
Applies Short bytes = length bytes < 10
Applies Version bytes = (kind : the_kind.Kind) → version_of kind ≡ version_at bytes → ⊥
Applies Kind bytes = (kind : the_kind.Kind) → version_of kind ≡ version_at bytes → kind_number kind ≡ number_byte bytes → ⊥
Applies Length bytes = length bytes < 10 + length_at bytes
Applies Trailing bytes = 10 + length_at bytes < length bytes
Applies Field bytes = (m : Message) → IsMessage m → spelled_message m ≡ bytes → ⊥
Applies NoMemory bytes = Unit {0}

-- the faults that are looked for before this one
abbrev pub faults_before : MsgFault → List MsgFault
faults_before Short = []
faults_before Version = Short ∷ []
faults_before Kind = Short ∷ Version ∷ []
faults_before Length = Short ∷ Version ∷ Kind ∷ []
faults_before Trailing = Short ∷ Version ∷ Kind ∷ Length ∷ []
faults_before Field = Short ∷ Version ∷ Kind ∷ Length ∷ Trailing ∷ []
faults_before NoMemory = []

-- This fault applies, and none of those before it. Memory may run out at any time.
abbrev pub IsFirstFault : List ℕ → MsgFault → Type 0
IsFirstFault bytes e = Applies e bytes × AllByRecursion (λ d. Applies d bytes → ⊥) (faults_before e)
