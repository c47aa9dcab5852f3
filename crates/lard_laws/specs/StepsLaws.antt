-- What is so in every state of a run of the cluster's machine, of all connections at once.
use Rattle.std.specs.Prelude.{◌≡◌, ℕ, List}
use Rattle.lard_law_view.specs.Prelude.{ActsInPlace, Config, Event, Follows, IsNetOf, IsNetwork, IsReached, KeepsTime, Machine, Passes, answered_bytes, machine_start}

-- it is so in every state that events lead to
abbrev pub Always : (Machine → Type 0) → Type 0
Always P = (config : Config) (files : List (List ℕ × List ℕ)) (m : Machine) → IsReached config files m → P m

abbrev pub SettingsStay : Type 0
SettingsStay = (config : Config) (files : List (List ℕ × List ℕ)) (m : Machine) → IsReached config files m → (m.config ≡ config) × (m.files ≡ files)

-- The journal tells of the packets that there are: how many, of how many bytes, where each goes, and which were lost.
abbrev pub PacketsAreTold : Type 0
PacketsAreTold = Always (λ m. IsNetOf m.journal m.net)

abbrev pub ResponsesAreCounted : Type 0
ResponsesAreCounted = Always (λ m. answered_bytes m.journal ≡ m.answered)

-- Packets are numbered from 1; each is got only after it was sent, in a step of the place to which it was sent, and not after it was
-- lost.
abbrev pub NetworksAreLawful : Type 0
NetworksAreLawful = Always (λ m. IsNetwork m.journal)

-- What a record says of a place, the place that acts in its step says.
abbrev pub PlacesAreLawful : Type 0
PlacesAreLawful = Always (λ m. ActsInPlace m.journal)

-- The time is told in steps of the clock alone, and each tells the sum of all before.
abbrev pub TimesAreLawful : Type 0
TimesAreLawful = Always (λ m. KeepsTime m.journal)

-- It is the steps of the events, each with its number.
abbrev pub JournalsFollow : Type 0
JournalsFollow = (config : Config) (files : List (List ℕ × List ℕ)) (es : List Event) (m : Machine) → Passes (machine_start config files) es m → Follows 1 es m.journal
