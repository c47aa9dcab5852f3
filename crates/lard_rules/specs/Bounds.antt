-- Which events have a rule.
use Rattle.std.specs.Prelude.{◌≡◌, ℕ, ◌≤◌, ◌<◌, ◌^◌, length}
use Rattle.lard_base.specs.declared.event.Event.{Event}
use Rattle.lard_base.specs.declared.event.Event.TheVariants.{Open, Timer, Settle, Inject}
use Rattle.lard_base.specs.declared.ids.TheConstants.ConnId.{MAX}
use Rattle.lard_base.specs.declared.limits.TheConstants.{MAX_SEGMENT_BYTES, MAX_SEGMENT_DATA}
use Rattle.lard_base.specs.declared.place.Place.{Place}
use Rattle.lard_base.specs.declared.place.Place.TheVariants.{Client}

-- a client has the timers of its own connection
abbrev pub HasTimer : Place → ℕ → Type 0
HasTimer (Client d) c = d ≡ c
HasTimer _ c = Unit {0}

-- it may be the number of a connection, so it fits the two bytes in which a message names its connection
abbrev pub IsConnNumber : ℕ → Type 0
IsConnNumber c = (1 ≤ c) × (c ≤ MAX)

-- the event has a rule, and its numbers are ones that the rule can take
abbrev pub HasRule : Event → Type 0
HasRule (Open c isn iss wnd mss) = (1 ≤ wnd) × (1 ≤ mss) × (mss ≤ MAX_SEGMENT_DATA) × (wnd < 2 ^ 16) × (isn < 2 ^ 32) × (iss < 2 ^ 32) × IsConnNumber c
HasRule (Timer p c) = HasTimer p c
HasRule (Settle rounds) = ⊥
HasRule (Inject c bytes) = (1 ≤ length bytes) × (length bytes ≤ MAX_SEGMENT_BYTES)
HasRule _ = Unit {0}
