-- What bounds that which the front end sends.
use Rattle.std.specs.Prelude.{ℕ, ◌≤◌, ◌^◌, List, [], ◌∷◌, length}
use Rattle.lard_base.specs.declared.limits.TheConstants.{MAX_MESSAGE_BYTES, MAX_SEGMENT_BYTES, MAX_STREAM_BYTES}
use Rattle.lard_base.specs.declared.place.Place.{Place}
use Rattle.lard_rules.specs.declared.front.FrontTurn.{FrontTurn}
use Rattle.lard_rules.specs.declared.front.FrontIn.{FrontIn}
use Rattle.lard_rules.specs.declared.front.FrontIn.TheVariants as input
use Rattle.lard_rules.specs.declared.places.Out.{Out}
use Rattle.lard_rules.specs.Speaking.{AreShort}

-- messages that fit packets
abbrev pub AreMessages : List (Place × List ℕ) → Type 0
AreMessages [] = Unit {0}
AreMessages (m ∷ ms) = (length m.1 ≤ MAX_MESSAGE_BYTES) × AreMessages ms

-- Segments fit packets between the front end and a client and can be numbered, messages fit those between machines, and responses
-- can be counted.
pub record Bounded (segments messages : List (Place × List ℕ)) (answered : ℕ) : Type 0 where
  pub short : AreShort segments
  pub few : length segments ≤ 2 ^ 31
  pub messages_fit : AreMessages messages
  pub counted : answered ≤ MAX_STREAM_BYTES

-- what the front end does in a turn, and in a step
abbrev pub IsFrontTurn : FrontTurn → Type 0
IsFrontTurn t = Bounded t.segments t.messages t.answered

abbrev pub IsFrontOut : Out → Type 0
IsFrontOut o = Bounded o.segments o.messages o.answered

-- a segment fits a packet
abbrev pub IsShort : FrontIn → Type 0
IsShort (input.Segment c iss bytes) = length bytes ≤ MAX_SEGMENT_BYTES
IsShort (input.Message from bytes) = Unit {0}
IsShort (input.Timer c) = Unit {0}
IsShort (input.Drain n) = Unit {0}
