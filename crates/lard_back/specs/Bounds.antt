-- What bounds that which a node sends.
use Rattle.std.specs.Prelude.{ℕ, ◌≤◌, ◌^◌, List, [], ◌∷◌, length, Option, Some, None}
use Rattle.std.specs.List.{AllByRecursion}
use Rattle.lard_base.specs.declared.limits.TheConstants.{MAX_MESSAGE_BYTES, MAX_STREAM_BYTES}
use Rattle.lard_base.specs.declared.place.Place.{Place}
use Rattle.lard_back.specs.declared.hand.Rested.{Rested}
use Rattle.lard_back.specs.declared.hand.Rested.TheVariants.{Here, Over, Back}
use Rattle.lard_message.specs.declared.message.Body.TheVariants as body
use Rattle.lard_message.specs.Message.{IsCount, IsOfTable, IsPath}
use Rattle.lard_rules.specs.declared.stay.Asked.{Asked}
use Rattle.lard_rules.specs.declared.stay.Want.{Want}
use Rattle.lard_rules.specs.Node.{reset_count}
use Rattle.lard_rules.specs.declared.places.Out.{Out}
use Rattle.lard_rules.specs.Speaking.{AreShort}

-- messages that fit packets
abbrev pub AreMessages : List (Place × List ℕ) → Type 0
AreMessages [] = Unit {0}
AreMessages (m ∷ ms) = (length m.1 ≤ MAX_MESSAGE_BYTES) × AreMessages ms

-- an Ask that has a spelling
abbrev pub IsSpelledAsk : Option Asked → Type 0
IsSpelledAsk None = Unit {0}
IsSpelledAsk (Some a) = IsOfTable (body.Ask a.number a.queue a.size a.paths)

abbrev pub AreWants : List Want → Type 0
AreWants ws = AllByRecursion (λ w. IsPath w.path) ws

-- so many bytes may be told of the end, and the Give of a connection that went back fits a packet
abbrev pub MayTellEnd : Rested → Option ℕ → Type 0
MayTellEnd (Here count) over = Unit {0}
MayTellEnd (Over last) over = IsCount last.reason (reset_count over)
MayTellEnd (Back bytes) over = length bytes ≤ MAX_MESSAGE_BYTES

-- what a node does in a step: its segments fit packets between it and a client and can be numbered, its messages fit those between
-- machines, and its responses can be counted
pub record IsNodeOut (o : Out) : Type 0 where
  pub short : AreShort o.segments
  pub few : length o.segments ≤ 2 ^ 31
  pub counted : o.answered ≤ MAX_STREAM_BYTES
  pub messages : AreMessages o.messages
