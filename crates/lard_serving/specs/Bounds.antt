-- What bounds a turn, and what a place does in a step.
use Rattle.std.specs.Prelude.{◌≡◌, ◌^◌, ◌≤◌, [], length}
use Rattle.lard_base.specs.declared.limits.TheConstants.{MAX_STREAM_BYTES}
use Rattle.lard_rules.specs.declared.places.Out.{Out}
use Rattle.lard_rules.specs.declared.places.Turn.{Turn}
use Rattle.lard_rules.specs.Speaking.{AreShort}

-- its segments fit packets, these can be numbered, and its responses can be counted
pub record IsTurn (t : Turn) : Type 0 where
  pub short : AreShort t.segments
  pub few : length t.segments ≤ 2 ^ 31
  pub counted : t.answered ≤ MAX_STREAM_BYTES

-- the same of what a place does; nothing is given up yet, and no message is sent
pub record IsOut (o : Out) : Type 0 where
  pub short : AreShort o.segments
  pub few : length o.segments ≤ 2 ^ 31
  pub counted : o.answered ≤ MAX_STREAM_BYTES
  pub gave : o.gave ≡ []
  pub messages : o.messages ≡ []
