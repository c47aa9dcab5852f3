-- What bounds that which a place does in a step.
use Rattle.std.specs.Prelude.{◌≤◌, ◌^◌, length}
use Rattle.lard_rules.specs.declared.places.Out.{Out}
use Rattle.lard_rules.specs.Speaking.{AreShort}

-- its segments fit packets between it and a client, and can be numbered
pub record IsOutSendable (o : Out) : Type 0 where
  pub short : AreShort o.segments
  pub few : length o.segments ≤ 2 ^ 31
