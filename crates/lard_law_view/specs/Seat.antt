-- The seat: where a connection's endpoint is.
use Rattle.std.specs.Prelude.{ℕ, Bool, false}
use Rattle.lard_endpoint.specs.declared.control.moving.Final.{Final}
use Rattle.lard_endpoint.specs.Control.{ControlBlock}
use Rattle.lard_rules.specs.declared.places.Ending.TheVariants as ending
use Rattle.lard_rules.specs.Serving.{is_serving_armed}

-- ---- the seat

-- Where the endpoint of a connection is.
pub data Seat : Type 0 where
  Nowhere : Seat  -- no SYN came
  AtFront : ControlBlock → ℕ → Seat  -- at the front end, which queued so many responses
  Away : Seat  -- not here, though it has not ended; no rule leads to it yet
  Over : Final → Seat  -- the connection ended with these numbers

-- ---- timers

-- the front end's timer runs
abbrev pub seat_armed : Seat → Bool
seat_armed Nowhere = false
seat_armed (AtFront b count) = is_serving_armed (ending.Here b count)
seat_armed Away = false
seat_armed (Over last) = is_serving_armed (ending.Over last)
