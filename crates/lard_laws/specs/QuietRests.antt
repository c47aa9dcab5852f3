-- When nothing more comes of a connection that a place of the cluster has, as far as its two ends go; and that it is complete then.
use Rattle.std.specs.Prelude.{◌≡◌, ◌⊎◌, ℕ, true, false, List, Some, Ok}
use Rattle.lard_law_view.specs.Prelude.{BackRow, Config, Conn, ControlBlock, FrontRow, IsComplete, IsReached, Machine, Station, Stay, config_check, conn, file_at, has_aborted, is_clear, is_client_armed, is_touched, was_reset}
use Rattle.lard_law_connections.specs.Stops.{FirstIsAwaited}
use Rattle.lard_handoff_back.specs.declared.row.BackConn.TheVariants as back
use Rattle.lard_handoff_front.specs.declared.row.FrontConn.TheVariants as stage

-- all that the client sent is acknowledged
pub record ClientRests (x : Conn) : Type 0 where
  pub station : Station
  pub there : x.part.station ≡ Some station
  pub quiet : is_client_armed station.client ≡ false

-- the front end holds it, and all that was sent is acknowledged
pub record HeldRests (x : Conn) : Type 0 where
  pub row : FrontRow
  pub block : ControlBlock
  pub found : x.part.front.row ≡ Some row
  pub at : row.stage ≡ stage.Held block
  pub clear : is_clear block.send ≡ true

-- node n has it, all that was sent is acknowledged, and the first request of its batch awaits nothing
pub record StayRests (x : Conn) (n : ℕ) : Type 0 where
  pub row : BackRow
  pub block : ControlBlock
  pub stay : Stay
  pub found : (x.part.nodes n).row ≡ Some row
  pub at : row.stage ≡ back.Here block
  pub stays : (x.part.nodes n).stay ≡ Some stay
  pub clear : is_clear block.send ≡ true
  pub ready : FirstIsAwaited stay.batch → ⊥

abbrev pub RestsSomewhere : Conn → Type 0
RestsSomewhere x = HeldRests x ⊎ ((n : ℕ) × StayRests x n)

-- Where both ends rest and a place has the connection, it is complete, unless its client aborted it, the stream limit reset it, or
-- the schedule touched it.
abbrev pub RestingIsComplete : Type 0
RestingIsComplete = (config : Config) (files : List (List ℕ × List ℕ)) (m : Machine) → config_check config ≡ Ok tt → IsReached config files m
    → (c : ℕ) → is_touched m.journal c ≡ false → has_aborted m.journal c ≡ false → was_reset m.journal c ≡ false
    → ClientRests (conn m c) → RestsSomewhere (conn m c) → IsComplete (file_at files) m.journal c
