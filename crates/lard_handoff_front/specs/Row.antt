-- The stages of a connection at the front end.
use Rattle.std.specs.Prelude.{◌≡◌, ℕ, ◌≤◌, Bool, true, false, ◌==◌, Option, Some, None, if◌then◌else◌}
use Rattle.lard_endpoint.specs.Control.{ControlBlock}
use Rattle.lard_handoff_front.specs.declared.row.FrontConn.{FrontConn}
use Rattle.lard_handoff_front.specs.declared.row.FrontConn.TheVariants.{Held, Waiting, Lent, Offering, Moved, Closed}
use Rattle.lard_handoff_front.specs.declared.row.FrontRow.{FrontRow}

-- the endpoint that is here
abbrev pub held_in : FrontConn → Option ControlBlock
held_in (Held b) = Some b
held_in (Waiting b) = Some b
held_in Lent = None
held_in (Offering node epoch) = None
held_in (Moved node epoch) = None
held_in (Closed last) = None

abbrev pub is_lent : FrontConn → Bool
is_lent Lent = true
is_lent (Held b) = false
is_lent (Waiting b) = false
is_lent (Offering node epoch) = false
is_lent (Moved node epoch) = false
is_lent (Closed last) = false

-- the node that has not answered the Offer of this epoch
abbrev pub offered_to : ℕ → FrontConn → Option ℕ
offered_to e (Offering node epoch) = if epoch.0 == e then Some node else None
offered_to e (Held b) = None
offered_to e (Waiting b) = None
offered_to e Lent = None
offered_to e (Moved node epoch) = None
offered_to e (Closed last) = None

-- on its way to a node or there, in this epoch
abbrev pub is_away : ℕ → FrontConn → Bool
is_away e (Offering node epoch) = epoch.0 == e
is_away e (Moved node epoch) = epoch.0 == e
is_away e (Held b) = false
is_away e (Waiting b) = false
is_away e Lent = false
is_away e (Closed last) = false

abbrev pub is_waiting : FrontConn → Bool
is_waiting (Waiting b) = true
is_waiting (Held b) = false
is_waiting Lent = false
is_waiting (Offering node epoch) = false
is_waiting (Moved node epoch) = false
is_waiting (Closed last) = false

-- A connection away is so in the epoch of its row, and an epoch has one after it.
abbrev pub IsStage : ℕ → FrontConn → Type 0
IsStage e (Offering node epoch) = (epoch.0 ≡ e) × (e ≤ 65000)
IsStage e (Moved node epoch) = (epoch.0 ≡ e) × (e ≤ 65000)
IsStage e (Held b) = Unit {0}
IsStage e (Waiting b) = Unit {0}
IsStage e Lent = Unit {0}
IsStage e (Closed last) = Unit {0}

pub record IsRow (row : FrontRow) : Type 0 where
  pub stage : IsStage row.epoch.0 row.stage
  pub epoch : row.epoch.0 ≤ 65001
