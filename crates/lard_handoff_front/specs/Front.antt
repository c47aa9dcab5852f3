-- What the calls of the front end's table answer, and what they leave. What is looked up is an argument of its own.
use Rattle.std.specs.Prelude.{◌≡◌, ℕ, ◌+◌, ◌-◌, ◌<◌, ◌≤◌, Bool, true, false, ◌==◌, length, Option, Some, None, is_some, option_map, if◌then◌else◌}
use Rattle.std.specs.FinMap.{FinMap, get, insert}
use Rattle.std.specs.Ordering.{nat_cmp}
use Rattle.lard_base.specs.declared.ids.Epoch.{Epoch}
use Rattle.lard_endpoint.specs.Control.{ControlBlock}
use Rattle.lard_endpoint.specs.Moving.{may_freeze, parts_of}
use Rattle.lard_endpoint.specs.declared.control.moving.Final.{Final}
use Rattle.lard_message.specs.declared.message.Body.TheVariants as body
use Rattle.lard_message.specs.declared.message.Message.{Message}
use Rattle.lard_handoff_front.specs.declared.row.FrontConn.{FrontConn}
use Rattle.lard_handoff_front.specs.declared.row.FrontConn.TheVariants.{Held, Waiting, Lent, Offering, Moved, Closed}
use Rattle.lard_handoff_front.specs.declared.row.FrontRow.{FrontRow}
use Rattle.lard_handoff_front.specs.declared.table.OnEnded.{OnEnded}
use Rattle.lard_handoff_front.specs.declared.table.OnEnded.TheVariants.{New, Again, Stale}
use Rattle.lard_handoff_front.specs.Row.{IsRow, held_in, is_lent, offered_to, is_away, is_waiting}

abbrev pub Fronts : Type 0
Fronts = FinMap nat_cmp FrontRow

-- what holds of every row
pub record AreRows (m : Fronts) : Type 0 where
  pub each : (c : ℕ) (row : FrontRow) → get m c ≡ Some row → IsRow row

-- a connection that begins here: its first owner is the front end, in epoch 1
abbrev pub row_begun : ControlBlock → FrontRow
row_begun b = record { stage = Held b; epoch = record { 0 = 1 }; ended_by = None }

-- the same connection in another stage
abbrev pub with_stage : Fronts → ℕ → FrontConn → Option FrontRow → Fronts
with_stage m c stage None = m
with_stage m c stage (Some row) = insert m c (record row { stage = stage })

abbrev pub endpoint_of : Option FrontRow → Option ControlBlock
endpoint_of None = None
endpoint_of (Some row) = held_in row.stage

abbrev pub may_put : Option FrontRow → Bool
may_put None = false
may_put (Some row) = is_lent row.stage

abbrev pub row_taken : Fronts → ℕ → Option FrontRow → Fronts
row_taken m c o = if is_some (endpoint_of o) then with_stage m c Lent o else m

abbrev pub in_stage : Bool → ControlBlock → FrontConn
in_stage waiting b = if waiting then Waiting b else Held b

-- ---- the way to a node

-- an endpoint that may be frozen, with a count of responses that its parts may carry, and an epoch that has one after it
abbrev pub MayLeave : ControlBlock → ℕ → ℕ → Type 0
MayLeave b epoch served = (may_freeze b ≡ true) × (served ≤ b.recv.got - length b.recv.unread) × (epoch < 65000)

abbrev pub MayBeOffered : Option FrontRow → ℕ → Type 0
MayBeOffered None served = ⊥
MayBeOffered (Some row) served = elim (held_in row.stage) [ None ↦ ⊥ | Some b ↦ MayLeave b row.epoch.0 served ]

-- the next epoch
abbrev pub next_epoch : FrontRow → Epoch
next_epoch row = record { 0 = row.epoch.0 + 1 }

-- whether the connection waits, and the epoch after its present one
abbrev pub leaving_of : FrontRow → Bool × Epoch
leaving_of row = (is_waiting row.stage, next_epoch row)

abbrev pub IsSmall : Option FrontRow → Type 0
IsSmall None = ⊥
IsSmall (Some row) = row.epoch.0 < 65000

-- the Offer of an endpoint, in the next epoch
abbrev pub offer_message : ℕ → Epoch → ControlBlock → ℕ → Message
offer_message c epoch b served = record { c = c; epoch = epoch; body = body.Offer (parts_of b served) }

abbrev pub offer_of : ℕ → Option FrontRow → ℕ → Option Message
offer_of c None served = None
offer_of c (Some row) served = option_map (λ b. offer_message c (next_epoch row) b served) (held_in row.stage)

abbrev pub offered : Fronts → ℕ → ℕ → Option FrontRow → Fronts
offered m c node None = m
offered m c node (Some row) = insert m c (record { stage = Offering node (next_epoch row); epoch = next_epoch row; ended_by = None })

-- ---- the answers of a node

abbrev pub asked_node : ℕ → Option FrontRow → Option ℕ
asked_node e None = None
asked_node e (Some row) = offered_to e row.stage

abbrev pub row_moved : Fronts → ℕ → Epoch → Option FrontRow → Option ℕ → Fronts
row_moved m c epoch o None = m
row_moved m c epoch o (Some node) = with_stage m c (Moved node epoch) o

-- whether the connection ended by a call with this epoch
abbrev pub ended_with : ℕ → Option Epoch → Bool
ended_with e None = false
ended_with e (Some by) = by.0 == e

-- new once, where the connection is away in this epoch
abbrev pub end_answer : ℕ → Option FrontRow → OnEnded
end_answer e None = Stale
end_answer e (Some row) = if is_away e row.stage then New (next_epoch row) else if ended_with e row.ended_by then Again else Stale

abbrev pub ended_row : Epoch → Final → FrontRow → FrontRow
ended_row epoch last row = record { stage = Closed last; epoch = next_epoch row; ended_by = Some epoch }

abbrev pub front_after_ended : Fronts → ℕ → Epoch → Final → Option FrontRow → Fronts
front_after_ended m c epoch last None = m
front_after_ended m c epoch last (Some row) = if is_away epoch.0 row.stage then insert m c (ended_row epoch last row) else m
