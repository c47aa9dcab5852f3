-- What an Offer is to a node, which may leave, and how a node that leaves gives a connection back. What is looked up is an argument of its own.
use Rattle.std.specs.Prelude.{ℕ, Bool, true, false, ◌==◌, not, ◌-◌, ◌≤◌, ◌&&◌, nat_lt, length, Option, Some, None, is_some, option_map, if◌then◌else◌}
use Rattle.std.specs.FinMap.{get, insert}
use Rattle.lard_base.specs.declared.ids.Epoch.{Epoch}
use Rattle.lard_base.specs.declared.parts.EndpointParts.{EndpointParts}
use Rattle.lard_endpoint.specs.Control.{ControlBlock}
use Rattle.lard_endpoint.specs.Moving.{may_freeze, parts_of}
use Rattle.lard_message.specs.declared.message.Body.TheVariants as body
use Rattle.lard_message.specs.declared.message.Message.{Message}
use Rattle.lard_handoff_back.specs.declared.row.BackConn.TheVariants.{Ended}
use Rattle.lard_handoff_back.specs.declared.row.BackRow.{BackRow}
use Rattle.lard_handoff_back.specs.declared.table.Adopt.{Adopt}
use Rattle.lard_handoff_back.specs.declared.table.Adopt.TheVariants.{New, Again, Stale, Refuse}
use Rattle.lard_handoff_back.specs.Back.{awaits_ack, back_with_stage, stay_row}
use Rattle.lard_handoff_back.specs.Row.{back_held, is_gone}
use Rattle.lard_handoff_back.specs.Table.{Beside, Table}

-- ---- an Offer

-- the epoch exceeds this one, or there is none
abbrev pub exceeds : ℕ → Option Epoch → Bool
exceeds e None = true
exceeds e (Some d) = nat_lt d.0 e

abbrev pub is_this_epoch : ℕ → Option Epoch → Bool
is_this_epoch e None = false
is_this_epoch e (Some d) = d.0 == e

-- the highest epoch in which the connection was taken
abbrev pub row_epoch : Option BackRow → Option Epoch
row_epoch None = None
row_epoch (Some row) = Some row.epoch

-- nothing of the connection is here or out, and no answer to its end is awaited
abbrev pub is_free : Option BackRow → Bool
is_free None = true
is_free (Some row) = is_gone row.stage

-- the epoch exceeds each in which an Offer of the connection was taken or refused
abbrev pub is_new_epoch : ℕ → Option BackRow → Beside → Bool
is_new_epoch e row b = exceeds e (row_epoch row) && exceeds e b.refused

-- Of a new epoch, it is refused where the node leaves, and else taken where nothing is in the way. What was decided last is decided so again, and an
-- older one is passed over.
abbrev pub offer_decision : Bool → ℕ → Option BackRow → Beside → Adopt
offer_decision leaving e row b =
    if is_new_epoch e row b then (if leaving then Refuse else if is_free row then New else Stale)
    else if is_this_epoch e b.refused && exceeds e (row_epoch row) then Refuse
    else if is_this_epoch e (row_epoch row) && exceeds e b.refused then Again
    else Stale

abbrev pub after_offer : Table → ℕ → Epoch → EndpointParts → Adopt → Table
after_offer t c epoch parts New = record t { rows = insert t.rows c (stay_row epoch parts) }
after_offer t c epoch parts Again = t
after_offer t c epoch parts Stale = t
after_offer t c epoch parts Refuse = record t { refused = insert t.refused c epoch }

-- ---- a connection that is given back

-- an endpoint that goes back: the node leaves, and it may be frozen
abbrev pub going_back : Bool → Option ControlBlock → Option ControlBlock
going_back leaving None = None
going_back leaving (Some b) = if leaving && may_freeze b then Some b else None

-- the epoch of an endpoint that is here and may be frozen
abbrev pub ready_epoch : Option BackRow → Option Epoch
ready_epoch None = None
ready_epoch (Some row) = elim (back_held row.stage) [ None ↦ None | Some b ↦ (if may_freeze b then Some row.epoch else None) ]

-- the parts of an endpoint that is here may carry so many responses
abbrev pub MayCarry : ℕ → Option ControlBlock → Type 0
MayCarry served None = Unit {0}
MayCarry served (Some b) = served ≤ b.recv.got - length b.recv.unread

-- the Give of an endpoint, in the epoch of its stay
abbrev pub give_message : ℕ → Epoch → ControlBlock → ℕ → Message
give_message c epoch b served = record { c = c; epoch = epoch; body = body.Give (parts_of b served) }

abbrev pub give_of : ℕ → Option BackRow → Option ControlBlock → ℕ → Option Message
give_of c None o served = None
give_of c (Some row) o served = option_map (λ b. give_message c row.epoch b served) o

-- its stay is over, and it stands as given back
abbrev pub given_back : Table → ℕ → ℕ → Option ControlBlock → Table
given_back t c served None = t
given_back t c served (Some b) = record t { rows = back_with_stage t.rows c Ended (get t.rows c); returned = insert t.returned c served }

-- ---- what tells that a stay is over has its answer

-- EndedAck is awaited in this epoch
abbrev pub awaits_ended : ℕ → Option BackRow → Beside → Bool
awaits_ended e row b = awaits_ack e row && not (is_some b.returned)

-- Given is awaited in this epoch
abbrev pub awaits_given : ℕ → Option BackRow → Beside → Bool
awaits_given e row b = awaits_ack e row && is_some b.returned
