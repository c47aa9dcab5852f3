-- What the calls of a node's table answer by the row of a connection, and what they leave of the rows. What is looked up is an argument of its own.
use Rattle.std.specs.Prelude.{ℕ, Bool, false, ◌==◌, nat_lt, ◌&&◌, Option, Some, None, option_map, if◌then◌else◌}
use Rattle.std.specs.FinMap.{FinMap, insert}
use Rattle.std.specs.Ordering.{nat_cmp}
use Rattle.lard_base.specs.declared.ids.Epoch.{Epoch}
use Rattle.lard_base.specs.declared.parts.EndpointParts.{EndpointParts}
use Rattle.lard_endpoint.specs.Control.{ControlBlock}
use Rattle.lard_endpoint.specs.Moving.{adopted, may_end, final_of, end_reason}
use Rattle.lard_endpoint.specs.declared.control.moving.Final.{Final}
use Rattle.lard_handoff_back.specs.declared.row.BackConn.{BackConn}
use Rattle.lard_handoff_back.specs.declared.row.BackConn.TheVariants.{Here, Out, Ended, Gone}
use Rattle.lard_handoff_back.specs.declared.row.BackRow.{BackRow}
use Rattle.lard_handoff_back.specs.declared.table.Adopt.{Adopt}
use Rattle.lard_handoff_back.specs.declared.table.Adopt.TheVariants.{New, Again, Stale}
use Rattle.lard_handoff_back.specs.Row.{back_held, is_out, is_ended, is_gone}

abbrev pub Backs : Type 0
Backs = FinMap nat_cmp BackRow

-- the same stay in another stage
abbrev pub back_with_stage : Backs → ℕ → BackConn → Option BackRow → Backs
back_with_stage m c stage None = m
back_with_stage m c stage (Some row) = insert m c (record row { stage = stage })

abbrev pub back_endpoint : Option BackRow → Option ControlBlock
back_endpoint None = None
back_endpoint (Some row) = back_held row.stage

abbrev pub back_may_put : Option BackRow → Bool
back_may_put None = false
back_may_put (Some row) = is_out row.stage

-- ---- an Offer

-- To a node that stays it is New where its epoch exceeds the highest that was decided, nothing of the connection is here or out, and no answer to its
-- end is awaited; Again where it is the highest that was decided.
abbrev pub offer_answer : ℕ → Option BackRow → Adopt
offer_answer e None = New
offer_answer e (Some row) = if row.epoch.0 == e then Again else if nat_lt row.epoch.0 e && is_gone row.stage then New else Stale

abbrev pub stay_row : Epoch → EndpointParts → BackRow
stay_row epoch parts = record { stage = Here (adopted parts); epoch = epoch }

-- ---- a stay

-- the endpoint that is here with this epoch
abbrev pub staying : ℕ → Option BackRow → Option ControlBlock
staying e None = None
staying e (Some row) = if row.epoch.0 == e then back_held row.stage else None

abbrev pub back_taken : Backs → ℕ → Option BackRow → Option ControlBlock → Backs
back_taken m c o None = m
back_taken m c o (Some b) = back_with_stage m c Out o

-- the epoch of an endpoint that is here
abbrev pub epoch_of : Option BackRow → Option Epoch
epoch_of None = None
epoch_of (Some row) = option_map (λ b. row.epoch) (back_held row.stage)

-- ---- the end of a stay

-- the last numbers of an endpoint that may end
abbrev pub last_of : ControlBlock → Option Final
last_of b = if may_end b then Some (final_of b (end_reason b)) else None

abbrev pub back_ends : Option ControlBlock → Option Final
back_ends None = None
back_ends (Some b) = last_of b

abbrev pub given : Backs → ℕ → Option BackRow → Option Final → Backs
given m c o None = m
given m c o (Some last) = back_with_stage m c Ended o

-- the stay of this epoch is over, and what told the front end so has no answer yet
abbrev pub awaits_ack : ℕ → Option BackRow → Bool
awaits_ack e None = false
awaits_ack e (Some row) = row.epoch.0 == e && is_ended row.stage

abbrev pub back_acknowledged : Backs → ℕ → Option BackRow → Bool → Backs
back_acknowledged m c o awaited = if awaited then back_with_stage m c Gone o else m
