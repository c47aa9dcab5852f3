-- What a connection that a node refuses, or gives back, is to the front end's table, and what the table is then.
use Rattle.std.specs.Prelude.{ℕ, Option, Some, None, is_some, if◌then◌else◌, nat_lt}
use Rattle.std.specs.FinMap.{insert}
use Rattle.lard_base.specs.declared.ids.Epoch.{Epoch}
use Rattle.lard_base.specs.declared.parts.EndpointParts.{EndpointParts}
use Rattle.lard_endpoint.specs.Moving.{adopted}
use Rattle.lard_handoff_front.specs.declared.row.FrontConn.TheVariants.{Held}
use Rattle.lard_handoff_front.specs.declared.row.FrontRow.{FrontRow}
use Rattle.lard_handoff_front.specs.declared.table.returns.Back.{Back}
use Rattle.lard_handoff_front.specs.declared.table.returns.Back.TheVariants.{New, Again, Stale}
use Rattle.lard_handoff_front.specs.Row.{offered_to, is_away}
use Rattle.lard_handoff_front.specs.Front.{Fronts, next_epoch}

-- new exactly while the Offer of this epoch awaits its answer
abbrev pub refused_answer : ℕ → Option FrontRow → Back
refused_answer e None = Stale
refused_answer e (Some row) = if is_some (offered_to e row.stage) then New (next_epoch row) else Stale

-- new exactly while the connection is away in this epoch, again once the front end is past it
abbrev pub give_answer : ℕ → Option FrontRow → Back
give_answer e None = Stale
give_answer e (Some row) = if is_away e row.stage then New (next_epoch row) else if nat_lt e row.epoch.0 then Again else Stale

-- it is here again, as it was frozen
abbrev pub returned_row : EndpointParts → FrontRow → FrontRow
returned_row parts row = record { stage = Held (adopted parts); epoch = next_epoch row; ended_by = None }

abbrev pub after_back : Fronts → ℕ → EndpointParts → Option FrontRow → Back → Fronts
after_back m c parts None back = m
after_back m c parts (Some row) (New next) = insert m c (returned_row parts row)
after_back m c parts (Some row) Again = m
after_back m c parts (Some row) Stale = m
