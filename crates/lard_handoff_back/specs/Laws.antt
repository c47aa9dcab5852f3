-- What holds of the table over its calls.
use Rattle.std.specs.Prelude.{◌≡◌, ℕ, Bool, true, false, Option, Some, None, is_some}
use Rattle.std.specs.FinMap.{get}
use Rattle.lard_base.specs.declared.ids.Epoch.{Epoch}
use Rattle.lard_base.specs.declared.parts.EndpointParts.{EndpointParts}
use Rattle.lard_handoff_back.specs.declared.row.BackConn.{BackConn}
use Rattle.lard_handoff_back.specs.declared.row.BackRow.{BackRow}
use Rattle.lard_handoff_back.specs.declared.table.Adopt.{Adopt}
use Rattle.lard_handoff_back.specs.declared.table.Adopt.TheVariants.{New, Again, Refuse}
use Rattle.lard_handoff_back.specs.Back.{Backs, back_with_stage}
use Rattle.lard_handoff_back.specs.Leaving.{after_offer, exceeds, is_new_epoch, offer_decision}
use Rattle.lard_handoff_back.specs.Table.{Beside, IsTableSound, Table, beside_in}

-- An epoch that is not new is never taken, whatever became of the stay.
abbrev pub AdoptsOnce : Type 0
AdoptsOnce = (leaving : Bool) (e : ℕ) (row : Option BackRow) (b : Beside) → is_new_epoch e row b ≡ false → offer_decision leaving e row b ≡ New → ⊥

-- And that highest epoch never falls: a call that is no new Offer leaves it.
abbrev pub StagesKeepTheEpoch : Type 0
StagesKeepTheEpoch = (m : Backs) (c : ℕ) (stage : BackConn) (row : BackRow) → get m c ≡ Some row → get (back_with_stage m c stage (get m c)) c ≡ Some (record row { stage = stage })

-- ---- a node that leaves

-- what an Offer is to the table, and what that leaves
abbrev pub decision_in : Table → ℕ → ℕ → Adopt
decision_in t c e = offer_decision t.leaving e (get t.rows c) (beside_in t c)

abbrev pub after_decision : Table → ℕ → Epoch → EndpointParts → Table
after_decision t c epoch parts = after_offer t c epoch parts (decision_in t c epoch.0)

-- no Offer of it was both taken and refused
abbrev pub IsDecidedOnce : Table → ℕ → Type 0
IsDecidedOnce t c = is_some (get t.rows c) ≡ true → get t.refused c ≡ None

-- A node takes a connection or refuses it, and not both, as long as it is not offered in a further epoch.
abbrev pub DecidesOnce : Type 0
DecidesOnce = (t : Table) (c : ℕ) (epoch : Epoch) (parts : EndpointParts) → IsDecidedOnce t c
    → (is_new_epoch epoch.0 (get t.rows c) (beside_in t c) ≡ true → (get t.rows c ≡ None) × (get t.refused c ≡ None))
    → IsDecidedOnce (after_decision t c epoch parts) c

-- A refused epoch stays refused: it is taken by no Offer, an Offer leaves the highest that was refused or makes it higher, and the same Offer is refused
-- again.
abbrev pub RefusalsStay : Type 0
RefusalsStay = (t : Table) (c : ℕ) (epoch : Epoch) (parts : EndpointParts)
    → (exceeds epoch.0 (get t.refused c) ≡ false → (decision_in t c epoch.0 ≡ New → ⊥) × (decision_in t c epoch.0 ≡ Again → ⊥))
    × ((e : ℕ) → exceeds e (get t.refused c) ≡ false → exceeds e (get (after_decision t c epoch parts).refused c) ≡ false)
    × (decision_in t c epoch.0 ≡ Refuse → decision_in (after_decision t c epoch parts) c epoch.0 ≡ Refuse)

-- What was given back is not taken again.
abbrev pub ReturnsStay : Type 0
ReturnsStay = (t : Table) (c served : ℕ) → IsTableSound t → get t.returned c ≡ Some served → (e : ℕ) → decision_in t c e ≡ New → ⊥
