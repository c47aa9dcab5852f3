-- A node that leaves.
use Rattle.std.proofs.Common.{◌≡◌, ◌⊎◌, ℕ, Bool, true, false, rules, Option, Some, None, refl, sym, ap, ◌∙◌}
use Rattle.std.proofs.Math.Bool.{and-true}
use Rattle.std.specs.FinMap.{get, get-empty, insert}
use Rattle.std.specs.Ordering.{nat_cmp}
use Rattle.lard_base.specs.declared.ids.Epoch.{Epoch}
use Rattle.lard_table.proofs.Map.{get_inserted}
use Rattle.lard_handoff_back.specs.declared.row.BackRow.{BackRow}
use Rattle.lard_handoff_back.specs.declared.table.Adopt.{Adopt}
use Rattle.lard_handoff_back.specs.declared.table.Adopt.TheVariants.{New, Again, Stale, Refuse}
use Rattle.lard_handoff_back.specs.Back.{awaits_ack, offer_answer}
use Rattle.lard_handoff_back.specs.Laws.{RefusalsStay, after_decision, decision_in}
use Rattle.lard_handoff_back.specs.Leaving.{after_offer, awaits_ended, exceeds, is_this_epoch, offer_decision, row_epoch}
use Rattle.lard_handoff_back.specs.Table.{Beside, IsTableSound, Table, beside_in, nothing_beside, table_begun}

-- where nothing was offered nothing was refused or given back
pub begun_sound : IsTableSound table_begun
begun_sound = record {
  refuses = λ c epoch h. let none : Some epoch ≡ None = sym h ∙ get-empty nat_cmp c in absurd cc;
  returns = λ c served h. let none : Some served ≡ None = sym h ∙ get-empty nat_cmp c in absurd cc;
}

-- ---- what was refused

refused_above : (l : Bool) (e : ℕ) (row : Option BackRow) (b : Beside) → offer_decision l e row b ≡ Refuse
    → (exceeds e (row_epoch row) ≡ true) × ((exceeds e b.refused ≡ true) ⊎ (is_this_epoch e b.refused ≡ true))
refused_above l e row b h = search rules

-- it is refused again, once this epoch is the highest that was refused
again_refused : (l : Bool) (epoch : Epoch) (row : Option BackRow) (b : Beside) → exceeds epoch.0 (row_epoch row) ≡ true → b.refused ≡ Some epoch → offer_decision l epoch.0 row b ≡ Refuse
again_refused l epoch row b x r = search rules

-- an epoch that does not exceed what was refused exceeds no higher one
higher_refused : (e : ℕ) (epoch : Epoch) (o : Option Epoch) → (exceeds epoch.0 o ≡ true) ⊎ (is_this_epoch epoch.0 o ≡ true) → exceeds e o ≡ false → exceeds e (Some epoch) ≡ false
higher_refused e epoch o h low = search rules

-- what was refused is not taken
old_refused : (l : Bool) (e : ℕ) (row : Option BackRow) (b : Beside) → exceeds e b.refused ≡ false → (offer_decision l e row b ≡ New → ⊥) × (offer_decision l e row b ≡ Again → ⊥)
old_refused l e row b low = search rules

pub refusals-stay : RefusalsStay
refusals-stay t c epoch parts = (old_refused t.leaving epoch.0 (get t.rows c) (beside_in t c), by (decision_in t c epoch.0) refl, again) where
  above : decision_in t c epoch.0 ≡ Refuse → (exceeds epoch.0 (row_epoch (get t.rows c)) ≡ true) × ((exceeds epoch.0 (get t.refused c) ≡ true) ⊎ (is_this_epoch epoch.0 (get t.refused c) ≡ true))
  above = refused_above t.leaving epoch.0 (get t.rows c) (beside_in t c)

  by : (a : Adopt) → decision_in t c epoch.0 ≡ a → (e : ℕ) → exceeds e (get t.refused c) ≡ false → exceeds e (get (after_offer t c epoch parts a).refused c) ≡ false
  by New is e low = low
  by Again is e low = low
  by Stale is e low = low
  by Refuse is e low = ap (exceeds e) (get_inserted t.refused c epoch) ∙ higher_refused e epoch (get t.refused c) (above is).1 low

  again : decision_in t c epoch.0 ≡ Refuse → decision_in (after_decision t c epoch parts) c epoch.0 ≡ Refuse
  again is = ap (λ a. decision_in (after_offer t c epoch parts a) c epoch.0) is
      ∙ again_refused t.leaving epoch (get t.rows c) (record { refused = get (insert t.refused c epoch) c; returned = get t.returned c }) (above is).0 (get_inserted t.refused c epoch)

-- ---- a node that stays

-- it refused nothing, and gave nothing back
beside_none : (t : Table) (c : ℕ) → IsTableSound t → t.leaving ≡ false → beside_in t c ≡ nothing_beside
beside_none t c sound stays = λ i. record { refused = refused (get t.refused c) refl i; returned = returned (get t.returned c) refl i } where
  refused : (o : Option Epoch) → get t.refused c ≡ o → o ≡ None
  refused None h = refl
  refused (Some epoch) h = let both : true ≡ false = sym (sound.refuses c epoch h) ∙ stays in absurd cc

  returned : (o : Option ℕ) → get t.returned c ≡ o → o ≡ None
  returned None h = refl
  returned (Some served) h = let both : true ≡ false = sym (sound.returns c served h) ∙ stays in absurd cc

row_decides : (e : ℕ) (row : Option BackRow) → offer_decision false e row nothing_beside ≡ offer_answer e row
row_decides e row = search rules

-- its rows alone say what an Offer is, and which answer is awaited
pub stays_answer : (t : Table) (c e : ℕ) → IsTableSound t → t.leaving ≡ false → offer_decision t.leaving e (get t.rows c) (beside_in t c) ≡ offer_answer e (get t.rows c)
stays_answer t c e sound stays = (λ i. offer_decision (stays i) e (get t.rows c) (beside_none t c sound stays i)) ∙ row_decides e (get t.rows c)

pub stays_awaits : (t : Table) (c e : ℕ) → IsTableSound t → t.leaving ≡ false → awaits_ended e (get t.rows c) (beside_in t c) ≡ awaits_ack e (get t.rows c)
stays_awaits t c e sound stays = ap (awaits_ended e (get t.rows c)) (beside_none t c sound stays) ∙ and-true (awaits_ack e (get t.rows c))
