-- A connection that comes back: its row fits, and it comes back once.
use Rattle.std.proofs.Common.{◌≡◌, ℕ, ◌+◌, ◌<◌, ◌≤◌, ◌==◌, Bool, true, false, cond, arith, Option, Some, None, is_some, nat_lt, refl, sym, ap, ◌∙◌}
use Rattle.std.specs.FinMap.{get}
use Rattle.std.proofs.lemmas.Bool.{cond-true, eqb-true}
use Rattle.std.proofs.lemmas.Bool.Decides.{nat_tests}
use Rattle.lard_base.specs.declared.ids.Epoch.{Epoch}
use Rattle.lard_base.specs.declared.parts.EndpointParts.{EndpointParts}
use Rattle.lard_table.proofs.Map.{get_inserted}
use Rattle.lard_handoff_front.specs.declared.row.FrontConn.{FrontConn}
use Rattle.lard_handoff_front.specs.declared.row.FrontConn.TheVariants.{Held, Waiting, Lent, Offering, Moved, Closed}
use Rattle.lard_handoff_front.specs.declared.row.FrontRow.{FrontRow}
use Rattle.lard_handoff_front.specs.declared.table.returns.Back.{Back}
use Rattle.lard_handoff_front.specs.declared.table.returns.Back.TheVariants.{New, Again, Stale}
use Rattle.lard_handoff_front.specs.Front.{AreRows, Fronts, next_epoch}
use Rattle.lard_handoff_front.specs.Laws.{ReturnsOnce}
use Rattle.lard_handoff_front.specs.Returns.{after_back, give_answer, refused_answer, returned_row}
use Rattle.lard_handoff_front.specs.Row.{IsRow, IsStage, is_away, offered_to}

-- a connection is away in the epoch of its row, which has one after it
away_fits : (k e : ℕ) (stage : FrontConn) → IsStage k stage → is_away e stage ≡ true → (e ≡ k) × (k ≤ 65000)
away_fits k e (Offering node epoch) h t = (sym (eqb-true epoch.0 e t) ∙ h.0, h.1)
away_fits k e (Moved node epoch) h t = (sym (eqb-true epoch.0 e t) ∙ h.0, h.1)
away_fits k e (Held b) h t = absurd cc
away_fits k e (Waiting b) h t = absurd cc
away_fits k e Lent h t = absurd cc
away_fits k e (Closed last) h t = absurd cc

-- an Offer that awaits its answer is on its way
pub offered_away : (e : ℕ) (stage : FrontConn) → is_some (offered_to e stage) ≡ true → is_away e stage ≡ true
offered_away e (Offering node epoch) t = go (epoch.0 == e) t where
  go : (b : Bool) → is_some (cond b (Some node) None) ≡ true → b ≡ true
  go true t = refl
  go false t = absurd cc
offered_away e (Moved node epoch) t = absurd cc
offered_away e (Held b) t = absurd cc
offered_away e (Waiting b) t = absurd cc
offered_away e Lent t = absurd cc
offered_away e (Closed last) t = absurd cc

-- it is held in the next epoch
pub returned_fits : (m : Fronts) (c e : ℕ) (parts : EndpointParts) (row : FrontRow) → AreRows m → get m c ≡ Some row → is_away e row.stage ≡ true → IsRow (returned_row parts row)
returned_fits m c e parts row all h t =
    let is = all.each c row h in
    record { stage = tt; epoch = omega (arith, (away_fits row.epoch.0 e row.stage is.stage t).1) }

pub back-once : ReturnsOnce
back-once m c epoch parts row all h = (refused, given) where
  lt-true : (a b : ℕ) → a < b → nat_lt a b ≡ true
  lt-true a b h = grind (arith, nat_tests, h)

  there : (back : Back) → back ≡ New (next_epoch row) → get (after_back m c parts (get m c) back) c ≡ Some (returned_row parts row)
  there back e = ap (λ (o : Option FrontRow). get (after_back m c parts o back) c) h ∙ ap (λ (b : Back). get (after_back m c parts (Some row) b) c) e ∙ get_inserted m c (returned_row parts row)

  refused : is_some (offered_to epoch.0 row.stage) ≡ true → refused_answer epoch.0 (get (after_back m c parts (get m c) (refused_answer epoch.0 (get m c))) c) ≡ Stale
  refused t = ap (refused_answer epoch.0) (there (refused_answer epoch.0 (get m c)) (ap (refused_answer epoch.0) h ∙ cond-true (is_some (offered_to epoch.0 row.stage)) _ _ t))

  given : is_away epoch.0 row.stage ≡ true → give_answer epoch.0 (get (after_back m c parts (get m c) (give_answer epoch.0 (get m c))) c) ≡ Again
  given t =
      let fits = away_fits row.epoch.0 epoch.0 row.stage (all.each c row h).stage t in
      let below : epoch.0 < row.epoch.0 + 1 = omega (arith, fits.0) in
      ap (give_answer epoch.0) (there (give_answer epoch.0 (get m c)) (ap (give_answer epoch.0) h ∙ cond-true (is_away epoch.0 row.stage) _ _ t)) ∙ cond-true (nat_lt epoch.0 (row.epoch.0 + 1)) _ _ (lt-true epoch.0 (row.epoch.0 + 1) below)
