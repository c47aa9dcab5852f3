-- What holds of every row, over what is done to one.
use Rattle.std.proofs.Common.{◌≡◌, ℕ, ◌≤◌, Result, Ok, Err, OnOk, OnErr, OnSome, option_map, Bool, true, false, cond, ◌==◌, arith, Option, Some, None, refl, sym, ap, ◌∙◌, subst, inl, inr}
use Rattle.std.specs.FinMap.{get, insert, empty, get-empty}
use Rattle.std.specs.Ordering.{nat_cmp}
use Rattle.std.proofs.lemmas.Bool.{cases_eq, eqb-true}
use Rattle.lard_base.specs.declared.errors.NoMemory.{NoMemory}
use Rattle.lard_endpoint.specs.Control.{ControlBlock}
use Rattle.lard_table.proofs.Map.{get_inserted, get_other}
use Rattle.lard_handoff_front.specs.declared.row.FrontConn.{FrontConn}
use Rattle.lard_base.specs.declared.ids.Epoch.{Epoch}
use Rattle.lard_endpoint.specs.declared.control.moving.Final.{Final}
use Rattle.lard_handoff_front.specs.declared.row.FrontConn.TheVariants.{Held, Waiting, Lent, Offering, Moved, Closed}
use Rattle.lard_handoff_front.specs.declared.row.FrontRow.{FrontRow}
use Rattle.lard_handoff_front.specs.Row.{IsRow, IsStage, is_away, is_lent, offered_to}
use Rattle.lard_handoff_front.specs.Front.{Fronts, AreRows, with_stage, in_stage, asked_node, ended_row, may_put}

pub no_rows : AreRows empty
no_rows = record { each = λ c row h. let none : Some row ≡ None = sym h ∙ get-empty nat_cmp c in absurd cc }

pub row_put : (m : Fronts) (c : ℕ) (row : FrontRow) → AreRows m → IsRow row → AreRows (insert m c row)
row_put m c row all is = record {
  each = λ q other h. elim (cases_eq q c) [
    | inl e ↦ let same : Some row ≡ Some other = sym (ap (get (insert m c row)) e ∙ get_inserted m c row) ∙ h in let eq : row ≡ other = cc in subst IsRow eq is
    | inr n ↦ all.each q other (sym (get_other m c q row n) ∙ h)
  ];
}

-- a stage that is not away fits each row
pub stage_put : (m : Fronts) (c : ℕ) (stage : FrontConn) → AreRows m → ((e : ℕ) → IsStage e stage) → AreRows (with_stage m c stage (get m c))
stage_put m c stage all fits = go (get m c) refl where
  go : (o : Option FrontRow) → get m c ≡ o → AreRows (with_stage m c stage o)
  go None h = all
  go (Some row) h = row_put m c (record row { stage = stage }) all (record { stage = fits row.epoch.0; epoch = (all.each c row h).epoch })

pub here_fits : (waiting : Bool) (b : ControlBlock) (e : ℕ) → IsStage e (in_stage waiting b)
here_fits true b e = tt
here_fits false b e = tt

-- a row was kept, or memory ran out
pub kept_or_same : (m n : Fronts) (c : ℕ) (row : FrontRow) (r : Result (Unit {0}) NoMemory) → OnOk r (n ≡ insert m c row) → OnErr r (n ≡ m) → AreRows m → IsRow row → AreRows n
kept_or_same m n c row (Ok u) ok err all is = subst AreRows (sym ok) (row_put m c row all is)
kept_or_same m n c row (Err e) ok err all is = subst AreRows (sym err) all

-- a connection that is away has an epoch after its own
away_small : (k e : ℕ) (stage : FrontConn) → IsStage k stage → is_away e stage ≡ true → k ≤ 65000
away_small k e (Offering node epoch) h t = h.1
away_small k e (Moved node epoch) h t = h.1
away_small k e (Held b) h t = absurd cc
away_small k e (Waiting b) h t = absurd cc
away_small k e Lent h t = absurd cc
away_small k e (Closed last) h t = absurd cc

pub ended_fits : (m : Fronts) (c : ℕ) (row : FrontRow) (epoch : Epoch) (last : Final) → AreRows m → get m c ≡ Some row → is_away epoch.0 row.stage ≡ true → IsRow (ended_row epoch last row)
ended_fits m c row epoch last all h t =
    let is = all.each c row h in
    record { stage = tt; epoch = omega (arith, away_small row.epoch.0 epoch.0 row.stage is.stage t) }

-- the node that was asked was so in the row's epoch
asked_fits : (k e : ℕ) (stage : FrontConn) (node : ℕ) → IsStage k stage → offered_to e stage ≡ Some node → (e ≡ k) × (k ≤ 65000)
asked_fits k e (Offering n epoch) node h t = go (epoch.0 == e) refl t where
  go : (b : Bool) → (epoch.0 == e) ≡ b → cond b (Some n) None ≡ Some node → (e ≡ k) × (k ≤ 65000)
  go true p q = (sym (eqb-true epoch.0 e p) ∙ h.0, h.1)
  go false p q = let none : None ≡ Some node = q in absurd cc
asked_fits k e (Moved n epoch) node h t = let none : None ≡ Some node = t in absurd cc
asked_fits k e (Held b) node h t = let none : None ≡ Some node = t in absurd cc
asked_fits k e (Waiting b) node h t = let none : None ≡ Some node = t in absurd cc
asked_fits k e Lent node h t = let none : None ≡ Some node = t in absurd cc
asked_fits k e (Closed last) node h t = let none : None ≡ Some node = t in absurd cc

pub moved_put : (m : Fronts) (c : ℕ) (epoch : Epoch) (node : ℕ) → AreRows m → asked_node epoch.0 (get m c) ≡ Some node → AreRows (with_stage m c (Moved node epoch) (get m c))
moved_put m c epoch node all t = go (get m c) refl t where
  go : (o : Option FrontRow) → get m c ≡ o → asked_node epoch.0 o ≡ Some node → AreRows (with_stage m c (Moved node epoch) o)
  go None h t = all
  go (Some row) h t =
      let is = all.each c row h in
      row_put m c (record row { stage = Moved node epoch }) all (record { stage = asked_fits row.epoch.0 epoch.0 row.stage node is.stage t; epoch = is.epoch })

-- a connection whose stage is Lent may be put back
pub out_is : (o : Option FrontRow) (r : Option ControlBlock) → option_map (λ row. row.stage) o ≡ Some Lent → OnSome r (may_put o ≡ true)
out_is None r h = let none : None ≡ Some Lent = h in absurd cc
out_is (Some row) None h = tt
out_is (Some row) (Some b) h = let stages : Some row.stage ≡ Some Lent = h in let same : row.stage ≡ Lent = cc in ap is_lent same
