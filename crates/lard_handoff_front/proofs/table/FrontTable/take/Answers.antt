-- A row that is lent fits.
use Rattle.std.proofs.Common.{◌≡◌, ℕ, true, Option, Some, None, OnSome, sym, ap, ◌∙◌, subst}
use Rattle.std.specs.FinMap.{get, insert}
use Rattle.lard_endpoint.specs.Control.{ControlBlock}
use Rattle.lard_handoff_front.specs.declared.row.FrontConn.TheVariants.{Lent}
use Rattle.lard_handoff_front.specs.declared.row.FrontRow.{FrontRow}
use Rattle.lard_handoff_front.specs.Front.{AreRows, Fronts, may_put}
use Rattle.lard_handoff_front.proofs.Rows.{row_put}
use Rattle.lard_handoff_front.proofs.table.FrontTable.take.Goals as goal
use Rattle.lard_table.proofs.Map.{get_inserted}

-- the same row, lent
abbrev lent : FrontRow → FrontRow
lent row = record row { stage = Lent }

pub invariant_of-self : goal.invariant_of-self
invariant_of-self c =
    let row = c.in-Some.row.now in
    let number = c.number-number.result in
    subst AreRows (sym c.replace-stage.ensures.after)
    (row_put c.self.inside.conns number (lent row) c.self.invariant (record { stage = tt; epoch = (c.self.invariant.each number row (sym c.in-Some.ensures)).epoch }))

may_be_put : (m n : Fronts) (c k : ℕ) (row : FrontRow) → k ≡ c → n ≡ insert m k (lent row) → may_put (get n c) ≡ true
may_be_put m n c k row same is = ap may_put (ap (get n) (sym same) ∙ ap (λ (t : Fronts). get t k) is ∙ get_inserted m k (lent row))

pub returns-clause-lent : goal.returns-clause-lent
returns-clause-lent c = go c.into_endpoint.result (may_be_put c.self.inside.conns c.replace-stage.new.self c.args.c c.number-number.result c.in-Some.row.now c.number-number.ensures.value c.replace-stage.ensures.after) where
  go : {P : Type 0} (o : Option ControlBlock) → P → OnSome o P
  go None p = tt
  go (Some b) p = p
