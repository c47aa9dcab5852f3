-- A connection in hand is given back to the front end.
use Rattle.std.proofs.Common.{◌≡◌, ℕ, ◌&&◌, ◌-◌, ◌≤◌, true, false, List, length, Option, Some, None, option_map, sym, ap, subst, ◌∙◌}
use Rattle.std.proofs.lemmas.Bool.{cond-true}
use Rattle.std.specs.FinMap.{get, insert}
use Rattle.lard_back.specs.Hand.{handed_back, stay_epoch}
use Rattle.lard_endpoint.specs.Control.{ControlBlock}
use Rattle.lard_endpoint.specs.Moving.{may_freeze, parts_of}
use Rattle.lard_handoff_back.specs.declared.row.BackConn.TheVariants as stage
use Rattle.lard_handoff_back.specs.declared.row.BackRow.{BackRow}
use Rattle.lard_handoff_back.specs.Back.{Backs, back_endpoint, back_may_put, back_with_stage}
use Rattle.lard_handoff_back.specs.Leaving.{MayCarry, give_of, given_back, going_back}
use Rattle.lard_handoff_back.specs.Table.{Table}
use Rattle.lard_message.specs.declared.message.Body.TheVariants as body
use Rattle.lard_message.specs.Message.{spelled_message}
use Rattle.lard_rules.specs.Node.{message}
use Rattle.lard_table.proofs.Map.{get_inserted, insert_twice}

-- the row of an endpoint that was out, and is here
here-row : (m : Backs) (c : ℕ) (o : Option BackRow) (b : ControlBlock) → back_may_put o ≡ true
    → get (back_with_stage m c (stage.Here b) o) c ≡ Some (record { stage = stage.Here b; epoch = record { 0 = stay_epoch o } })
here-row m c None b h = let no : false ≡ true = h in absurd cc
here-row m c (Some row) b h = get_inserted m c (record row { stage = stage.Here b })

row-over : (m : Backs) (c : ℕ) (o : Option BackRow) (b : ControlBlock) → back_may_put o ≡ true
    → (let n = back_with_stage m c (stage.Here b) o in back_with_stage n c stage.Ended (get n c)) ≡ back_with_stage m c stage.Ended o
row-over m c None b h = let no : false ≡ true = h in absurd cc
row-over m c (Some row) b h =
    let here : BackRow = record row { stage = stage.Here b } in
    ap (back_with_stage (insert m c here) c stage.Ended) (get_inserted m c here) ∙ insert_twice m c here (record row { stage = stage.Ended })

-- the endpoint is put back
abbrev brought : Table → ℕ → ControlBlock → Table
brought t c b = record t { rows = back_with_stage t.rows c (stage.Here b) (get t.rows c) }

module _ (t : Table) (c : ℕ) (b : ControlBlock) (served : ℕ) (out : back_may_put (get t.rows c) ≡ true) where
  pub may-carry : (u : Table) → u ≡ brought t c b → served ≤ b.recv.got - length b.recv.unread → MayCarry served (back_endpoint (get u.rows c))
  may-carry u is le = subst (λ (o : Option BackRow). MayCarry served (back_endpoint o)) (sym (ap (λ (v : Table). get v.rows c) is ∙ here-row t.rows c (get t.rows c) b out)) le

  module _ (u : Table) (is : u ≡ brought t c b) (leaves : t.leaving ≡ true) (still : may_freeze b ≡ true) where
    goes : going_back u.leaving (back_endpoint (get u.rows c)) ≡ Some b
    goes =
        ap (λ (v : Table). going_back v.leaving (back_endpoint (get v.rows c))) is
        ∙ ap (λ (o : Option BackRow). going_back t.leaving (back_endpoint o)) (here-row t.rows c (get t.rows c) b out)
        ∙ cond-true (t.leaving && may_freeze b) (Some b) None (λ i. leaves i && still i)

    -- the Give has the epoch of its row
    pub given-is : (answer : Option (List ℕ)) → answer ≡ option_map spelled_message (give_of c (get u.rows c) (going_back u.leaving (back_endpoint (get u.rows c))) served)
        → answer ≡ Some (message c (stay_epoch (get t.rows c)) (body.Give (parts_of b served)))
    given-is answer h =
        h
        ∙ ap (λ (o : Option ControlBlock). option_map spelled_message (give_of c (get u.rows c) o served)) goes
        ∙ ap (λ (o : Option BackRow). option_map spelled_message (give_of c o (Some b) served)) (ap (λ (v : Table). get v.rows c) is ∙ here-row t.rows c (get t.rows c) b out)

    pub none-given : (answer : Option (List ℕ)) → answer ≡ None → answer ≡ option_map spelled_message (give_of c (get u.rows c) (going_back u.leaving (back_endpoint (get u.rows c))) served) → ⊥
    none-given answer is-none h = let none : None ≡ Some (message c (stay_epoch (get t.rows c)) (body.Give (parts_of b served))) = sym is-none ∙ given-is answer h in absurd cc

    pub over-is : given_back u c served (going_back u.leaving (back_endpoint (get u.rows c))) ≡ handed_back t c served
    over-is =
        ap (given_back u c served) goes
        ∙ ap (λ (v : Table). given_back v c served (Some b)) is
        ∙ (λ i. record (handed_back t c served) { rows = row-over t.rows c (get t.rows c) b out i })
