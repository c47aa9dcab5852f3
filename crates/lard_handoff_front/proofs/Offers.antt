-- An endpoint that is taken out to be offered, and what then becomes of its row.
use Rattle.std.proofs.Common.{◌≡◌, ℕ, ◌<◌, Bool, true, arith, Option, Some, None, IsSome, option_map, ◌==◌, eq-eqb, refl, sym, ap, ◌∙◌, subst}
use Rattle.std.specs.FinMap.{get, insert}
use Rattle.lard_base.specs.declared.ids.Epoch.{Epoch}
use Rattle.lard_endpoint.specs.Control.{ControlBlock}
use Rattle.lard_endpoint.specs.declared.control.moving.Final.{Final}
use Rattle.lard_table.proofs.Map.{get_inserted, insert_twice, put_got}
use Rattle.lard_table.specs.Table.{put_or}
use Rattle.lard_handoff_front.specs.declared.row.FrontConn.{FrontConn}
use Rattle.lard_handoff_front.specs.declared.row.FrontConn.TheVariants.{Held, Waiting, Lent, Offering, Moved, Closed}
use Rattle.lard_handoff_front.specs.declared.row.FrontRow.{FrontRow}
use Rattle.lard_handoff_front.specs.Row.{held_in, is_away, is_waiting}
use Rattle.lard_handoff_front.specs.Front.{Fronts, AreRows, front_after_ended, end_answer, ended_row, IsSmall, MayBeOffered, in_stage, leaving_of, next_epoch, offered, with_stage}
use Rattle.std.proofs.lemmas.Bool.{cond-true}
use Rattle.lard_handoff_front.specs.Laws.{EndsOnce, OffersOnce}
use Rattle.lard_handoff_front.specs.Returns.{after_back}
use Rattle.lard_handoff_front.specs.declared.table.returns.Back.TheVariants as back
use Rattle.lard_handoff_front.proofs.Rows.{row_put}

-- a row stays where its stage is set
pub still_there : (m : Fronts) (c : ℕ) (stage before : FrontConn) → option_map (λ row. row.stage) (get m c) ≡ Some before → IsSome (get (with_stage m c stage (get m c)) c)
still_there m c stage before h = go (get m c) h where
  go : (o : Option FrontRow) → option_map (λ row. row.stage) o ≡ Some before → IsSome (get (with_stage m c stage o) c)
  go None h = let none : None ≡ Some before = h in absurd cc
  go (Some row) h = subst IsSome (sym (get_inserted m c (record row { stage = stage }))) refl

pub small_of : (o : Option FrontRow) (served : ℕ) → MayBeOffered o served → IsSmall o
small_of None served h = h
small_of (Some row) served h = go row.stage row.epoch.0 h where
  go : (s : FrontConn) (e : ℕ) → MayBeOffered (Some (record { stage = s; epoch = record { 0 = e }; ended_by = None })) served → e < 65000
  go (Held b) e h = h.2
  go (Waiting b) e h = h.2
  go Lent e h = absurd h
  go (Offering n x) e h = absurd h
  go (Moved n x) e h = absurd h
  go (Closed l) e h = absurd h

pub offered_put : (m : Fronts) (c node : ℕ) → AreRows m → IsSmall (get m c) → AreRows (offered m c node (get m c))
offered_put m c node all h = go (get m c) h where
  go : (o : Option FrontRow) → IsSmall o → AreRows (offered m c node o)
  go None h = all
  go (Some row) h = row_put m c _ all (record { stage = (refl, omega (arith, h)); epoch = omega (arith, h) })

-- the row is that of an Offer in the next epoch
pub offered_is : (m n : Fronts) (c node : ℕ) (waiting : Bool) (epoch : Epoch) → n ≡ with_stage m c Lent (get m c) → Some (waiting, epoch) ≡ option_map leaving_of (get m c)
    → insert n c (record { stage = Offering node epoch; epoch = epoch; ended_by = None }) ≡ offered m c node (get m c)
offered_is m n c node waiting epoch e h = go (get m c) e h where
  go : (o : Option FrontRow) → n ≡ with_stage m c Lent o → Some (waiting, epoch) ≡ option_map leaving_of o
      → insert n c (record { stage = Offering node epoch; epoch = epoch; ended_by = None }) ≡ offered m c node o
  go None e h = let none : Some (waiting, epoch) ≡ None = h in absurd cc
  go (Some row) e h =
      let both : Some (waiting, epoch) ≡ Some (leaving_of row) = h in
      let pair : (waiting, epoch) ≡ leaving_of row = cc in
      let same : epoch ≡ next_epoch row = ap (λ (p : Bool × Epoch). p.1) pair in
      let offer : Epoch → FrontRow = λ x. record { stage = Offering node x; epoch = x; ended_by = None } in
      ap (λ (x : Fronts). insert x c (offer epoch)) e ∙ insert_twice m c (record row { stage = Lent }) (offer epoch) ∙ ap (λ (x : Epoch). insert m c (offer x)) same

-- an endpoint is in the stage that it was taken out of
in_its_stage : (s : FrontConn) (b : ControlBlock) → held_in s ≡ Some b → in_stage (is_waiting s) b ≡ s
in_its_stage (Held d) b h = let same : Some d ≡ Some b = h in let eq : b ≡ d = cc in ap Held eq
in_its_stage (Waiting d) b h = let same : Some d ≡ Some b = h in let eq : b ≡ d = cc in ap Waiting eq
in_its_stage Lent b h = let none : None ≡ Some b = h in absurd cc
in_its_stage (Offering n e) b h = let none : None ≡ Some b = h in absurd cc
in_its_stage (Moved n e) b h = let none : None ≡ Some b = h in absurd cc
in_its_stage (Closed l) b h = let none : None ≡ Some b = h in absurd cc

-- it is put back as it was
pub put_back : (m n : Fronts) (c : ℕ) (waiting : Bool) (epoch : Epoch) (before : FrontConn) (b : ControlBlock) → n ≡ with_stage m c Lent (get m c) → Some (waiting, epoch) ≡ option_map leaving_of (get m c)
    → option_map (λ row. row.stage) (get m c) ≡ Some before → held_in before ≡ Some b → with_stage n c (in_stage waiting b) (get n c) ≡ m
put_back m n c waiting epoch before b e h s t = go (get m c) refl e h s where
  go : (o : Option FrontRow) → get m c ≡ o → n ≡ with_stage m c Lent o → Some (waiting, epoch) ≡ option_map leaving_of o → option_map (λ row. row.stage) o ≡ Some before
      → with_stage n c (in_stage waiting b) (get n c) ≡ m
  go None g e h s = let none : None ≡ Some before = s in absurd cc
  go (Some row) g e h s =
      let both : Some (waiting, epoch) ≡ Some (leaving_of row) = h in
      let pair : (waiting, epoch) ≡ leaving_of row = cc in
      let waits : waiting ≡ is_waiting row.stage = ap (λ (p : Bool × Epoch). p.0) pair in
      let stages : Some row.stage ≡ Some before = s in
      let was : before ≡ row.stage = cc in
      let lent : FrontRow = record row { stage = Lent } in
      let held : held_in row.stage ≡ Some b = ap held_in (sym was) ∙ t in
      let same : in_stage waiting b ≡ row.stage = ap (λ (x : Bool). in_stage x b) waits ∙ in_its_stage row.stage b held in
      let there : get n c ≡ Some lent = ap (λ (x : Fronts). get x c) e ∙ get_inserted m c lent in
      ap (with_stage n c (in_stage waiting b)) there ∙ ap (λ (x : FrontConn). insert n c (record lent { stage = x })) same ∙ ap (λ (x : Fronts). insert x c row) e
      ∙ insert_twice m c lent row ∙ ap (put_or m c) (sym g) ∙ put_got m c

-- ---- an end is new once, and an epoch is offered once

end_is : (m : Fronts) (c : ℕ) (epoch : Epoch) (last : Final) (row : FrontRow) → get m c ≡ Some row → is_away epoch.0 row.stage ≡ true
    → get (front_after_ended m c epoch last (get m c)) c ≡ Some (ended_row epoch last row)
end_is m c epoch last row h away =
    ap (λ (x : Fronts). get x c) (ap (front_after_ended m c epoch last) h ∙ cond-true (is_away epoch.0 row.stage) _ _ away) ∙ get_inserted m c (ended_row epoch last row)

pub once : EndsOnce
once m c epoch last other row h away =
    let there = end_is m c epoch last row h away in
    (ap (end_answer epoch.0) there ∙ cond-true (epoch.0 == epoch.0) _ _ (eq-eqb epoch.0 epoch.0 refl), ap (front_after_ended (front_after_ended m c epoch last (get m c)) c epoch other) there)

pub rises : OffersOnce
rises m c row h =
    let epoch_of : Option FrontRow → Option Epoch = option_map (λ (r : FrontRow). r.epoch) in (
      λ node. ap (λ (o : Option FrontRow). epoch_of (get (offered m c node o) c)) h ∙ ap epoch_of (get_inserted m c _),
      λ epoch last away. ap epoch_of (end_is m c epoch last row h away),
      λ parts. ap (λ (o : Option FrontRow). epoch_of (get (after_back m c parts o (back.New (next_epoch row))) c)) h ∙ ap epoch_of (get_inserted m c _),
      λ stage. ap (λ (o : Option FrontRow). epoch_of (get (with_stage m c stage o) c)) h ∙ ap epoch_of (get_inserted m c _),
    )
