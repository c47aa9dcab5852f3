-- An endpoint that is taken out to be ended, and put back where it may not end.
use Rattle.std.proofs.Common.{◌≡◌, ℕ, true, false, Option, Some, None, IsSome, OnSome, option_map, refl, sym, ap, ◌∙◌, subst}
use Rattle.std.specs.FinMap.{get, insert}
use Rattle.std.proofs.lemmas.Bool.{cond-false}
use Rattle.lard_endpoint.specs.Control.{ControlBlock}
use Rattle.lard_endpoint.specs.Moving.{may_end}
use Rattle.lard_table.proofs.Map.{get_inserted, insert_twice, put_got}
use Rattle.lard_table.specs.Table.{put_or}
use Rattle.lard_handoff_back.specs.declared.row.BackConn.{BackConn}
use Rattle.lard_handoff_back.specs.declared.row.BackConn.TheVariants.{Here, Out, Ended, Gone}
use Rattle.lard_handoff_back.specs.declared.row.BackRow.{BackRow}
use Rattle.lard_handoff_back.specs.Row.{back_held, is_out}
use Rattle.lard_handoff_back.specs.Laws.{StagesKeepTheEpoch}
use Rattle.lard_handoff_back.specs.Back.{Backs, back_endpoint, back_ends, given, back_may_put, back_with_stage}

-- a row stays where its stage is set
pub still_there : (m : Backs) (c : ℕ) (stage before : BackConn) → option_map (λ row. row.stage) (get m c) ≡ Some before → IsSome (get (back_with_stage m c stage (get m c)) c)
still_there m c stage before h = go (get m c) h where
  go : (o : Option BackRow) → option_map (λ row. row.stage) o ≡ Some before → IsSome (get (back_with_stage m c stage o) c)
  go None h = let none : None ≡ Some before = h in absurd cc
  go (Some row) h = subst IsSome (sym (get_inserted m c (record row { stage = stage }))) refl

here_again : (s : BackConn) (b : ControlBlock) → back_held s ≡ Some b → Here b ≡ s
here_again (Here d) b h = let same : Some d ≡ Some b = h in let eq : b ≡ d = cc in ap Here eq
here_again Out b h = let none : None ≡ Some b = h in absurd cc
here_again Ended b h = let none : None ≡ Some b = h in absurd cc
here_again Gone b h = let none : None ≡ Some b = h in absurd cc

-- it is put back as it was
pub put_back : (m n : Backs) (c : ℕ) (before : BackConn) (b : ControlBlock) → n ≡ back_with_stage m c Ended (get m c) → option_map (λ row. row.stage) (get m c) ≡ Some before → back_held before ≡ Some b
    → back_with_stage n c (Here b) (get n c) ≡ m
put_back m n c before b e s t = go (get m c) refl e s where
  go : (o : Option BackRow) → get m c ≡ o → n ≡ back_with_stage m c Ended o → option_map (λ row. row.stage) o ≡ Some before → back_with_stage n c (Here b) (get n c) ≡ m
  go None g e s = let none : None ≡ Some before = s in absurd cc
  go (Some row) g e s =
      let stages : Some row.stage ≡ Some before = s in
      let was : before ≡ row.stage = cc in
      let ended : BackRow = record row { stage = Ended } in
      let same : Here b ≡ row.stage = here_again row.stage b (ap back_held (sym was) ∙ t) in
      let there : get n c ≡ Some ended = ap (λ (x : Backs). get x c) e ∙ get_inserted m c ended in
      ap (back_with_stage n c (Here b)) there ∙ ap (λ (x : BackConn). insert n c (record ended { stage = x })) same ∙ ap (λ (x : Backs). insert x c row) e
      ∙ insert_twice m c ended row ∙ ap (put_or m c) (sym g) ∙ put_got m c

-- nothing is given where the endpoint may not end
pub not_ended : (m : Backs) (c : ℕ) (o : Option BackRow) (before : BackConn) (b : ControlBlock) → option_map (λ row. row.stage) o ≡ Some before → back_held before ≡ Some b → may_end b ≡ false
    → m ≡ given m c o (back_ends (back_endpoint o))
not_ended m c None before b s t e = let none : None ≡ Some before = s in absurd cc
not_ended m c (Some row) before b s t e =
    let stages : Some row.stage ≡ Some before = s in
    let was : row.stage ≡ before = cc in
    sym (ap (given m c (Some row)) (ap back_ends (ap back_held was ∙ t) ∙ cond-false (may_end b) _ _ e))

-- a connection whose stage is Out may be put back
pub out_is : (o : Option BackRow) (r : Option ControlBlock) → option_map (λ row. row.stage) o ≡ Some Out → OnSome r (back_may_put o ≡ true)
out_is None r h = let none : None ≡ Some Out = h in absurd cc
out_is (Some row) None h = tt
out_is (Some row) (Some b) h = let stages : Some row.stage ≡ Some Out = h in let same : row.stage ≡ Out = cc in ap is_out same

-- the highest epoch that was decided stays
pub stages_keep : StagesKeepTheEpoch
stages_keep m c stage row h = ap (λ (o : Option BackRow). get (back_with_stage m c stage o) c) h ∙ get_inserted m c (record row { stage = stage })
