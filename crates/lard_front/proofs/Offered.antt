-- A connection that is placed, as the rules have it.
use Rattle.std.proofs.Common.{◌≡◌, ℕ, List, false, Option, Some, Result, Ok, Err, IfOk, sym, ap, ◌∙◌}
use Rattle.std.specs.FinMap as table
use Rattle.lard_endpoint.specs.Control.{ControlBlock}
use Rattle.lard_rules.specs.declared.front.FrontState.{FrontState}
use Rattle.lard_rules.specs.declared.front.FrontTurn.{FrontTurn}
use Rattle.lard_dispatch.specs.Books.{Dispatcher}
use Rattle.lard_dispatch.specs.Calls.{after_first, first_answer}
use Rattle.lard_dispatch.specs.declared.dispatch.First.{First}
use Rattle.lard_dispatch.specs.declared.dispatch.First.TheVariants as first
use Rattle.lard_rules.specs.Front.{Does, handed_off, offering, placed, front_rest}
use Rattle.lard_rules.specs.FrontPlace.{front_part}
use Rattle.lard_front.specs.declared.turns.Around.{Around}
use Rattle.lard_front.specs.Hand.{deed_turn, front_env_of, handed_at, read_deed}
use Rattle.lard_handoff_front.specs.declared.row.FrontConn.TheVariants as stage
use Rattle.lard_handoff_front.specs.declared.row.FrontRow.{FrontRow}
use Rattle.lard_handoff_front.specs.Front.{Fronts, in_stage, with_stage}
use Rattle.lard_policy.specs.declared.first.FirstChoice.{FirstChoice}
use Rattle.lard_resend.specs.Pending.{put_list}
use Rattle.lard_serving.specs.declared.answering.Service.{Service as Served}
use Rattle.lard_serving.specs.Serving.{service_of}
use Rattle.lard_table.proofs.Map.{get_inserted, put_twice}
use Rattle.lard_table.specs.Table.{put_or}

-- ---- a connection that is placed

-- what follows from what a call that did not fail says
pub where_ok : {A E : Type 0} (P Q : A → Type 0) → ((x : A) → P x → Q x) → (r : Result A E) → IfOk r P → IfOk r Q
where_ok P Q f (Ok x) p = f x p
where_ok P Q f (Err e) p = tt

module _ (around : Around) (s : FrontState) (b : ControlBlock) (w : Served) (path : List ℕ) (choice : FirstChoice) (row : FrontRow) (found : table.get s.conns around.serve.c ≡ Some row) where
  abbrev k : ℕ
  k = around.serve.c

  -- its endpoint is here again
  abbrev back : FrontRow
  back = record row { stage = stage.Held b }

  pub back_is : (m : Fronts) → m ≡ with_stage s.conns k (in_stage false b) (table.get s.conns k) → m ≡ table.insert s.conns k back
  back_is m put = put ∙ ap (with_stage s.conns k (in_stage false b)) found

  pub back_found : (m : Fronts) → m ≡ with_stage s.conns k (in_stage false b) (table.get s.conns k) → table.get m k ≡ Some back
  back_found m put = ap (λ u. table.get u k) (back_is m put) ∙ get_inserted s.conns k back

  pub placed_is : {m : Fronts} {d : Dispatcher} {new : FrontState} {t : FrontTurn} → m ≡ with_stage s.conns k (in_stage false b) (table.get s.conns k)
      → d ≡ after_first s.dispatch k path around.time → first.Go choice ≡ first_answer s.dispatch path around.time
      → handed_at (front_env_of around (record s { conns = m; dispatch = d })) (record s { conns = m; dispatch = d }) w path choice (table.get m k) ≡ Some (new, t)
      → (new, t) ≡ deed_turn s k (read_deed (front_env_of around s) (front_part s k) (service_of b w) (Some path) (table.get s.conns k))
  placed_is {m = m} {d = d} put after answer handed =
      let part = offering (front_env_of around s) row (service_of b w) path choice.node in
      let there = sym handed ∙ ap (handed_at (front_env_of around (record s { conns = m; dispatch = d })) (record s { conns = m; dispatch = d }) w path choice) (back_found m put) in
      some_is _ _ there
      ∙ (λ i. (
        record s {
          conns = (ap (λ u. put_or u k part.row) (back_is m put) ∙ put_twice s.conns k (Some back) part.row) i;
          rests = put_or s.rests k part.rest;
          kept = put_list s.kept k part.kept;
          dispatch = after i;
        },
        (handed_off (front_env_of around s) row (service_of b w) path choice).1,
      ))
      ∙ ap (λ (f : First). deed_turn s k (Does (placed (front_env_of around s) (front_part s k) row (front_rest (table.get s.rests k)) (service_of b w) path f))) answer
      ∙ sym (ap (λ (o : Option FrontRow). deed_turn s k (read_deed (front_env_of around s) (front_part s k) (service_of b w) (Some path) o)) found) where
        some_is : (x y : FrontState × FrontTurn) → Some x ≡ Some y → x ≡ y
        some_is x y e = cc
