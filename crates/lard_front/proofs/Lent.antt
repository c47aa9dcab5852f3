-- A connection that was taken out for its rule: the rule is that of the state before.
use Rattle.std.proofs.Common.{◌≡◌, ℕ, Bool, true, false, List, [], Option, Some, None, is_some, refl, sym, ap, ◌∙◌}
use Rattle.std.specs.FinMap as table
use Rattle.lard_dispatch.specs.Books.{Dispatcher}
use Rattle.lard_dispatch.specs.Calls.{first_answer}
use Rattle.lard_dispatch.specs.declared.dispatch.First.{First}
use Rattle.lard_dispatch.specs.declared.dispatch.First.TheVariants as first
use Rattle.lard_endpoint.specs.Control.{ControlBlock}
use Rattle.lard_rules.specs.declared.front.FrontRest.{FrontRest}
use Rattle.lard_rules.specs.declared.front.FrontState.{FrontState}
use Rattle.lard_rules.specs.declared.front.FrontTurn.{FrontTurn}
use Rattle.lard_rules.specs.Front.{Did, Does, FrontEnv, FrontPart, holds, leaves_by, placed, front_rest, front_rests, turn_here, waits_on}
use Rattle.lard_rules.specs.FrontPlace.{front_part, front_put, put_back}
use Rattle.lard_front.specs.declared.turns.Around.{Around}
use Rattle.lard_front.specs.Hand.{Holds, Lends, deed_turn, front_env_of, front_lent, read_deed, front_rested_in}
use Rattle.lard_front.proofs.Seated.{rested_is}
use Rattle.lard_dispatch.specs.Laws.{after_calls}
use Rattle.lard_handoff_front.specs.declared.row.FrontConn.TheVariants as stage
use Rattle.lard_handoff_front.specs.declared.row.FrontRow.{FrontRow}
use Rattle.lard_handoff_front.specs.Front.{endpoint_of, in_stage, with_stage}
use Rattle.lard_handoff_front.specs.Row.{held_in}
use Rattle.lard_rules.specs.declared.places.Ending.{Ending}
use Rattle.lard_rules.specs.declared.places.Turn.{Turn}
use Rattle.lard_rules.specs.Serving.{Service, serving_settled}
use Rattle.lard_table.proofs.Map.{get_inserted, put_twice}
use Rattle.lard_table.specs.Table.{put_or}

-- it has its endpoint
pub held_here : (waiting : Bool) (b : ControlBlock) → held_in (in_stage waiting b) ≡ Some b
held_here true b = refl
held_here false b = refl

pub has_endpoint : (s : FrontState) (c : ℕ) (waiting : Bool) (h : Holds s c waiting) → endpoint_of (table.get s.conns c) ≡ Some h.block
has_endpoint s c waiting h = ap endpoint_of h.found ∙ ap held_in h.stage ∙ held_here waiting h.block

pub some_endpoint : (s : FrontState) (c : ℕ) (waiting : Bool) → Holds s c waiting → is_some (endpoint_of (table.get s.conns c)) ≡ true
some_endpoint s c waiting h = ap is_some (has_endpoint s c waiting h)

pub same_endpoint : (s : FrontState) (c : ℕ) (waiting : Bool) (h : Holds s c waiting) (b : ControlBlock) → endpoint_of (table.get s.conns c) ≡ Some b → b ≡ h.block
same_endpoint s c waiting h b e = let same : Some b ≡ Some h.block = sym e ∙ has_endpoint s c waiting h in cc

module _ (s : FrontState) (c : ℕ) (row : FrontRow) (found : table.get s.conns c ≡ Some row) where
  -- in hand
  abbrev out : FrontRow
  out = record row { stage = stage.Lent }

  lent_is : (front_lent s c).conns ≡ table.insert s.conns c out
  lent_is = ap (with_stage s.conns c stage.Lent) found

  pub lent_found : table.get (front_lent s c).conns c ≡ Some out
  lent_found = ap (λ u. table.get u c) lent_is ∙ get_inserted s.conns c out

  -- what is put back then is put back at once
  pub lent_put : (p : FrontPart) → front_put (front_lent s c) c p ≡ front_put s c p
  lent_put p = λ i. record (front_put s c p) { conns = (ap (λ u. put_or u c p.row) lent_is ∙ put_twice s.conns c (Some out) p.row) i }

  lent_turn : (x : Did) → ◌≡◌ {A = FrontState × FrontTurn} (put_back (front_lent s c) c x, x.turn) (put_back s c x, x.turn)
  lent_turn x = ap (λ (t : FrontState). (record t { dispatch = after_calls s.dispatch x.calls }, x.turn)) (lent_put x.part)

-- in hand, it lends its endpoint
pub lends : (s : FrontState) (c : ℕ) (waiting : Bool) → Holds s c waiting → Lends (front_lent s c) c
lends s c waiting h = record {
  row = record h.row { stage = stage.Lent };
  rest = h.rest;
  found = lent_found s c h.row h.found;
  stage = refl;
  found_rest = h.found_rest;
  small = h.small;
  none_kept = h.none_kept;
  some_kept = h.some_kept;
}

module _ (around : Around) (s : FrontState) (row : FrontRow) (found : table.get s.conns around.serve.c ≡ Some row) (w : Service) where
  abbrev k : ℕ
  k = around.serve.c

  abbrev lent : FrontState
  lent = front_lent s k

  abbrev env : FrontEnv
  env = front_env_of around s

  abbrev rest : FrontRest
  rest = front_rest (table.get s.rests k)

  -- a connection in hand is placed as it was found
  lent_placed : (path : List ℕ) (f : First) → deed_turn lent k (Does (placed (front_env_of around lent) (front_part lent k) (out s k row found) rest w path f))
      ≡ deed_turn s k (Does (placed env (front_part s k) row rest w path f))
  lent_placed path (first.Go choice) = lent_turn s k row found (placed env (front_part s k) row rest w path (first.Go choice))
  lent_placed path first.Waits = lent_turn s k row found (placed env (front_part s k) row rest w path first.Waits)

  lent_deed : (target : Option (List ℕ)) → deed_turn lent k (read_deed (front_env_of around lent) (front_part lent k) w target (Some (out s k row found)))
      ≡ deed_turn s k (read_deed env (front_part s k) w target (Some row))
  lent_deed None =
      let x = serving_settled env.serve w in
      lent_turn s k row found (record { part = front_rests (front_part s k) row rest stage.Held x.0; turn = turn_here x.1; calls = [] })
  lent_deed (Some path) = lent_placed path (first_answer s.dispatch path around.time)

  pub read_lent : (target : Option (List ℕ)) → deed_turn lent k (read_deed (front_env_of around lent) (front_part lent k) w target (table.get lent.conns k))
      ≡ deed_turn s k (read_deed env (front_part s k) w target (Some row))
  read_lent target = ap (λ o. deed_turn lent k (read_deed (front_env_of around lent) (front_part lent k) w target o)) (lent_found s k row found) ∙ lent_deed target

-- it is put back
pub rested_lent : (s : FrontState) (c : ℕ) (waiting : Bool) (h : Holds s c waiting) (d : Dispatcher) (w : Bool) (e : Ending)
    → front_rested_in (record (front_lent s c) { dispatch = d }) c w e
    ≡ record (front_put s c (front_rests (front_part s c) h.row (front_rest (table.get s.rests c)) (in_stage w) e)) { dispatch = d }
rested_lent s c waiting h d w e =
    rested_is (record (front_lent s c) { dispatch = d }) c (out s c h.row h.found) h.rest (lent_found s c h.row h.found) h.found_rest h.some_kept w e
    ∙ ap (λ (t : FrontState). record t { dispatch = d }) (lent_put s c h.row h.found (front_rests (front_part s c) h.row h.rest (in_stage w) e))
    ∙ ap (λ o. record (front_put s c (front_rests (front_part s c) h.row (front_rest o) (in_stage w) e)) { dispatch = d }) (sym h.found_rest)

-- a connection that was taken out where it was held is held on, or ended
pub held_on : {s taken n : FrontState} {c : ℕ} {t : FrontTurn} (h : Holds s c false) → taken ≡ front_lent s c → (x : Ending × Turn)
    → n ≡ front_rested_in taken c false x.0 → t ≡ turn_here x.1 → (n, t) ≡ deed_turn s c (holds (front_part s c) h.row (front_rest (table.get s.rests c)) x)
held_on {s = s} {c = c} h after x back told =
    λ i. ((back ∙ ap (λ u. front_rested_in u c false x.0) after ∙ rested_lent s c false h s.dispatch false x.0) i, told i)

-- and one that waited waits on
pub waited_on : (env : FrontEnv) {s taken n : FrontState} {d : Dispatcher} {t : FrontTurn} (h : Holds s env.serve.c true) → taken ≡ front_lent s env.serve.c → (x : Ending × Turn)
    → n ≡ front_rested_in (record taken { dispatch = d }) env.serve.c true x.0 → d ≡ after_calls taken.dispatch (leaves_by env.serve.c x.0) → t ≡ turn_here x.1
    → (n, t) ≡ deed_turn s env.serve.c (waits_on env (front_part s env.serve.c) h.row (front_rest (table.get s.rests env.serve.c)) x)
waited_on env {s = s} {d = d} h after x back left told =
    let c = env.serve.c in
    let part = front_rests (front_part s c) h.row (front_rest (table.get s.rests c)) stage.Waiting x.0 in
    λ i. (
      (back ∙ ap (λ u. front_rested_in (record u { dispatch = d }) c true x.0) after ∙ rested_lent s c true h d true x.0
          ∙ ap (λ u. record (front_put s c part) { dispatch = u }) (left ∙ ap (λ u. after_calls u.dispatch (leaves_by c x.0)) after)) i,
      told i,
    )
