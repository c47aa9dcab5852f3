-- A connection that was in hand and is put back, as the rules have it.
use Rattle.std.proofs.Common.{◌≡◌, ℕ, Bool, true, false, List, [], Some, IsSome, IfOk, OnOk, Result, Ok, Err, is_err, sym, ap, ◌∙◌, rules, subst}
use Rattle.std.specs.FinMap as table
use Rattle.std.specs.FinMap.{FinMap}
use Rattle.std.specs.Ordering.{nat_cmp}
use Rattle.lard_dispatch.specs.Books.{Dispatcher}
use Rattle.lard_rules.specs.declared.front.FrontRest.{FrontRest}
use Rattle.lard_rules.specs.declared.front.FrontState.{FrontState}
use Rattle.lard_rules.specs.Front.{rest_after, front_rest, front_rests}
use Rattle.lard_rules.specs.FrontPlace.{front_part, front_put}
use Rattle.lard_front.specs.Hand.{Lends, front_rested_in}
use Rattle.lard_handoff_front.specs.declared.row.FrontConn.TheVariants as stage
use Rattle.lard_handoff_front.specs.declared.row.FrontRow.{FrontRow}
use Rattle.lard_handoff_front.specs.Front.{in_stage, with_stage}
use Rattle.lard_resend.proofs.Lists.{list_got}
use Rattle.lard_resend.specs.Pending.{held, put_list}
use Rattle.lard_rules.specs.declared.places.Ending.{Ending}
use Rattle.lard_rules.specs.declared.places.Ending.TheVariants.{Here, Over}
use Rattle.lard_rules.specs.declared.places.Turn.{Turn}
use Rattle.lard_table.proofs.Map.{get_inserted, put_twice}
use Rattle.lard_table.specs.Table.{put_or}

-- what is put in is found
pub there_after : {X : Type 0} (m n : FinMap nat_cmp X) (c : ℕ) (x : X) → n ≡ table.insert m c x → IsSome (table.get n c)
there_after m n c x h = let f : table.get n c ≡ Some x = ap (λ u. table.get u c) h ∙ get_inserted m c x in search (rules, f)

-- what is found there is some
pub is_there : {X : Type 0} (m : FinMap nat_cmp X) (c : ℕ) (x : X) → table.get m c ≡ Some x → IsSome (table.get m c)
is_there m c x f = search (rules, f)

-- a call that did not fail did what it says
pub did_it : {A E X : Type 0} (r : Result A E) (b : Bool) → b ≡ is_err r → b ≡ false → OnOk r X → X
did_it (Ok a) b e f x = x
did_it (Err a) b e f x = let none : true ≡ false = sym e ∙ f in absurd cc

pub rested_is : (t : FrontState) (c : ℕ) (row : FrontRow) (rest : FrontRest) → table.get t.conns c ≡ Some row → table.get t.rests c ≡ Some rest → (table.get t.kept c ≡ Some [] → ⊥)
    → (w : Bool) (e : Ending) → front_rested_in t c w e ≡ front_put t c (front_rests (front_part t c) row rest (in_stage w) e)
rested_is t c row rest found found_rest some w (Here b n) = λ i. record t {
  conns = with_stage t.conns c (in_stage w b) (found i);
  rests = table.insert t.rests c (record (front_rest (found_rest i)) { count = n });
  kept = sym (list_got t.kept c some) i;
}
rested_is t c row rest found found_rest some w (Over last) = λ i. record t {
  conns = with_stage t.conns c (stage.Closed last) (found i);
  rests = table.remove t.rests c;
  kept = sym (list_got t.kept c some) i;
}

abbrev with_target : FrontState → ℕ → List ℕ → FrontRest
with_target s c path = record (front_rest (table.get s.rests c)) { target = Some path }

-- put back to wait with a path
pub waited_is : (s : FrontState) (c : ℕ) (l : Lends s c) (path : List ℕ) {m : FinMap nat_cmp FrontRest} (d : Dispatcher) → m ≡ table.insert s.rests c (with_target s c path) → (e : Ending)
    → front_rested_in (record s { rests = m; dispatch = d }) c true e
    ≡ record (front_put s c (front_rests (front_part s c) l.row (with_target s c path) stage.Waiting e)) { dispatch = d }
waited_is s c l path {m = m} d set e =
    rested_is (record s { rests = m; dispatch = d }) c l.row (with_target s c path) l.found (ap (λ u. table.get u c) set ∙ get_inserted s.rests c (with_target s c path)) l.some_kept true e
    ∙ (λ i. record s {
      conns = put_or s.conns c (front_rests (front_part s c) l.row (with_target s c path) stage.Waiting e).row;
      rests = (ap (λ u. put_or u c (rest_after (with_target s c path) e)) set
          ∙ put_twice s.rests c (Some (with_target s c path)) (rest_after (with_target s c path) e)) i;
      kept = put_list s.kept c (held s.kept c);
      dispatch = d;
    })

-- what was said of the turn of a call that did not fail
pub given_is : {E : Type 0} {r : Result Turn E} {t : Turn} (e : Ending) (x : Ending × Turn) → r ≡ Ok t → IfOk r (λ (u : Turn). (e, u) ≡ x) → (e, t) ≡ x
given_is e x was told = subst (λ r. IfOk r (λ (u : Turn). (e, u) ≡ x)) was told

-- a turn that was given is that of what it comes to
pub then_is : {S T E : Type 0} (new : S) (x y : S × T) → x ≡ y → (r : Result T E) → IfOk r (λ t. (new, t) ≡ x) → IfOk r (λ t. (new, t) ≡ y)
then_is new x y e (Ok t) h = h ∙ e
then_is new x y e (Err f) h = tt
