-- What each record does to the loads of the nodes and to their connections; so in a step in which these fall first, and then rise, none
-- is above what it was before, or is behind.
use Rattle.std.proofs.Common.{◌≡◌, ℕ, ◌+◌, ◌/◌, ◌≤◌, nat_eq, List, [], ◌∷◌, ◌++◌, sum_by, Option, Some, None, arith, refl, subst, sym}
use Rattle.std.proofs.lemmas.Bool.{cond_both}
use Rattle.std.proofs.lemmas.List.Sums.{sum_by_push}
use Rattle.std.specs.FinMap as map
use Rattle.std.specs.List.{fold}
use Rattle.lard_law_view.specs.Prelude.{Config, IsConnection, Rec, Standing, Tally, batch_ended, batch_ended_with, connected, connections_at, load, put_or, released, shared, sharing, units_of, units_of_share}
use Rattle.lard_law_connections.proofs.LineSteps.{IsFalling, IsRising}
use Rattle.lard_law_connections.proofs.PolicyAsides.{EachFrom, May}
use Rattle.lard_law_connections.proofs.PolicyNumbers.{IsNumbered}
use Rattle.lard_counts.specs.Ledger.{Ledger, ledger_step}
use Rattle.lard_dispatch.proofs.Homes.{home_at}
use Rattle.lard_dispatch.proofs.Soundness.{not-in}
use Rattle.lard_history.proofs.Each.{Each}
use Rattle.lard_journal.specs.declared.rec.Rec.TheVariants as rec
use Rattle.lard_loads.specs.declared.slot.Share.{Share}
use Rattle.lard_loads.proofs.Counts.{sum-put}
use Rattle.lard_loads.proofs.Sums.{load-put}

-- ---- less is loaded

-- no node has more than in the other
pub record IsBelow (t u : Tally) : Type 0 where
  pub loads : (n : ℕ) → load t n ≤ load u n
  pub homes : (n : ℕ) → connections_at t n ≤ connections_at u n

pub below-same : (t : Tally) → IsBelow t t
below-same t = record { loads = λ n. omega arith; homes = λ n. omega arith }

below-then : (t u v : Tally) → IsBelow t u → IsBelow u v → IsBelow t v
below-then t u v h k = record {
  loads = λ n. let a = h.loads n in let b = k.loads n in omega (arith, a, b);
  homes = λ n. let a = h.homes n in let b = k.homes n in omega (arith, a, b);
}

-- where a connection counts less, or more, than before
put-less : (t : Tally) (c : ℕ) (o : Option Standing) → IsConnection c → ((n : ℕ) → units_of o n ≤ units_of (map.get t.standings c) n) → ((n : ℕ) → home_at o n ≤ home_at (map.get t.standings c) n)
    → IsBelow (record t { standings = put_or t.standings c o }) t
put-less t c o one less fewer = record {
  loads = λ n. let sum = load-put t.standings n c o one.0 one.1 in let here = less n in omega (arith, sum, here);
  homes = λ n. let sum = sum-put (λ x. home_at x n) t.standings c o one.0 one.1 in let here = fewer n in omega (arith, sum, here);
}

put-more : (t : Tally) (c : ℕ) (o : Option Standing) → IsConnection c → ((n : ℕ) → units_of (map.get t.standings c) n ≤ units_of o n) → ((n : ℕ) → home_at (map.get t.standings c) n ≤ home_at o n)
    → IsBelow t (record t { standings = put_or t.standings c o })
put-more t c o one more rise = record {
  loads = λ n. let sum = load-put t.standings n c o one.0 one.1 in let here = more n in omega (arith, sum, here);
  homes = λ n. let sum = sum-put (λ x. home_at x n) t.standings c o one.0 one.1 in let here = rise n in omega (arith, sum, here);
}

-- ---- a call of the loads

released-falls : (t : Tally) (c : ℕ) → IsConnection c → IsBelow (released t c) t
released-falls t c one = put-less t c None one (λ n. omega arith) (λ n. omega arith)

ended-falls : (t : Tally) (c : ℕ) → IsConnection c → IsBelow (batch_ended t c) t
ended-falls t c one = go (map.get t.standings c) refl where
  go : (o : Option Standing) → map.get t.standings c ≡ o → IsBelow (batch_ended_with t c o) t
  go None e = below-same t
  go (Some s) e = put-less t c (Some (record s { shares = [] })) one
      (λ n. subst (λ (o : Option Standing). units_of (Some (record s { shares = [] })) n ≤ units_of o n) (sym e) (omega arith))
      (λ n. subst (λ (o : Option Standing). home_at (Some (record s { shares = [] })) n ≤ home_at o n) (sym e) (omega arith))

connected-rises : (t : Tally) (c h : ℕ) → IsConnection c → map.get t.standings c ≡ None → IsBelow t (connected t c h)
connected-rises t c h one free = put-more t c (Some (record { home = h; shares = [] })) one
    (λ n. subst (λ (o : Option Standing). units_of o n ≤ units_of (Some (record { home = h; shares = [] })) n) (sym free) (omega arith))
    (λ n. subst (λ (o : Option Standing). home_at o n ≤ home_at (Some (record { home = h; shares = [] })) n) (sym free) (omega arith))

shared-rises : (t : Tally) (c p size : ℕ) → IsConnection c → IsBelow t (shared t c p size)
shared-rises t c p size one = go (map.get t.standings c) refl where
  go : (o : Option Standing) → map.get t.standings c ≡ o → IsBelow t (sharing t c p size o)
  go None e = below-same t
  go (Some s) e = cond_both (nat_eq p s.home) t _ (λ (x : Tally). IsBelow t x) (λ same. below-same t) (λ away.
      let x : Share = record { node = p; units = 840 / size } in
      let next : Standing = record s { shares = s.shares ++ x ∷ [] } in
      put-more t c (Some next) one
      (λ n.
      let push : sum_by (units_of_share n) (s.shares ++ x ∷ []) ≡ sum_by (units_of_share n) s.shares + units_of_share n x = sum_by_push (units_of_share n) s.shares x in
      subst (λ (o : Option Standing). units_of o n ≤ units_of (Some next) n) (sym e) (omega (arith, push)))
      (λ n. subst (λ (o : Option Standing). home_at o n ≤ home_at (Some next) n) (sym e) (omega arith)))

-- ---- a record

one-falls : (l : Ledger) (r : Rec) → IsFalling r → IsNumbered r → IsBelow (ledger_step l r).loads l.loads
one-falls l (rec.Released c) f number = released-falls l.loads c number
one-falls l (rec.BatchOver c) f number = ended-falls l.loads c number
one-falls l (rec.AssignedFirst c r path k add remove) f number = absurd f
one-falls l (rec.AssignedLater c r path k add size queue) f number = absurd f
one-falls l (rec.Closed n) f number = let same = below-same l.loads in record { loads = same.loads; homes = same.homes }
one-falls l (rec.Clock time) f number = below-same l.loads
one-falls l (rec.Admitted c) f number = below-same l.loads
one-falls l _ f number = below-same l.loads

one-rises : (cfg : Config) (l : Ledger) (r : Rec) → IsRising r → IsNumbered r → May cfg l r → IsBelow l.loads (ledger_step l r).loads
one-rises cfg l (rec.AssignedFirst c r path k add remove) f number may = connected-rises l.loads c k number (not-in l.loads c may.1.0)
one-rises cfg l (rec.AssignedLater c r path k add size queue) f number may = shared-rises l.loads c k size number
one-rises cfg l (rec.Released c) f number may = absurd f
one-rises cfg l (rec.BatchOver c) f number may = absurd f
one-rises cfg l (rec.Closed n) f number may = absurd f
one-rises cfg l (rec.Clock time) f number may = below-same l.loads
one-rises cfg l (rec.Admitted c) f number may = below-same l.loads
one-rises cfg l _ f number may = below-same l.loads

-- ---- at every moment

-- while they fall no node has more than before
pub falls-below : (l : Ledger) (t : Tally) (rs : List Rec) → Each IsFalling rs → Each IsNumbered rs → IsBelow l.loads t → EachFrom (λ l r. IsBelow l.loads t) l rs
falls-below l t [] f number h = tt
falls-below l t (r ∷ rs) f number h = (h, falls-below (ledger_step l r) t rs f.1 number.1 (below-then (ledger_step l r).loads l.loads t (one-falls l r f.0 number.0) h))

-- and while they rise none has more than behind
pub rises-below : (cfg : Config) (l : Ledger) (rs : List Rec) → Each IsRising rs → Each IsNumbered rs → EachFrom (May cfg) l rs
    → EachFrom (λ k r. IsBelow k.loads (fold ledger_step l rs).loads) l rs × IsBelow l.loads (fold ledger_step l rs).loads
rises-below cfg l [] f number may = (tt, below-same l.loads)
rises-below cfg l (r ∷ rs) f number may =
    let later = rises-below cfg (ledger_step l r) rs f.1 number.1 may.1 in
    let here : IsBelow l.loads (fold ledger_step (ledger_step l r) rs).loads = below-then l.loads (ledger_step l r).loads (fold ledger_step (ledger_step l r) rs).loads (one-rises cfg l r f.0 number.0 may.0) later.1 in
    ((here, later.0), here)
