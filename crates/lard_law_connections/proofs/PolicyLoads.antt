-- The loads of the ledger are what the charges of the journal add up to.
use Rattle.std.proofs.Common.{◌≡◌, ℕ, ◌≤◌, nat_lt, true, length, List, [], ◌∷◌, ◌++◌, is_some, Option, Some, None, refl, sym, ap, ◌∙◌, subst}
use Rattle.std.specs.FinMap as map
use Rattle.std.specs.List.{fold}
use Rattle.lard_law_view.specs.Prelude.{BatchOver, Charge, Config, Connect, LoadCall, MayCallAll, Rec, Release, Standing, Tally, charges_from, numbers, shares_of, tally_after, tally_after_all, tally_start}
use Rattle.lard_law_connections.proofs.PolicyAsides.{EachFrom, May}
use Rattle.lard_law_connections.proofs.PolicyNumbers.{IsNumbered}
use Rattle.lard_law_connections.proofs.PolicyStanding.{HasNodes, first-within, later-within, one-has}
use Rattle.lard_counts.specs.Ledger.{Ledger, blank_ledger, ledger_step}
use Rattle.lard_law_connections.specs.PolicyLoads.{charge_step, charges}
use Rattle.lard_dispatch.proofs.Counted.{after-reopened, reopened}
use Rattle.lard_dispatch.proofs.Soundness.{is-in, not-in}
use Rattle.lard_history.proofs.Each.{Each}
use Rattle.lard_journal.specs.declared.rec.Rec.TheVariants as rec
use Rattle.lard_loads.specs.Charges.{Share}
use Rattle.lard_loads.specs.Charges as loads
use Rattle.lard_loads.proofs.Charged.{IsCharged, all_charged}

-- ---- the calls of the loads that records tell

abbrev calls_by : Rec → List LoadCall
calls_by (rec.AssignedFirst c r path n add remove) = Connect c n ∷ []
calls_by (rec.AssignedLater c r path n add size queue) = Share c n size ∷ []
calls_by (rec.BatchOver c) = BatchOver c ∷ []
calls_by (rec.Released c) = Release c ∷ []
calls_by _ = []

abbrev calls_of : List Rec → List LoadCall
calls_of [] = []
calls_of (r ∷ rs) = calls_by r ++ calls_of rs

after-append : (t : Tally) (xs ys : List LoadCall) → tally_after_all t (xs ++ ys) ≡ tally_after_all (tally_after_all t xs) ys
after-append t [] ys = refl
after-append t (x ∷ xs) ys = after-append (tally_after t x) xs ys

charges-append : (cs : List Charge) (xs ys : List LoadCall) → charges_from cs (xs ++ ys) ≡ charges_from (charges_from cs xs) ys
charges-append cs [] ys = refl
charges-append cs (x ∷ xs) ys = charges-append (loads.charged cs x) xs ys

may-append : (t : Tally) (xs ys : List LoadCall) → MayCallAll t xs → MayCallAll (tally_after_all t xs) ys → MayCallAll t (xs ++ ys)
may-append t [] ys e f = f
may-append t (x ∷ xs) ys e f = (e.0, may-append (tally_after t x) xs ys e.1 f)

-- ---- a record

-- the loads go along with the calls, whichever nodes are open
one-loads : (ns : List ℕ) (l : Ledger) (r : Rec) → tally_after_all (reopened ns l.loads) (calls_by r) ≡ reopened ns (ledger_step l r).loads
one-loads ns l (rec.AssignedFirst c r path n add remove) = after-reopened ns l.loads (Connect c n)
one-loads ns l (rec.AssignedLater c r path n add size queue) = after-reopened ns l.loads (Share c n size)
one-loads ns l (rec.BatchOver c) = after-reopened ns l.loads (BatchOver c)
one-loads ns l (rec.Released c) = after-reopened ns l.loads (Release c)
one-loads ns l (rec.Closed n) = refl
one-loads ns l (rec.Clock time) = refl
one-loads ns l (rec.Admitted c) = refl
one-loads ns l _ = refl

one-charges : (cs : List Charge) (r : Rec) → charges_from cs (calls_by r) ≡ charge_step cs r
one-charges cs (rec.AssignedFirst c r path n add remove) = refl
one-charges cs (rec.AssignedLater c r path n add size queue) = refl
one-charges cs (rec.BatchOver c) = refl
one-charges cs (rec.Released c) = refl
one-charges cs _ = refl

-- who has open shares is admitted
has-shares : (o : Option Standing) → nat_lt 0 (length (shares_of o)) ≡ true → is_some o ≡ true
has-shares None h = h
has-shares (Some s) h = refl

module _ (cfg : Config) (some : 1 ≤ cfg.nodes) where
  -- with all nodes open, as they are at first
  abbrev whole : Tally → Tally
  whole = reopened (numbers cfg.nodes)

  one-may : (l : Ledger) (r : Rec) → HasNodes cfg l → IsNumbered r → May cfg l r → MayCallAll (whole l.loads) (calls_by r)
  one-may l (rec.AssignedFirst c r path n add remove) has number may =
      let node = (first-within cfg some l has path n add remove may.1.1).node in
      ((number, not-in l.loads c may.1.0, node.0, subst (λ (k : ℕ). n ≤ k) (sym has.nodes) node.1), tt)
  one-may l (rec.AssignedLater c r path n add size queue) has number may =
      let node = (later-within cfg some l has c path n add queue may.1.0 may.1.1 may.1.2).node in
      ((number, is-in l.loads c (ap is_some may.1.1), node.0, subst (λ (k : ℕ). n ≤ k) (sym has.nodes) node.1), tt)
  one-may l (rec.BatchOver c) has number may = ((number, has-shares (map.get l.loads.standings c) may.1), tt)
  one-may l (rec.Released c) has number may = ((number, is-in l.loads c may.1), tt)
  one-may l _ has number may = tt

  -- ---- a journal

  all-may : (l : Ledger) (rs : List Rec) → HasNodes cfg l → Each IsNumbered rs → EachFrom (May cfg) l rs → MayCallAll (whole l.loads) (calls_of rs)
  all-may l [] has numbered may = tt
  all-may l (r ∷ rs) has numbered may = may-append (whole l.loads) (calls_by r) (calls_of rs) (one-may l r has numbered.0 may.0)
      (subst (λ (t : Tally). MayCallAll t (calls_of rs)) (sym (one-loads (numbers cfg.nodes) l r)) (all-may (ledger_step l r) rs (one-has cfg some l has r may.0) numbered.1 may.1))

  all-loads : (l : Ledger) (rs : List Rec) → tally_after_all (whole l.loads) (calls_of rs) ≡ whole (fold ledger_step l rs).loads
  all-loads l [] = refl
  all-loads l (r ∷ rs) = after-append (whole l.loads) (calls_by r) (calls_of rs)
      ∙ ap (λ (t : Tally). tally_after_all t (calls_of rs)) (one-loads (numbers cfg.nodes) l r) ∙ all-loads (ledger_step l r) rs

  all-charges : (cs : List Charge) (rs : List Rec) → charges_from cs (calls_of rs) ≡ fold charge_step cs rs
  all-charges cs [] = refl
  all-charges cs (r ∷ rs) = charges-append cs (calls_by r) (calls_of rs) ∙ ap (λ (xs : List Charge). charges_from xs (calls_of rs)) (one-charges cs r) ∙ all-charges (charge_step cs r) rs

  pub charged : (J : List Rec) → HasNodes cfg (blank_ledger cfg) → Each IsNumbered J → EachFrom (May cfg) (blank_ledger cfg) J → IsCharged (fold ledger_step (blank_ledger cfg) J).loads (charges J)
  charged J has numbered may =
      let by : IsCharged (whole (fold ledger_step (blank_ledger cfg) J).loads) (charges J) = subst (λ (t : Tally). IsCharged t (charges J)) (all-loads (blank_ledger cfg) J)
      (subst (IsCharged (tally_after_all (tally_start cfg.nodes) (calls_of J))) (all-charges [] J) (all_charged cfg.nodes (calls_of J) (all-may (blank_ledger cfg) J has numbered may))) in
      record { each = by.each; loads = by.loads; count = by.count; in_range = by.in_range }
