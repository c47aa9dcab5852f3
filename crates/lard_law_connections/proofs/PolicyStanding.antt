-- The nodes of a ledger: all that it names are nodes that there are, some are open, and these are those that were not closed.
use Rattle.std.proofs.Common.{◌≡◌, ℕ, ◌≤◌, ◌<◌, nat_eq, not, List, [], ◌∷◌, length, Option, Some, None, IfSome, Ok, refl, sym, ap, ◌∙◌, subst, arith, Bool, true, false, ◌&&◌, cond, filter}
use Rattle.std.proofs.lemmas.Bool.{cond_both}
use Rattle.std.specs.FinMap as map
use Rattle.std.specs.List.{AllByRecursion, fold}
use Rattle.lard_law_view.specs.Prelude.{AreAtNodes, AreServedByNodes, Config, FirstChoice, IsDispatcherSound, IsNode, LaterChoice, Rec, Standing, Tally, batch_ended, batch_ended_with, config_check, dispatch_begun, first_choice, home, is_node_closed, joined, later_choice, node_closed_step, numbers, shared, sharing, touched}
use Rattle.lard_law_connections.proofs.PolicyAsides.{EachFrom, May}
use Rattle.lard_counts.specs.Ledger.{Ledger, blank_ledger, ledger, ledger_step, server_set}
use Rattle.lard_dispatch.proofs.AllCalls.{some-node}
use Rattle.lard_dispatch.proofs.Chosen.{IsChosen, all-filter, choice-within}
use Rattle.lard_dispatch.proofs.Counted.{later-has}
use Rattle.lard_dispatch.proofs.Servers.{served-closed, served-joined, served-reduced, served-touched}
use Rattle.lard_dispatch.proofs.Sharing.{add-home}
use Rattle.lard_dispatch.proofs.Soundness.{begun-sound, home-node, open-there, other-stays}
use Rattle.lard_dispatch.proofs.Standing.{at-nodes-put}
use Rattle.lard_history.proofs.Seeing.{by_number, other_number, same_number}
use Rattle.lard_loads.proofs.Firsts.{filter-all, filter-both}
use Rattle.lard_journal.specs.declared.rec.Rec.TheVariants as rec

pub record HasNodes (cfg : Config) (l : Ledger) : Type 0 where
  pub nodes : l.loads.nodes ≡ cfg.nodes
  pub open_nodes : AllByRecursion (IsNode cfg.nodes) l.loads.open_nodes
  pub some_open : 0 < length l.loads.open_nodes
  pub homes : AreAtNodes cfg.nodes l.loads.standings
  pub served : AreServedByNodes cfg.nodes l.sets

-- ---- a call of the loads changes no nodes, and no homes

pub record Stays (cfg : Config) (t u : Tally) : Type 0 where
  pub nodes : u.nodes ≡ t.nodes
  pub open_nodes : u.open_nodes ≡ t.open_nodes
  pub homes : AreAtNodes cfg.nodes t.standings → AreAtNodes cfg.nodes u.standings

-- where one stays at home, whatever its shares are
put-stays : (cfg : Config) (t : Tally) (c : ℕ) (s v : Standing) → map.get t.standings c ≡ Some s → v.home ≡ s.home → Stays cfg t (record t { standings = map.insert t.standings c v })
put-stays cfg t c s v e same = record {
  nodes = refl;
  open_nodes = refl;
  homes = λ h. at-nodes-put cfg.nodes t.standings c (Some v) h (subst (IsNode cfg.nodes) (sym same) (subst (λ (o : Option Standing). IfSome o (λ s. IsNode cfg.nodes s.home)) e (h c)));
}

shared-stays : (cfg : Config) (t : Tally) (c n size : ℕ) → Stays cfg t (shared t c n size)
shared-stays cfg t c n size = go (map.get t.standings c) refl where
  go : (o : Option Standing) → map.get t.standings c ≡ o → Stays cfg t (sharing t c n size o)
  go None e = record { nodes = refl; open_nodes = refl; homes = λ h. h }
  go (Some s) e = cond_both (nat_eq n s.home) t _ (Stays cfg t) (λ same. record { nodes = refl; open_nodes = refl; homes = λ h. h }) (λ other. put-stays cfg t c s _ e refl)

ended-stays : (cfg : Config) (t : Tally) (c : ℕ) → Stays cfg t (batch_ended t c)
ended-stays cfg t c = go (map.get t.standings c) refl where
  go : (o : Option Standing) → map.get t.standings c ≡ o → Stays cfg t (batch_ended_with t c o)
  go None e = record { nodes = refl; open_nodes = refl; homes = λ h. h }
  go (Some s) e = put-stays cfg t c s _ e refl

-- ---- choices

module _ (cfg : Config) (some : 1 ≤ cfg.nodes) (l : Ledger) (has : HasNodes cfg l) where
  pub first-within : (path : List ℕ) (n : ℕ) (add remove : Option ℕ)
      → ◌≡◌ {A = FirstChoice} (record { node = n; add = add; remove = remove }) (first_choice l.loads (server_set l path).members l.now (server_set l path).modified cfg)
      → IsChosen cfg.nodes (record { node = n; add = add; remove = remove })
  first-within path n add remove is = subst (IsChosen cfg.nodes) (sym is)
      (choice-within l.loads (server_set l path).members l.now (server_set l path).modified cfg cfg.nodes has.nodes has.open_nodes has.some_open)

  pub record IsLater (choice : LaterChoice) : Type 0 where
    pub node : IsNode cfg.nodes choice.node
    pub add : IfSome choice.add (IsNode cfg.nodes)

  pub later-within : (c : ℕ) (path : List ℕ) (n : ℕ) (add : Option ℕ) (queue h : ℕ) → home l.loads c ≡ Some h
      → ◌≡◌ {A = LaterChoice} (record { node = n; add = add }) (later_choice l.loads h (server_set l path).members queue cfg) → IsLater (record { node = n; add = add })
  later-within c path n add queue h at is =
      let node : IsNode cfg.nodes h = home-node cfg.nodes l.loads.standings c h has.homes at in
      subst IsLater (sym is) (record {
        node = later-has (IsNode cfg.nodes) l.loads h (server_set l path).members queue cfg node (λ m k some e less. (some, has.served path m e));
        add = add-home l.loads h (server_set l path).members queue cfg.nodes cfg node;
      })

  -- ---- a record

  with-stays : (u : Tally) → Stays cfg l.loads u → HasNodes cfg (record l { loads = u })
  with-stays u s = record {
    nodes = s.nodes ∙ has.nodes;
    open_nodes = subst (AllByRecursion (IsNode cfg.nodes)) (sym s.open_nodes) has.open_nodes;
    some_open = subst (λ (ns : List ℕ). 0 < length ns) (sym s.open_nodes) has.some_open;
    homes = s.homes has.homes;
    served = has.served;
  }

  pub one-has : (r : Rec) → May cfg l r → HasNodes cfg (ledger_step l r)
  one-has (rec.Released c) may =
      record { nodes = has.nodes; open_nodes = has.open_nodes; some_open = has.some_open; homes = at-nodes-put cfg.nodes l.loads.standings c None has.homes tt; served = has.served }
  one-has (rec.AssignedFirst c r path n add remove) may =
      let chosen : IsChosen cfg.nodes (record { node = n; add = add; remove = remove }) = first-within path n add remove may.1.1 in record {
        nodes = has.nodes;
        open_nodes = has.open_nodes;
        some_open = has.some_open;
        homes = at-nodes-put cfg.nodes l.loads.standings c (Some (record { home = n; shares = [] })) has.homes chosen.node;
        served = served-reduced cfg.nodes (joined (touched l.sets path) path add l.now) path remove l.now
            (served-joined cfg.nodes (touched l.sets path) path add l.now (served-touched cfg.nodes l.sets path has.served) chosen.add) chosen.remove;
      }
  one-has (rec.AssignedLater c r path n add size queue) may =
      let later : IsLater (record { node = n; add = add }) = later-within c path n add queue may.1.0 may.1.1 may.1.2 in
      let s : HasNodes cfg (record l { loads = shared l.loads c n size }) = with-stays (shared l.loads c n size) (shared-stays cfg l.loads c n size) in record {
        nodes = s.nodes;
        open_nodes = s.open_nodes;
        some_open = s.some_open;
        homes = s.homes;
        served = served-joined cfg.nodes (touched l.sets path) path add l.now (served-touched cfg.nodes l.sets path has.served) later.add;
      }
  one-has (rec.BatchOver c) may = with-stays (batch_ended l.loads c) (ended-stays cfg l.loads c)
  one-has (rec.Closed n) may = record {
    nodes = has.nodes;
    open_nodes = all-filter (IsNode cfg.nodes) (λ m. not (nat_eq m n)) l.loads.open_nodes has.open_nodes;
    some_open = other-stays n l.loads.open_nodes may.1.1;
    homes = has.homes;
    served = served-closed cfg.nodes l.sets n (open-there cfg.nodes n l.loads.open_nodes has.open_nodes may.1.0) has.served;
  }
  one-has (rec.Clock time) may = record { nodes = has.nodes; open_nodes = has.open_nodes; some_open = has.some_open; homes = has.homes; served = has.served }
  one-has (rec.Admitted c) may = record { nodes = has.nodes; open_nodes = has.open_nodes; some_open = has.some_open; homes = has.homes; served = has.served }
  one-has _ may = has

pub blank-has : (cfg : Config) → config_check cfg ≡ Ok tt → HasNodes cfg (blank_ledger cfg)
blank-has cfg checked =
    let sound : IsDispatcherSound (dispatch_begun cfg) = begun-sound cfg checked (some-node cfg checked) in record { nodes = refl; open_nodes = sound.open_nodes; some_open = sound.some_open; homes = sound.at_nodes; served = sound.served }

-- ---- a journal

pub all-has : (cfg : Config) → 1 ≤ cfg.nodes → (l : Ledger) (rs : List Rec) → HasNodes cfg l → EachFrom (May cfg) l rs → HasNodes cfg (fold ledger_step l rs)
all-has cfg some l [] has may = has
all-has cfg some l (r ∷ rs) has may = all-has cfg some (ledger_step l r) rs (one-has cfg some l has r may.0) may.1

-- ---- which nodes are open

pub equal-turned : (a b : ℕ) → nat_eq a b ≡ nat_eq b a
equal-turned a b =
    by_number (nat_eq a b ≡ nat_eq b a) a b (λ e. ap (λ (n : ℕ). nat_eq n b) e ∙ same_number b ∙ sym (ap (nat_eq b) e ∙ same_number b)) (λ n. other_number a b n ∙ sym (other_number b a (λ e. n (sym e))))

-- the nodes that are open behind a record are those that it does not close
one-open : (cfg : Config) (ns : List ℕ) (l : Ledger) (was : ℕ → Bool) (r : Rec) → l.loads.open_nodes ≡ filter (λ m. not (was m)) ns
    → (ledger_step l r).loads.open_nodes ≡ filter (λ m. not (node_closed_step m (was m) r)) ns
one-open cfg ns l was (rec.Closed n) h = ap (filter (λ m. not (nat_eq m n))) h
    ∙ sym (filter-both (λ m. not (node_closed_step m (was m) (rec.Closed n))) (λ m. not (nat_eq m n)) (λ m. not (was m)) ns
    (λ m within. ap (λ b. not (cond b true (was m))) (equal-turned n m) ∙ by (was m) (nat_eq m n)))
  where
    by : (w b : Bool) → not (cond b true w) ≡ (not b && not w)
    by true true = refl
    by true false = refl
    by false true = refl
    by false false = refl
one-open cfg ns l was (rec.AssignedLater c r path n add size queue) h = (shared-stays cfg l.loads c n size).open_nodes ∙ h
one-open cfg ns l was (rec.BatchOver c) h = (ended-stays cfg l.loads c).open_nodes ∙ h
one-open cfg ns l was (rec.AssignedFirst c r path n add remove) h = h
one-open cfg ns l was (rec.Released c) h = h
one-open cfg ns l was (rec.Admitted c) h = h
one-open cfg ns l was (rec.Clock time) h = h
one-open cfg ns l was _ h = h

all-open : (cfg : Config) (ns : List ℕ) (l : Ledger) (was : ℕ → Bool) (rs : List Rec) → l.loads.open_nodes ≡ filter (λ m. not (was m)) ns
    → (fold ledger_step l rs).loads.open_nodes ≡ filter (λ m. not (fold (node_closed_step m) (was m) rs)) ns
all-open cfg ns l was [] h = h
all-open cfg ns l was (r ∷ rs) h = all-open cfg ns (ledger_step l r) (λ m. node_closed_step m (was m) r) rs (one-open cfg ns l was r h)

pub told-open : (cfg : Config) (J : List Rec) → (ledger cfg J).loads.open_nodes ≡ filter (λ n. not (is_node_closed J n)) (numbers cfg.nodes)
told-open cfg J = all-open cfg (numbers cfg.nodes) (blank_ledger cfg) (λ m. false) J (sym (filter-all (λ m. true) (numbers cfg.nodes) (λ n h. refl)))

-- a node that is not out
abbrev SomeIn : ℕ → (ℕ → Bool) → Type 0
SomeIn nodes out = (n : ℕ) × (1 ≤ n) × (n ≤ nodes) × (out n ≡ false)

-- some node of those that are open
pub some-stays : (nodes : ℕ) (out : ℕ → Bool) (ns : List ℕ) → AllByRecursion (IsNode nodes) ns → 0 < length (filter (λ n. not (out n)) ns) → SomeIn nodes out
some-stays nodes out [] all h = absurd (omega (arith, h))
some-stays nodes out (m ∷ ms) all h = go (out m) refl h (some-stays nodes out ms all.1) where
  go : (b : Bool) → out m ≡ b → 0 < length (cond (not b) (m ∷ filter (λ n. not (out n)) ms) (filter (λ n. not (out n)) ms))
      → (0 < length (filter (λ n. not (out n)) ms) → SomeIn nodes out) → SomeIn nodes out
  go true e t more = more t
  go false e t more = (m, all.0.0, all.0.1, e)
