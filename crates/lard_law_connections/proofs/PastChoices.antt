-- A first assignment is to a node that was not closed: all that serve a path are open, and so is the least loaded node.
use Rattle.std.proofs.Common.{◌≡◌, ℕ, ◌≤◌, not, nat_eq, Bool, true, false, cond, List, [], ◌∷◌, ◌++◌, Option, Some, None, IfSome, Ok, refl, sym, ap, ◌∙◌, subst, arith, append_assoc}
use Rattle.std.proofs.lemmas.Bool.Decides.{nat_tests}
use Rattle.std.proofs.lemmas.List.Sums.{fold-append}
use Rattle.std.specs.List.{list_any}
use Rattle.std.specs.Str.{bytes_eq}
use Rattle.lard_law_view.specs.Prelude.{Config, EachMay, FirstChoice, IsNode, IsReached, LaterChoice, Machine, Rec, config_check, first_choice, has, home, is_node_closed, is_open, later_choice, node_closed_step, numbers}
use Rattle.lard_counts.specs.Ledger.{Ledger, ledger, server_set}
use Rattle.lard_dispatch.proofs.Soundness.{home-node}
use Rattle.lard_law_connections.specs.PastLaws.{AssignsOpen, FirstsAreOpen}
use Rattle.lard_law_connections.proofs.PolicyCounted.{assigns-as-stated, past-has, servers-are-told}
use Rattle.lard_law_connections.proofs.PolicyStanding.{HasNodes, equal-turned, told-open}
use Rattle.lard_law_connections.specs.PolicyLaws.{MayAssign}
use Rattle.lard_law_connections.specs.PolicyServers.{serves, serves_step, taken_in, taken_out}
use Rattle.lard_loads.proofs.Firsts.{IsIn, any-filter, from_filter, in_range}
use Rattle.lard_journal.specs.declared.rec.Rec.TheVariants as rec
use Rattle.lard_rules.proofs.FrontOpen.{Chooses, first-is, later-is}

-- ---- a journal

-- no node that serves a path is closed
abbrev ServeOpen : List Rec → Type 0
ServeOpen past = (path : List ℕ) (k : ℕ) → 1 ≤ k → serves past path k ≡ true → is_node_closed past k ≡ false

abbrev IsOpen : List Rec → ℕ → Type 0
IsOpen past n = is_node_closed past n ≡ false

-- who is taken in is open
taken-open : (past : List Rec) (k : ℕ) (add : Option ℕ) (was : Bool) → IfSome add (IsOpen past) → (was ≡ true → IsOpen past k)
    → taken_in k add was ≡ true → IsOpen past k
taken-open past k None was new old h = old h
taken-open past k (Some n) was new old h = go (nat_eq k n) refl h where
  go : (b : Bool) → nat_eq k n ≡ b → cond b true was ≡ true → IsOpen past k
  go true e k_is = let same : k ≡ n = grind (arith, nat_tests, e) in subst (IsOpen past) (sym same) new
  go false e k_is = old k_is

left-true : (k : ℕ) (remove : Option ℕ) (was : Bool) → taken_out k remove was ≡ true → was ≡ true
left-true k None was h = h
left-true k (Some n) was h = go (nat_eq k n) h where
  go : (b : Bool) → cond b false was ≡ true → was ≡ true
  go true e = let no : false ≡ true = e in absurd cc
  go false e = e

not-true : (b : Bool) → not b ≡ true → b ≡ false
not-true true h = let no : false ≡ true = h in absurd cc
not-true false h = refl

true-not : (b : Bool) → b ≡ true → (c : Bool) → b ≡ not c → c ≡ false
true-not b t c e = not-true c (sym e ∙ t)

module _ (config : Config) (files : List (List ℕ × List ℕ)) (m : Machine) (checked : config_check config ≡ Ok tt) (r : IsReached config files m) where
  module _ (past later : List Rec) (is : m.journal ≡ past ++ later) (serve : ServeOpen past) where
    abbrev l : Ledger
    l = ledger config past

    nodes-are : HasNodes config l
    nodes-are = past-has config files m checked r past later is

    open-is : (n : ℕ) → IsIn n l.loads.open_nodes → IsOpen past n
    open-is n within = not-true (is_node_closed past n)
        (from_filter (λ k. not (is_node_closed past k)) n (numbers config.nodes) (subst (IsIn n) (told-open config past) within)).0

    member-open : (path : List ℕ) (n : ℕ) → 1 ≤ n → has (server_set l path).members n ≡ true → IsOpen past n
    member-open path n some h = serve path n some (sym ((servers-are-told config files m checked r past later is).0 path n some) ∙ h)

    first-open : (path : List ℕ) → Chooses (IsOpen past) l.loads (first_choice l.loads (server_set l path).members l.now (server_set l path).modified config)
    first-open path =
        first-is (IsOpen past) l.loads config (server_set l path).members l.now (server_set l path).modified nodes-are.some_open open-is (member-open path)

    later-open : (c : ℕ) (path : List ℕ) (queue h : ℕ) → home l.loads c ≡ Some h
        → IfSome (later_choice l.loads h (server_set l path).members queue config).add (IsOpen past)
    later-open c path queue h at =
        let node : IsNode config.nodes h = home-node config.nodes l.loads.standings c h nodes-are.homes at in
        let within : IsIn h (numbers config.nodes) = in_range 1 config.nodes h node.0 (let most = node.1 in omega (arith, most)) in
        let told : is_open l.loads h ≡ not (is_node_closed past h) = ap (list_any (nat_eq h)) (told-open config past)
        ∙ any-filter (λ n. not (is_node_closed past n)) h (numbers config.nodes) within in
        later-is (IsOpen past) l.loads h (server_set l path).members queue config (λ open_. true-not (is_open l.loads h) open_ (is_node_closed past h) told)

    -- a record that may stand
    assigns-open : (x : Rec) → MayAssign config l x → AssignsOpen past x
    assigns-open (rec.AssignedFirst c i path n add remove) may = subst (IsOpen past) (sym (ap (λ (choice : FirstChoice). choice.node) may.1)) (first-open path).0
    assigns-open _ may = tt

    -- behind it who serves is still open
    one-serves : (x : Rec) → MayAssign config l x → (path : List ℕ) (k : ℕ) → 1 ≤ k → serves_step path k (serves past path k) x ≡ true
        → node_closed_step k (is_node_closed past k) x ≡ false
    one-serves (rec.AssignedFirst c i other n add remove) may path k some h = go (bytes_eq path other) h where
      new : IfSome add (IsOpen past)
      new = subst (λ (choice : FirstChoice). IfSome choice.add (IsOpen past)) (sym may.1) (first-open other).1

      go : (b : Bool) → cond b (taken_out k remove (taken_in k add (serves past path k))) (serves past path k) ≡ true → IsOpen past k
      go true e = taken-open past k add (serves past path k) new (serve path k some) (left-true k remove (taken_in k add (serves past path k)) e)
      go false e = serve path k some e
    one-serves (rec.AssignedLater c i other n add size queue) may path k some h = go (bytes_eq path other) h where
      new : IfSome add (IsOpen past)
      new = subst (λ (choice : LaterChoice). IfSome choice.add (IsOpen past)) (sym may.2) (later-open c other queue may.0 may.1)

      go : (b : Bool) → cond b (taken_in k add (serves past path k)) (serves past path k) ≡ true → IsOpen past k
      go true e = taken-open past k add (serves past path k) new (serve path k some) e
      go false e = serve path k some e
    one-serves (rec.Closed n) may path k some h = ap (λ (b : Bool). cond b true (is_node_closed past k)) (equal-turned n k) ∙ go (nat_eq k n) h where
      go : (b : Bool) → cond b false (serves past path k) ≡ true → cond b true (is_node_closed past k) ≡ false
      go true e = let no : false ≡ true = e in absurd cc
      go false e = serve path k some e
    one-serves _ may path k some h = serve path k some h

  one-more : (past : List Rec) (x : Rec) (later : List Rec) → m.journal ≡ past ++ later → ServeOpen past
      → MayAssign config (ledger config past) x → ServeOpen (past ++ x ∷ [])
  one-more past x later is serve may path k some h = fold-append (node_closed_step k) false past (x ∷ [])
      ∙ one-serves past later is serve x may path k some (sym (fold-append (serves_step path k) false past (x ∷ [])) ∙ h)

  all-open : (past rest : List Rec) → m.journal ≡ past ++ rest → EachMay (λ past x. MayAssign config (ledger config past) x) past rest
      → ServeOpen past → EachMay AssignsOpen past rest
  all-open past [] is may serve = tt
  all-open past (x ∷ rest) is may serve = (
    assigns-open past (x ∷ rest) is serve x may.0,
    all-open (past ++ x ∷ []) rest (is ∙ sym (append_assoc past (x ∷ []) rest)) may.1 (one-more past x (x ∷ rest) is serve may.0),
  )

pub firsts-are-open : FirstsAreOpen
firsts-are-open config files m checked r = all-open config files m checked r [] m.journal refl (assigns-as-stated config files m checked r) (λ path k some h. refl)
