-- Who serves a target, and since when, once a choice has changed its set.
use Rattle.std.proofs.Common.{◌≡◌, ℕ, zero, suc, ◌≤◌, Bool, true, false, not, ◌||◌, nat_eq, cond, List, Option, Some, None, IfSome, is_some, unwrap_or, option_map, refl, sym, ap, subst, ◌∙◌, arith}
use Rattle.std.proofs.lemmas.Bool.{cond_both, and_parts, eqb-true}
use Rattle.std.proofs.lemmas.Slice.Eq.{bytes_eq-Decides}
use Rattle.std.specs.Str.{bytes_eq}
use Rattle.lard_base.specs.declared.ids.Millis.{Millis}
use Rattle.lard_base.specs.Members.{has}
use Rattle.lard_sets.specs.declared.sets.ServerSet.{ServerSet}
use Rattle.lard_sets.specs.Sets.{sets_closed, has_place, no_servers, place, put, set_of, touched, with_member, without_member}
use Rattle.lard_sets.proofs.Changes.{place-closed, place-put}
use Rattle.lard_sets.proofs.Flags.{has-with_member, has-without_member}
use Rattle.lard_dispatch.specs.Calls.{joined, reduced}
use Rattle.lard_dispatch.specs.Sound.{AreBefore, AreServedByNodes, IsNode}

abbrev pub Sets : Type 0
Sets = List (List ℕ × ServerSet)

-- a set that is put is that of its target, and every other target has what it had
pub set_of-put : (sets : Sets) (u t : List ℕ) (s : ServerSet) → set_of (put sets u s) t ≡ cond (bytes_eq t u) s (set_of sets t)
set_of-put sets u t s = ap (λ (o : Option ServerSet). unwrap_or o no_servers) (place-put sets u t s) ∙ go (bytes_eq t u) where
  go : (b : Bool) → unwrap_or (cond b (Some s) (place sets t)) no_servers ≡ cond b s (set_of sets t)
  go true = refl
  go false = refl

pub set_of-touched : (sets : Sets) (u t : List ℕ) → set_of (touched sets u) t ≡ set_of sets t
set_of-touched sets u t = set_of-put sets u t (set_of sets u) ∙ go (bytes_eq t u) refl where
  go : (b : Bool) → bytes_eq t u ≡ b → cond b (set_of sets u) (set_of sets t) ≡ set_of sets t
  go true e = ap (set_of sets) (sym ((bytes_eq-Decides t u).0 e))
  go false e = refl

pub place-touched : (sets : Sets) (u t : List ℕ) → has_place (touched sets u) t ≡ (bytes_eq t u || has_place sets t)
place-touched sets u t = ap is_some (place-put sets u t (set_of sets u)) ∙ go (bytes_eq t u) where
  go : (b : Bool) → is_some (cond b (Some (set_of sets u)) (place sets t)) ≡ (b || has_place sets t)
  go true = refl
  go false = refl

-- all members are nodes that there are
abbrev AreMembers : ℕ → ServerSet → Type 0
AreMembers nodes s = (k : ℕ) → has s.members k ≡ true → k ≤ nodes

with-node : (nodes m n : ℕ) → IsNode nodes n → ((k : ℕ) → has m k ≡ true → k ≤ nodes) → (k : ℕ) → has (with_member m n) k ≡ true → k ≤ nodes
with-node nodes m n node all zero h = omega arith
with-node nodes m n node all (suc k) h = go (nat_eq (suc k) n) refl (sym (has-with_member m n (suc k) node.0 (omega arith)) ∙ h) where
  go : (b : Bool) → nat_eq (suc k) n ≡ b → (b || has m (suc k)) ≡ true → suc k ≤ nodes
  go true e t = let same : suc k ≡ n = eqb-true (suc k) n e in omega (arith, same, node.1)
  go false e t = all (suc k) t

without-node : (nodes m n : ℕ) → IsNode nodes n → ((k : ℕ) → has m k ≡ true → k ≤ nodes) → (k : ℕ) → has (without_member m n) k ≡ true → k ≤ nodes
without-node nodes m n node all zero h = omega arith
without-node nodes m n node all (suc k) h = all (suc k) (and_parts (not (nat_eq (suc k) n)) (has m (suc k)) (sym (has-without_member m n (suc k) node.0 (omega arith)) ∙ h)).1

-- a set that is put has nodes alone
served-put : (nodes : ℕ) (sets : Sets) (target : List ℕ) (s : ServerSet) → AreServedByNodes nodes sets → AreMembers nodes s → AreServedByNodes nodes (put sets target s)
served-put nodes sets target s all own = λ other k h.
    subst (λ (x : ServerSet). has x.members k ≡ true → k ≤ nodes) (sym (set_of-put sets target other s))
    (cond_both (bytes_eq other target) s (set_of sets other) (λ (x : ServerSet). has x.members k ≡ true → k ≤ nodes) (λ _. own k) (λ _. all other k)) h

pub served-touched : (nodes : ℕ) (sets : Sets) (target : List ℕ) → AreServedByNodes nodes sets → AreServedByNodes nodes (touched sets target)
served-touched nodes sets target all = served-put nodes sets target (set_of sets target) all (all target)

pub served-joined : (nodes : ℕ) (sets : Sets) (target : List ℕ) (o : Option ℕ) (now : Millis) → AreServedByNodes nodes sets → IfSome o (IsNode nodes) → AreServedByNodes nodes (joined sets target o now)
served-joined nodes sets target None now all node = all
served-joined nodes sets target (Some n) now all node = served-put nodes sets target _ all (with-node nodes (set_of sets target).members n node (all target))

pub served-reduced : (nodes : ℕ) (sets : Sets) (target : List ℕ) (o : Option ℕ) (now : Millis) → AreServedByNodes nodes sets → IfSome o (IsNode nodes) → AreServedByNodes nodes (reduced sets target o now)
served-reduced nodes sets target None now all node = all
served-reduced nodes sets target (Some n) now all node =
    cond_both (has_place sets target) _ sets (AreServedByNodes nodes) (λ _. served-put nodes sets target _ all (without-node nodes (set_of sets target).members n node (all target))) (λ _. all)

pub served-closed : (nodes : ℕ) (sets : Sets) (n : ℕ) → IsNode nodes n → AreServedByNodes nodes sets → AreServedByNodes nodes (sets_closed sets n)
served-closed nodes sets n node all = λ other k h.
    go k (place sets other) (λ j. all other j) (subst (λ (o : Option ServerSet). has (unwrap_or o no_servers).members k ≡ true) (place-closed sets n other) h) where
      go : (k : ℕ) (o : Option ServerSet) → AreMembers nodes (unwrap_or o no_servers) → has (unwrap_or (option_map (λ (s : ServerSet). record s { members = without_member s.members n }) o) no_servers).members k ≡ true → k ≤ nodes
      go k None own t = own k t
      go k (Some s) own t = without-node nodes s.members n node own k t

-- ---- since when

before-put : (now : Millis) (sets : Sets) (target : List ℕ) (s : ServerSet) → AreBefore now.0 sets → s.modified.0 ≤ now.0 → AreBefore now.0 (put sets target s)
before-put now sets target s all own = λ other.
    subst (λ (x : ServerSet). x.modified.0 ≤ now.0) (sym (set_of-put sets target other s))
    (cond_both (bytes_eq other target) s (set_of sets other) (λ (x : ServerSet). x.modified.0 ≤ now.0) (λ _. own) (λ _. all other))

pub before-touched : (now : Millis) (sets : Sets) (target : List ℕ) → AreBefore now.0 sets → AreBefore now.0 (touched sets target)
before-touched now sets target all = before-put now sets target (set_of sets target) all (all target)

pub before-joined : (now : Millis) (sets : Sets) (target : List ℕ) (o : Option ℕ) → AreBefore now.0 sets → AreBefore now.0 (joined sets target o now)
before-joined now sets target None all = all
before-joined now sets target (Some n) all = before-put now sets target _ all (omega arith)

pub before-reduced : (now : Millis) (sets : Sets) (target : List ℕ) (o : Option ℕ) → AreBefore now.0 sets → AreBefore now.0 (reduced sets target o now)
before-reduced now sets target None all = all
before-reduced now sets target (Some n) all = cond_both (has_place sets target) _ sets (AreBefore now.0) (λ _. before-put now sets target _ all (omega arith)) (λ _. all)

pub before-closed : (now : Millis) (sets : Sets) (n : ℕ) → AreBefore now.0 sets → AreBefore now.0 (sets_closed sets n)
before-closed now sets n all = λ other. subst (λ (o : Option ServerSet). (unwrap_or o no_servers).modified.0 ≤ now.0) (sym (place-closed sets n other)) (go (place sets other) (all other)) where
  go : (o : Option ServerSet) → (unwrap_or o no_servers).modified.0 ≤ now.0
      → (unwrap_or (option_map (λ (s : ServerSet). record s { members = without_member s.members n }) o) no_servers).modified.0 ≤ now.0
  go None own = own
  go (Some s) own = own
