-- The node of a choice is one that there is.
use Rattle.std.proofs.Common.{◌≡◌, ℕ, zero, suc, ◌+◌, ◌-◌, ◌<◌, ◌≤◌, Bool, List, [], ◌∷◌, length, filter, Option, Some, None, IfSome, unwrap_or, subst, arith}
use Rattle.std.proofs.lemmas.Bool.{cond_both}
use Rattle.std.specs.List.{AllByRecursion, range_with_len}
use Rattle.lard_base.specs.declared.config.Config.{Config}
use Rattle.lard_base.specs.declared.ids.Millis.{Millis}
use Rattle.lard_base.specs.Members.{has}
use Rattle.lard_loads.specs.Order.{earlier, first_in, is_before, least_in}
use Rattle.lard_loads.specs.Tally.{Tally, load, least, least_of, most_of, numbers}
use Rattle.lard_sets.specs.Sets.{with_member}
use Rattle.lard_policy.specs.declared.first.FirstChoice.{FirstChoice}
use Rattle.lard_policy.specs.First.{chosen, first_choice, is_overloaded, least_node, may_shrink, relieved}
use Rattle.lard_dispatch.specs.Sound.{IsNode}

-- what holds of each holds of the first in any order
first-among : (P : ℕ → Type 0) (before : ℕ → ℕ → Bool) (ns : List ℕ) → AllByRecursion P ns → IfSome (first_in before ns) P
first-among P before [] all = tt
first-among P before (n ∷ ns) all = go (first_in before ns) (first-among P before ns all.1) where
  go : (o : Option ℕ) → IfSome o P → P (earlier before n o)
  go None p = all.0
  go (Some m) p = cond_both (before m n) m n P (λ _. p) (λ _. all.0)

pub all-filter : (P : ℕ → Type 0) (test : ℕ → Bool) (ns : List ℕ) → AllByRecursion P ns → AllByRecursion P (filter test ns)
all-filter P test [] all = tt
all-filter P test (n ∷ ns) all = cond_both (test n) (n ∷ filter test ns) (filter test ns) (AllByRecursion P) (λ _. (all.0, all-filter P test ns all.1)) (λ _. all-filter P test ns all.1)

all-in-row : (most a k : ℕ) → 1 ≤ a → a + k ≤ most + 1 → AllByRecursion (IsNode most) (range_with_len a k)
all-in-row most a zero some few = tt
all-in-row most a (suc k) some few = ((some, omega (arith, few)), all-in-row most (a + 1) k (omega (arith, some)) (omega (arith, few)))

pub all-numbers : (nodes : ℕ) → AllByRecursion (IsNode nodes) (numbers nodes)
all-numbers nodes = all-in-row nodes 1 nodes (omega arith) (omega arith)

-- some node is the least loaded
least-node : (t : Tally) (nodes : ℕ) → AllByRecursion (IsNode nodes) t.open_nodes → 0 < length t.open_nodes → IsNode nodes (least_node t)
least-node t nodes all some = go t.open_nodes all some where
  go : (ns : List ℕ) → AllByRecursion (IsNode nodes) ns → 0 < length ns → IsNode nodes (unwrap_or (least_in (load t) ns) 0)
  go [] a s = absurd (omega (arith, s))
  go (n ∷ ns) a s = first-among (IsNode nodes) (is_before (load t)) (n ∷ ns) a

-- The choice is a node that there is, and no other joins the set.
pub record IsChosen (nodes : ℕ) (choice : FirstChoice) : Type 0 where
  pub node : IsNode nodes choice.node
  pub add : IfSome choice.add (IsNode nodes)
  pub remove : IfSome choice.remove (IsNode nodes)

chosen-within : (t : Tally) (cfg : Config) (set unchanged nodes : ℕ) (o : Option ℕ) → IfSome o (IsNode nodes) → IsNode nodes (least_node t) → IfSome (most_of t set) (IsNode nodes)
    → IsChosen nodes (chosen t cfg set unchanged o)
chosen-within t cfg set unchanged nodes None some least most = record { node = least; add = least; remove = tt }
chosen-within t cfg set unchanged nodes (Some n) some least most =
    let p : IsNode nodes (relieved t cfg n) = cond_both (is_overloaded t cfg n) (least_node t) n (IsNode nodes) (λ _. least) (λ _. some) in
    record {
      node = p;
      add = cond_both (has set (relieved t cfg n)) None (Some (relieved t cfg n)) (λ (o : Option ℕ). IfSome o (IsNode nodes)) (λ _. tt) (λ _. p);
      remove = cond_both (may_shrink (with_member set (relieved t cfg n)) unchanged cfg.age) (most_of t set) None (λ (o : Option ℕ). IfSome o (IsNode nodes)) (λ _. most) (λ _. tt);
    }

pub choice-within : (t : Tally) (set : ℕ) (now last_mod : Millis) (cfg : Config) (nodes : ℕ) → t.nodes ≡ nodes → AllByRecursion (IsNode nodes) t.open_nodes → 0 < length t.open_nodes
    → IsChosen nodes (first_choice t set now last_mod cfg)
unfolding first_choice
choice-within t set now last_mod cfg nodes count all some =
    let members : AllByRecursion (IsNode nodes) (filter (has set) (numbers t.nodes)) =
    all-filter (IsNode nodes) (has set) (numbers t.nodes) (subst (λ (k : ℕ). AllByRecursion (IsNode k) (numbers t.nodes)) count (all-numbers t.nodes)) in
    chosen-within t cfg set (now.0 - last_mod.0) nodes (least_of t set) (first-among (IsNode nodes) (is_before (load t)) (filter (has set) (numbers t.nodes)) members)
    (least-node t nodes all some) (first-among (IsNode nodes) (λ n m. is_before (load t) m n) (filter (has set) (numbers t.nodes)) members)
