-- The node of a choice is one that there is.
use Rattle.std.proofs.Common.{◌≡◌, ℕ, zero, suc, ◌+◌, ◌%◌, ◌≤◌, Bool, List, [], ◌∷◌, filter, Option, Some, None, IfSome, unwrap_or, sym, subst, ◌-◌, arith}
use Rattle.std.proofs.lemmas.Bool.{cond_both}
use Rattle.std.specs.List.{AllByRecursion, range_with_len}
use Rattle.lard_base.specs.declared.config.Config.{Config}
use Rattle.lard_base.specs.declared.ids.Millis.{Millis}
use Rattle.lard_base.specs.Members.{has}
use Rattle.lard_loads.specs.Order.{earlier, first_in, is_before}
use Rattle.lard_loads.specs.Tally.{Tally, load, least_of, numbers}
use Rattle.lard_policy.specs.First.{chosen, first_choice, is_overloaded, least_node}
use Rattle.lard_lab.specs.declared.policy.Policy.{Policy}
use Rattle.lard_lab.specs.declared.policy.Policy.TheVariants.{Rr, Hash, Lard, LardR}
use Rattle.lard_lab.specs.declared.targets.Target.{Target}
use Rattle.lard_lab.specs.Desk.{choice_by, served_by}
use Rattle.lard_lab.specs.Policy.{hash_of}

abbrev pub IsNode : ℕ → ℕ → Type 0
IsNode nodes n = (1 ≤ n) × (n ≤ nodes)

-- what holds of each holds of the first in any order
first-among : (P : ℕ → Type 0) (before : ℕ → ℕ → Bool) (ns : List ℕ) → AllByRecursion P ns → IfSome (first_in before ns) P
first-among P before [] all = tt
first-among P before (n ∷ ns) all = go (first_in before ns) (first-among P before ns all.1) where
  go : (o : Option ℕ) → IfSome o P → P (earlier before n o)
  go None p = all.0
  go (Some m) p = cond_both (before m n) m n P (λ _. p) (λ _. all.0)

all-filter : (P : ℕ → Type 0) (test : ℕ → Bool) (ns : List ℕ) → AllByRecursion P ns → AllByRecursion P (filter test ns)
all-filter P test [] all = tt
all-filter P test (n ∷ ns) all = cond_both (test n) (n ∷ filter test ns) (filter test ns) (AllByRecursion P) (λ _. (all.0, all-filter P test ns all.1)) (λ _. all-filter P test ns all.1)

all-in-row : (most a k : ℕ) → 1 ≤ a → a + k ≤ most + 1 → AllByRecursion (IsNode most) (range_with_len a k)
all-in-row most a zero some few = tt
all-in-row most a (suc k) some few = ((some, omega (arith, few)), all-in-row most (a + 1) k (omega (arith, some)) (omega (arith, few)))

all-numbers : (nodes : ℕ) → AllByRecursion (IsNode nodes) (numbers nodes)
all-numbers nodes = all-in-row nodes 1 nodes (omega arith) (omega arith)

-- some node is the least loaded
least-node : (t : Tally) (nodes : ℕ) → 1 ≤ nodes → t.open_nodes ≡ numbers nodes → IsNode nodes (least_node t)
least-node t nodes some all = subst (λ (ns : List ℕ). IsNode nodes (unwrap_or (first_in (is_before (load t)) ns) 0)) (sym all) (go nodes some) where
  go : (k : ℕ) → 1 ≤ k → IsNode k (unwrap_or (first_in (is_before (load t)) (numbers k)) 0)
  go zero h = absurd (omega (arith, h))
  go (suc k) h = first-among (IsNode (suc k)) (is_before (load t)) (numbers (suc k)) (all-numbers (suc k))

in_turn : (number nodes : ℕ) → 1 ≤ nodes → IsNode nodes (1 + number % nodes)
in_turn number nodes some = (omega arith, omega (arith, some))

first-node : (t : Tally) (cfg : Config) (set unchanged nodes : ℕ) (o : Option ℕ) → IfSome o (IsNode nodes) → IsNode nodes (least_node t) → IsNode nodes (chosen t cfg set unchanged o).node
first-node t cfg set unchanged nodes None some least = least
first-node t cfg set unchanged nodes (Some n) some least = cond_both (is_overloaded t cfg n) (least_node t) n (IsNode nodes) (λ _. least) (λ _. some)

server-node : (t : Tally) (cfg : Config) (nodes : ℕ) (o : Option ℕ) → IfSome o (IsNode nodes) → IsNode nodes (least_node t) → IsNode nodes (served_by t cfg o)
server-node t cfg nodes None some least = least
server-node t cfg nodes (Some n) some least = cond_both (is_overloaded t cfg n) (least_node t) n (IsNode nodes) (λ _. least) (λ _. some)

replicated-node : (t : Tally) (cfg : Config) (set : ℕ) (now last_mod : Millis) (nodes : ℕ) → t.nodes ≡ nodes → IsNode nodes (least_node t) → IsNode nodes (first_choice t set now last_mod cfg).node
unfolding first_choice
replicated-node t cfg set now last_mod nodes same least =
    first-node t cfg set (now.0 - last_mod.0) nodes (least_of t set)
    (subst (λ (k : ℕ). IfSome (first_in (is_before (load t)) (filter (has set) (numbers k))) (IsNode nodes)) (sym same)
    (first-among (IsNode nodes) (is_before (load t)) (filter (has set) (numbers nodes)) (all-filter (IsNode nodes) (has set) (numbers nodes) (all-numbers nodes))))
    least

-- a policy's choice is a node that there is, where the target's server is
pub choice-node : (policy : Policy) (cfg : Config) (t : Tally) (now : Millis) (made : ℕ) (path : List ℕ) (target : Target) → 1 ≤ cfg.nodes → t.nodes ≡ cfg.nodes → t.open_nodes ≡ numbers cfg.nodes
    → IfSome target.server (IsNode cfg.nodes) → IsNode cfg.nodes (choice_by policy cfg t now made path target).node
unfolding choice_by
choice-node Rr cfg t now made path target some nodes all server = in_turn made cfg.nodes some
choice-node Hash cfg t now made path target some nodes all server = in_turn (hash_of path) cfg.nodes some
choice-node Lard cfg t now made path target some nodes all server = server-node t cfg cfg.nodes target.server server (least-node t cfg.nodes some all)
choice-node LardR cfg t now made path target some nodes all server =
    replicated-node t cfg target.set.members now target.set.modified cfg.nodes nodes (least-node t cfg.nodes some all)
