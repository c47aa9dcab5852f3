-- Choices on the loads that run are choices on the loads of the tally.
use Rattle.std.proofs.Common.{◌≡◌, ℕ, ◌<◌, ◌≤◌, Bool, true, false, not, ◌&&◌, ◌||◌, nat_lt, nat_eq, List, length, IfSome, Option, Some, None, sym, ap, ◌∙◌, arith}
use Rattle.std.specs.List.{filter, list_any}
use Rattle.lard_base.specs.Members.{has}
use Rattle.lard_loads.specs.declared.slot.Slot.{Slot}
use Rattle.lard_loads.specs.Loads.{IsTallied}
use Rattle.lard_loads.specs.Order.{first_in, is_before, least_in, most_in}
use Rattle.lard_loads.specs.Running.{at_node}
use Rattle.lard_loads.specs.Slot.{standings_from}
use Rattle.lard_loads.specs.Tally.{load_of, numbers}
use Rattle.lard_loads.proofs.Firsts.{IsIn, any-filter, filter-both, first-agree, first_passes, from_filter, from_range, in_range, none-filter}

-- orders by loads that agree at two nodes
same_order : (f g : ℕ → ℕ) (n m : ℕ) → f n ≡ g n → f m ≡ g m → is_before f n m ≡ is_before g n m
same_order f g n m e h = ap (λ x. nat_lt x (f m) || (nat_eq x (f m) && nat_lt n m)) e ∙ ap (λ y. nat_lt (g n) y || (nat_eq (g n) y && nat_lt n m)) h

module _ {loads : List ℕ} {flags : ℕ} {slots : List Slot} {admitted : ℕ} (is : IsTallied loads flags slots admitted) (test : ℕ → Bool) where
  abbrev members : List ℕ
  members = filter test (numbers (length loads))

  abbrev from_scratch : ℕ → ℕ
  from_scratch n = load_of (standings_from 1 slots) n

  running : (n : ℕ) → IsIn n members → at_node loads n ≡ from_scratch n
  running n h =
      let range = from_range 1 (length loads) n (from_filter test n (numbers (length loads)) h).1 in
      is.running n range.0 (let k = range.1 in omega (arith, k))

  pub least_running : least_in (at_node loads) members ≡ least_in from_scratch members
  least_running = first-agree (is_before (at_node loads)) (is_before from_scratch) members (λ n m h k. same_order (at_node loads) from_scratch n m (running n h) (running m k))

  pub most_running : most_in (at_node loads) members ≡ most_in from_scratch members
  most_running = first-agree (λ n m. is_before (at_node loads) m n) (λ n m. is_before from_scratch m n) members (λ n m h k. same_order (at_node loads) from_scratch m n (running m k) (running n h))

-- one that is chosen is one of the nodes, and passes the test
pub chosen_within : (before : ℕ → ℕ → Bool) (test : ℕ → Bool) (nodes all : ℕ) (o : Option ℕ) → nodes ≡ all → o ≡ first_in before (filter test (numbers nodes)) → IfSome o (λ n. n ≤ all)
chosen_within before test nodes all None same e = tt
chosen_within before test nodes all (Some n) same e = let h = (first_passes before test nodes n (sym e)).1 in omega (arith, h, same)

pub chosen_passes : (before : ℕ → ℕ → Bool) (test : ℕ → Bool) (nodes : ℕ) (o : Option ℕ) → o ≡ first_in before (filter test (numbers nodes)) → IfSome o (λ n. test n ≡ true)
chosen_passes before test nodes None e = tt
chosen_passes before test nodes (Some n) e = (first_passes before test nodes n (sym e)).2

-- ---- the open nodes

-- one flag less, and one open node less
pub open-without : (flags new n nodes : ℕ) → ((k : ℕ) → 1 ≤ k → has new k ≡ (not (nat_eq k n) && has flags k)) → filter (has new) (numbers nodes) ≡ filter (λ m. not (nat_eq m n)) (filter (has flags) (numbers nodes))
open-without flags new n nodes cleared = filter-both (has new) (λ m. not (nat_eq m n)) (has flags) (numbers nodes) (λ k h. cleared k (from_range 1 nodes k h).0)

-- a node is open where it is one of these and flagged
pub open-is : (flags n nodes : ℕ) → 1 ≤ n → n ≤ nodes → has flags n ≡ list_any (nat_eq n) (filter (has flags) (numbers nodes))
open-is flags n nodes some most = sym (any-filter (has flags) n (numbers nodes) (in_range 1 nodes n some (omega (arith, most))))

pub none-open : (flags n nodes : ℕ) → nodes < n → false ≡ list_any (nat_eq n) (filter (has flags) (numbers nodes))
none-open flags n nodes more = sym (none-filter (has flags) n (numbers nodes) (λ h. let k = (from_range 1 nodes n h).1 in omega (arith, k, more)))
