-- With free slots alone nothing is admitted, and with no load all is as the slots add up.
use Rattle.std.proofs.Common.{◌≡◌, ℕ, zero, suc, ◌+◌, ◌-◌, ◌≤◌, true, All, IfSome, List, [], length, replicate, None, refl, sym, ap, subst, ◌∙◌, arith}
use Rattle.std.proofs.lemmas.List.{get_or-replicate, length-replicate}
use Rattle.std.proofs.lemmas.List.Elements.{All-nil, All-replicate}
use Rattle.std.proofs.lemmas.List.FromFn.{length-range_with_len}
use Rattle.std.specs.FinMap as map
use Rattle.std.specs.FinMap.{FinMap, get-empty, len-empty}
use Rattle.std.specs.List.{filter}
use Rattle.std.specs.Ordering.{nat_cmp}
use Rattle.lard_base.specs.Members.{has}
use Rattle.lard_table.specs.Table.{put_or}
use Rattle.lard_table.proofs.Map.{put_got}
use Rattle.lard_loads.specs.declared.slot.Slot.{Slot}
use Rattle.lard_loads.specs.Loads.{IsNode, IsShare, IsSlot, IsTallied, tally_of}
use Rattle.lard_loads.specs.Running.{at_node}
use Rattle.lard_loads.specs.Slot.{shares_open_in, standing_of, standings_from}
use Rattle.lard_loads.specs.Tally.{Standing, load_of, numbers, tally_start}
use Rattle.lard_loads.proofs.Firsts.{filter-all, from_range}
use Rattle.lard_loads.proofs.Sums.{load-empty}

none_admitted : (s : Slot) → standing_of s ≡ None → (a n : ℕ) → standings_from a (replicate n s) ≡ map.empty
none_admitted s free a zero = refl
none_admitted s free a (suc n) =
    ap (λ (m : FinMap nat_cmp Standing). put_or m a (standing_of s)) (none_admitted s free (a + 1) n)
    ∙ ap (put_or map.empty a) (free ∙ sym (get-empty nat_cmp a)) ∙ put_got map.empty a

module _ (loads : List ℕ) (flags : ℕ) (slots : List Slot) (nodes many : ℕ) (s : Slot) (unloaded : loads ≡ replicate nodes 0) (some : 1 ≤ nodes) (few : nodes ≤ 64)
    (enough : many ≡ 16384) (all_free : slots ≡ replicate many s) (home : s.home ≡ None) (free : standing_of s ≡ None) (shares : shares_open_in s ≡ [])
    (flagged : (k : ℕ) → 1 ≤ k → k ≤ nodes → has flags k ≡ true) where
  length_is : length loads ≡ nodes
  length_is = ap length unloaded ∙ length-replicate nodes 0

  standings_are : standings_from 1 slots ≡ map.empty
  standings_are = ap (standings_from 1) all_free ∙ none_admitted s free 1 many

  all_open : filter (has flags) (numbers nodes) ≡ numbers nodes
  all_open = filter-all (has flags) (numbers nodes) (λ k h. let r = from_range 1 nodes k h in flagged k r.0 (let high = r.1 in omega (arith, high)))

  in_range : IsSlot (length loads) s
  in_range = record {
    home = subst (λ h. IfSome h (IsNode (length loads))) (sym home) tt;
    shares = subst (All (IsShare (length loads))) (sym shares) (All-nil (IsShare (length loads)));
  }

  pub begun : IsTallied loads flags slots 0
  begun = record {
    few = omega (arith, length_is, few);
    some_open =
        let open_now : length (filter (has flags) (numbers (length loads))) ≡ nodes = ap (λ n. length (filter (has flags) (numbers n))) length_is ∙ ap length all_open ∙ length-range_with_len 1 nodes in
        omega (arith, open_now, some);
    all_slots = ap length all_free ∙ length-replicate many s ∙ enough;
    slots_in_range = subst (All (IsSlot (length loads))) (sym all_free) (All-replicate (IsSlot (length loads)) many s in_range);
    running = λ n low high. ap (λ (ls : List ℕ). at_node ls n) unloaded ∙ get_or-replicate nodes (n - 1) 0 0 (omega (arith, low, high, length_is))
        ∙ sym (ap (λ m. load_of m n) standings_are ∙ load-empty n);
    counted = sym (ap map.len standings_are ∙ len-empty nat_cmp Standing);
  }

  pub begun_is : tally_of (length loads) flags slots ≡ tally_start nodes
  begun_is = ap (λ n. tally_of n flags slots) length_is ∙ (λ i. record { nodes = nodes; open_nodes = all_open i; standings = standings_are i })
