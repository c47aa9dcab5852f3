-- The members from a number on.
use Rattle.std.proofs.Common.{◌≡◌, ◌+◌, ◌-◌, ◌<◌, ℕ, suc, Bool, true, false, List, ◌∷◌, filter, cond, refl, sym, ap, ◌∙◌, arith}
use Rattle.std.specs.List.{range_with_len}
use Rattle.lard_base.specs.Members.{has, node_numbers}
use Rattle.lard_costs.specs.declared.cost.Cost.{Cost}
use Rattle.lard_costs.specs.Later.{cheaper, cheapest, members_of}

-- those of the numbers below 65, from n on
unfoldable pub members_from : ℕ → ℕ → List ℕ
members_from set n = filter (has set) (range_with_len n (65 - n))

pub members_from-one : (set : ℕ) → members_from set 1 ≡ members_of set
unfolding members_from members_of node_numbers
members_from-one set = refl

pub members_from-end : (set : ℕ) (cost : ℕ → Cost) (n : ℕ) → cheapest cost n (members_from set 65) ≡ n
unfolding members_from
members_from-end set cost n = refl

-- the next number is looked at first
pub cheapest-next : (set : ℕ) (cost : ℕ → Cost) (best number next : ℕ) → number < 65 → next ≡ cond (has set number) (cheaper cost best number) best
    → cheapest cost next (members_from set (number + 1)) ≡ cheapest cost best (members_from set number)
unfolding members_from
cheapest-next set cost best number next h e =
    let first : 65 - number ≡ suc (65 - (number + 1)) = omega arith in
    ap (λ b. cheapest cost b (filter (has set) (range_with_len (number + 1) (65 - (number + 1))))) e
    ∙ go (has set number)
    ∙ ap (λ k. cheapest cost best (filter (has set) (range_with_len number k))) (sym first)
  where
    rest : List ℕ
    rest = filter (has set) (range_with_len (number + 1) (65 - (number + 1)))

    go : (b : Bool) → cheapest cost (cond b (cheaper cost best number) best) rest ≡ cheapest cost best (cond b (number ∷ rest) rest)
    go true = refl
    go false = refl
