-- The cheapest of some candidates is the first of those that cost least.
use Rattle.std.proofs.Common.{◌≡◌, ℕ, Bool, true, false, List, [], ◌∷◌, ◌++◌, cond, refl, sym, ap, subst, arith}
use Rattle.std.proofs.lemmas.Bool.Decides.{nat_tests}
use Rattle.lard_costs.specs.declared.cost.Cost.{Cost}
use Rattle.lard_costs.specs.declared.cost.Cost.TheVariants.{Units, Over}
use Rattle.lard_costs.specs.Costs.{cost_at, is_less}
use Rattle.lard_costs.specs.Later.{cheaper, cheapest, members_of, later_choice}
use Rattle.lard_costs.specs.Laws.{CostMore, CostNoLess, IsFirstCheapest, TakesTheCheapest, StaysAtHome}

-- costs in order
less-less : (a b c : Cost) → is_less a b ≡ true → is_less b c ≡ true → is_less a c ≡ true
less-less (Units a) (Units b) (Units c) h k = grind (arith, nat_tests, h, k)
less-less (Units a) (Units b) Over h k = refl
less-less (Units a) Over c h k = cc
less-less Over b c h k = cc

less-no_less : (a b c : Cost) → is_less a b ≡ true → is_less c b ≡ false → is_less a c ≡ true
less-no_less (Units a) (Units b) (Units c) h k = grind (arith, nat_tests, h, k)
less-no_less (Units a) (Units b) Over h k = refl
less-no_less (Units a) Over (Units c) h k = cc
less-no_less (Units a) Over Over h k = refl
less-no_less Over b c h k = cc

module _ (cost : ℕ → Cost) where
  -- the cheaper of the first two, by whether the second costs less
  first : (n m : ℕ) (ms : List ℕ) (r : ℕ) (b : Bool) → is_less (cost m) (cost n) ≡ b → IsFirstCheapest cost (cond b m n ∷ ms) r → IsFirstCheapest cost (n ∷ m ∷ ms) r
  first n m ms r true less f = go f.front f.back f.stands f.more f.no_less where
    go : (front back : List ℕ) → m ∷ ms ≡ front ++ r ∷ back → CostMore cost r front → CostNoLess cost r back → IsFirstCheapest cost (n ∷ m ∷ ms) r
    go [] back e more no_less =
        let same : m ≡ r = cc in
        let over : is_less (cost r) (cost n) ≡ true = subst (λ x. is_less (cost x) (cost n) ≡ true) same less in
        record { front = n ∷ []; back = back; stands = ap (λ xs. n ∷ xs) e; more = (over, tt); no_less = no_less }
    go (x ∷ xs) back e more no_less =
        let same : m ≡ x = cc in
        let over : is_less (cost r) (cost n) ≡ true = less-less (cost r) (cost m) (cost n) (subst (λ y. is_less (cost r) (cost y) ≡ true) (sym same) more.0) less in
        record { front = n ∷ x ∷ xs; back = back; stands = ap (λ xs. n ∷ xs) e; more = (over, more); no_less = no_less }
  first n m ms r false dear f = go f.front f.back f.stands f.more f.no_less where
    go : (front back : List ℕ) → n ∷ ms ≡ front ++ r ∷ back → CostMore cost r front → CostNoLess cost r back → IsFirstCheapest cost (n ∷ m ∷ ms) r
    go [] back e more no_less =
        let same : n ≡ r = cc in
        let rest : ms ≡ back = cc in
        record {
          front = [];
          back = m ∷ back;
          stands = (λ i. same i ∷ m ∷ rest i);
          more = tt;
          no_less = (subst (λ x. is_less (cost m) (cost x) ≡ false) same dear, no_less);
        }
    go (x ∷ xs) back e more no_less =
        let same : n ≡ x = cc in
        let rest : ms ≡ xs ++ r ∷ back = cc in
        let before : is_less (cost r) (cost n) ≡ true = subst (λ y. is_less (cost r) (cost y) ≡ true) (sym same) more.0 in
        record {
          front = n ∷ m ∷ xs;
          back = back;
          stands = ap (λ ys. n ∷ m ∷ ys) rest;
          more = (before, (less-no_less (cost r) (cost n) (cost m) before dear, more.1));
          no_less = no_less;
        }

  pub cheapest-first : (n : ℕ) (ms : List ℕ) → IsFirstCheapest cost (n ∷ ms) (cheapest cost n ms)
  cheapest-first n [] = record { front = []; back = []; stands = refl; more = tt; no_less = tt }
  cheapest-first n (m ∷ ms) = first n m ms (cheapest cost (cheaper cost n m) ms) (is_less (cost m) (cost n)) refl (cheapest-first (cheaper cost n m) ms)

pub cheapest_is_taken : TakesTheCheapest
unfolding later_choice
cheapest_is_taken t h set queue cfg goes =
    subst (IsFirstCheapest (cost_at t cfg set) (h ∷ members_of set)) (ap (λ b. cond b h (cheapest (cost_at t cfg set) h (members_of set))) (sym goes)) (cheapest-first (cost_at t cfg set) h (members_of set))

pub home_is_kept : StaysAtHome
unfolding later_choice
home_is_kept t h set queue cfg kept = ap (λ b. cond b h (cheapest (cost_at t cfg set) h (members_of set))) kept
