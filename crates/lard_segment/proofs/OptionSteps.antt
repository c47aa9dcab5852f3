-- Options are read one after the other, however many steps are allowed.
use Rattle.std.proofs.Common.{◌≡◌, ℕ, ◌-◌, ◌≤◌, zero, suc, List, [], ◌∷◌, length, drop, cond, Bool, true, false, Option, Some, None, Result, Ok, Err, refl, sym, ap, ◌∙◌, nat_eq, arith, length-drop}
use Rattle.std.proofs.lemmas.Bool.Decides.{nat_tests}
use Rattle.lard_segment.specs.Options.{mss_among, option_len, mss_after}
use Rattle.lard_segment.specs.declared.fault.SegFault.{SegFault}
use Rattle.lard_segment.specs.declared.fault.SegFault.TheVariants as fault

-- a bound on the steps that isn't below the number of bytes makes no difference
enough : (n m : ℕ) (bs : List ℕ) (mss : Option ℕ) → length bs ≤ n → length bs ≤ m → mss_among n bs mss ≡ mss_among m bs mss
enough zero zero [] mss h k = refl
enough zero (suc m) [] mss h k = refl
enough (suc n) zero [] mss h k = refl
enough (suc n) (suc m) [] mss h k = refl
enough zero m (b ∷ bs) mss h k = absurd (omega (arith, h))
enough (suc n) zero (b ∷ bs) mss h k = absurd (omega (arith, k))
enough (suc n) (suc m) (b ∷ bs) mss h k =
    let left : length bs ≤ n = omega (arith, h) in
    let right : length bs ≤ m = omega (arith, k) in
    step (enough n m bs mss left right) (λ l. enough n m (drop (l - 1) bs) (mss_after mss b bs) (omega (arith, left, length-drop (l - 1) bs)) (omega (arith, right, length-drop (l - 1) bs))) (nat_eq b 0) (nat_eq b 1) (option_len b bs) where
      step : mss_among n bs mss ≡ mss_among m bs mss → ((l : ℕ) → mss_among n (drop (l - 1) bs) (mss_after mss b bs) ≡ mss_among m (drop (l - 1) bs) (mss_after mss b bs))
          → (t u : Bool) (o : Option ℕ) → cond t (Ok mss) (cond u (mss_among n bs mss) (elim o as (λ _. Result (Option ℕ) SegFault) [ None ↦ Err fault.Option | Some l ↦ mss_among n (drop (l - 1) bs) (mss_after mss b bs) ]))
          ≡ cond t (Ok mss) (cond u (mss_among m bs mss) (elim o as (λ _. Result (Option ℕ) SegFault) [ None ↦ Err fault.Option | Some l ↦ mss_among m (drop (l - 1) bs) (mss_after mss b bs) ]))
      step x y true u o = refl
      step x y false true o = x
      step x y false false None = refl
      step x y false false (Some l) = y l

-- one option further
further : (k : ℕ) (bs : List ℕ) (mss : Option ℕ) (l : ℕ) → nat_eq k 0 ≡ false → nat_eq k 1 ≡ false → option_len k bs ≡ Some l
    → mss_among (length (k ∷ bs)) (k ∷ bs) mss ≡ mss_among (length (drop (l - 1) bs)) (drop (l - 1) bs) (mss_after mss k bs)
further k bs mss l z o e = rw (z, o, e) (enough (length bs) (length (drop (l - 1) bs)) (drop (l - 1) bs) (mss_after mss k bs) (omega (arith, length-drop (l - 1) bs)) (omega arith))

no_eq : (k n : ℕ) → (k ≡ n → ⊥) → nat_eq k n ≡ false
no_eq k n h = grind (arith, nat_tests, h)

-- a turn of the loop over options leaves what all of them give
pub turn : (rest rest' bs : List ℕ) (k : ℕ) (mss mss' : Option ℕ) (l : ℕ) (X : Result (Option ℕ) SegFault) → rest ≡ k ∷ bs → (k ≡ 0 → ⊥) → (k ≡ 1 → ⊥)
    → Some l ≡ option_len k bs → mss' ≡ mss_after mss k bs → rest' ≡ drop (l - 1) bs → mss_among (length rest) rest mss ≡ X → mss_among (length rest') rest' mss' ≡ X
turn rest rest' bs k mss mss' l X r z o e w d i =
    ap (λ x. mss_among (length x) x mss') d ∙ ap (λ x. mss_among (length (drop (l - 1) bs)) (drop (l - 1) bs) x) w
    ∙ sym (further k bs mss l (no_eq k 0 z) (no_eq k 1 o) (sym e)) ∙ ap (λ x. mss_among (length x) x mss) (sym r) ∙ i
