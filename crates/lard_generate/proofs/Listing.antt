-- Lists that are given place by place.
use Rattle.std.proofs.Common.{◌≡◌, ℕ, zero, suc, ◌+◌, [], ◌∷◌, ◌++◌, length, refl, ap, add-one, length-append, arith}
use Rattle.lard_generate.specs.Files.{listed_to}

pub listed_none : {A : Type 0} (f : ℕ → A) → listed_to f 0 ≡ []
unfolding listed_to
listed_none f = refl

pub listed_more : {A : Type 0} (f : ℕ → A) (n : ℕ) → listed_to f (n + 1) ≡ listed_to f n ++ f n ∷ []
unfolding listed_to
listed_more f n = ap (listed_to f) (add-one n)

pub length-listed : {A : Type 0} (f : ℕ → A) (n : ℕ) → length (listed_to f n) ≡ n
unfolding listed_to
length-listed f zero = refl
length-listed f (suc n) = omega (arith, length-append (listed_to f n) (f n ∷ []), length-listed f n)
