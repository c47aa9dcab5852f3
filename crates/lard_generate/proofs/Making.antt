-- What is made one after another: a step of a loop, and what holds of all that is made.
use Rattle.std.proofs.Common.{◌≡◌, ℕ, zero, suc, ◌+◌, ◌*◌, ◌≤◌, List, [], ◌++◌, length, All, refl, sym, ap, ◌∙◌, add-one, length-append, arith}
use Rattle.std.specs.Prelude.{sum_by}
use Rattle.std.proofs.lemmas.List.Elements.{All-nil, All-append}
use Rattle.std.proofs.lemmas.List.Sums.{sum_by-append}
use Rattle.rand_pcg.specs.Lcg.{Lcg}
use Rattle.lard_generate.specs.Draws.{each}

-- what is made with one more number, behind what was made before it
abbrev with_last : {A : Type 0} → (ℕ → Lcg → List A × Lcg) → ℕ → List A × Lcg → List A × Lcg
with_last f n before = (before.0 ++ (f n before.1).0, (f n before.1).1)

-- A loop begins with nothing.
pub each_begins : {A : Type 0} (f : ℕ → Lcg → List A × Lcg) (g : Lcg) (xs : List A) → xs ≡ [] → each f 0 g ≡ (xs, g)
unfolding each
each_begins f g xs e = ap (λ ys. (ys, g)) (sym e)

-- A turn of a loop adds what is made for the next number.
pub each_goes_on : {A : Type 0} (f : ℕ → Lcg → List A × Lcg) (n : ℕ) (g h k : Lcg) (xs ys zs : List A)
    → each f n g ≡ (xs, h) → f (n + 1) h ≡ (ys, k) → zs ≡ xs ++ ys → each f (n + 1) g ≡ (zs, k)
unfolding each
each_goes_on f n g h k xs ys zs e d z =
    ap (λ m. each f m g) (add-one n)
    ∙ ap (with_last f (n + 1)) e
    ∙ ap (λ last. (xs ++ last.0, last.1)) d
    ∙ ap (λ all. (all, k)) (sym z)

-- What holds of all that is made for each number holds of all.
pub All-each : {A : Type 0} (P : A → Type 0) (f : ℕ → Lcg → List A × Lcg) (n : ℕ) (g : Lcg)
    → ((k : ℕ) (h : Lcg) → 1 ≤ k → k ≤ n → All P (f k h).0) → All P (each f n g).0
unfolding each
All-each P f zero g holds = All-nil P
All-each P f (suc n) g holds =
    let before = each f n g in
    All-append P before.0 (f (n + 1) before.1).0 (All-each P f n g (λ k h low high. holds k h low (omega arith))) (holds (n + 1) before.1 (omega arith) (omega arith))

-- What is at most b for each number is at most b times their count for all.
pub sum_by-each : {A : Type 0} (cost : A → ℕ) (b : ℕ) (f : ℕ → Lcg → List A × Lcg) (n : ℕ) (g : Lcg)
    → ((k : ℕ) (h : Lcg) → sum_by cost (f k h).0 ≤ b) → sum_by cost (each f n g).0 ≤ n * b
unfolding each
sum_by-each cost b f zero g small = omega arith
sum_by-each cost b f (suc n) g small =
    let before = each f n g in
    omega (arith, sum_by-append cost before.0 (f (n + 1) before.1).0, sum_by-each cost b f n g small, small (n + 1) before.1)

-- Where each number makes one thing, there are as many as numbers.
pub length-each : {A : Type 0} (f : ℕ → Lcg → List A × Lcg) (n : ℕ) (g : Lcg) → ((k : ℕ) (h : Lcg) → length (f k h).0 ≡ 1) → length (each f n g).0 ≡ n
unfolding each
length-each f zero g one = refl
length-each f (suc n) g one =
    let before = each f n g in
    omega (arith, length-append before.0 (f (n + 1) before.1).0, length-each f n g one, one (n + 1) before.1)
