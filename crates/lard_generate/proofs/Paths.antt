-- Each file may be added behind those before it.
use Rattle.std.proofs.Common.{◌≡◌, ◌≢◌, ◌⊎◌, ℕ, zero, suc, ◌+◌, ◌*◌, ◌<◌, ◌≤◌, ◌^◌, ◌%◌, Bool, true, false, cond, List, [], ◌∷◌, length, All, Option, Some, None, Result, Ok, Err, is_some, refl, ◌∙◌, arith, ◌++◌, subst, inl, inr, sym}
use Rattle.std.specs.Prelude.{decimal, slice_index, nat_lt}
use Rattle.std.proofs.Math.Nat.{eq-or-lt_of_le}
use Rattle.std.proofs.lemmas.Bool.Decides.{nat_tests}
use Rattle.std.proofs.lemmas.Fmt.{decimal_injective, length-decimal-le}
use Rattle.std.proofs.lemmas.List.Elements.{All-get_or}
use Rattle.std.proofs.lemmas.List.Sums.{sum_by-append}
use Rattle.lard_files.specs.declared.fault.FileFault.{FileFault}
use Rattle.lard_files.specs.declared.fault.FileFault.TheVariants.{Repeated, TooLong, TooMany, TooMuch}
use Rattle.lard_files.specs.Files.{add_check, file_at, files_total}
use Rattle.lard_files.proofs.Lookups.{finds_added, others_stay}
use Rattle.lard_generate.specs.Files.{generated_file, listed_to, generated_path}
use Rattle.lard_generate.proofs.Listing.{length-listed}

pub length-path_of : (i : ℕ) → i < 1000 → length (generated_path i) ≤ 5
length-path_of i small = omega (arith, length-decimal-le 3 i (omega arith) small (omega arith))

-- two files have two paths
paths_differ : (i j : ℕ) → i < j → j < 2 ^ 32 → generated_path j ≢ generated_path i
paths_differ i j below small e =
    let digits : decimal j ≡ decimal i = cc in
    absurd (omega (arith, decimal_injective j i (omega arith) (omega arith) digits))

-- no file is at the path of a later one
absent : (sizes : List ℕ) (n j : ℕ) → n ≤ j → j < 2 ^ 32 → file_at (listed_to (generated_file sizes) n) (generated_path j) ≡ None
unfolding listed_to
absent sizes zero j below small = refl
absent sizes (suc n) j below small =
    others_stay (listed_to (generated_file sizes) n) (generated_path n) (generated_file sizes n).1 (generated_path j) (paths_differ n j (omega arith) small)
    ∙ absent sizes n j (omega arith) small

-- a size that is read at any place
small_at : (sizes : List ℕ) (b : ℕ) (i : ℕ) → i < length sizes → All (λ size. size ≤ b) sizes → slice_index sizes i ≤ b
small_at sizes b i inside small = All-get_or (λ size. size ≤ b) sizes i 0 inside small

-- all files so far are small
total_small : (sizes : List ℕ) (b : ℕ) (n : ℕ) → n ≤ length sizes → All (λ size. size ≤ b) sizes → files_total (listed_to (generated_file sizes) n) ≤ n * b
unfolding listed_to
total_small sizes b zero inside small = omega arith
total_small sizes b (suc n) inside small =
    omega (
      arith,
      sum_by-append (λ file. length file.1) (listed_to (generated_file sizes) n) (generated_file sizes n ∷ []),
      total_small sizes b n (omega arith) small,
      length-listed (λ j. (n + j) % 256) (slice_index sizes n),
      small_at sizes b n (omega arith) small,
    )

-- the check by its four tests
passes : (files : List (List ℕ × List ℕ)) (path : List ℕ) (len : ℕ) → file_at files path ≡ None → len ≤ 2 ^ 20 → length files + 1 ≤ 65536 → files_total files + len ≤ 2 ^ 26
    → add_check files path len ≡ Ok tt
passes files path len none short few fits =
    go (file_at files path) (nat_lt (2 ^ 20) len) (nat_lt 65536 (length files + 1)) (nat_lt (2 ^ 26) (files_total files + len)) none (grind (arith, nat_tests, short))
    (grind (arith, nat_tests, few)) (grind (arith, nat_tests, fits))
  where
    go : (o : Option (List ℕ)) (b c d : Bool) → o ≡ None → b ≡ false → c ≡ false → d ≡ false
        → cond {A = Result (Unit {0}) FileFault} (is_some o) (Err Repeated) (cond b (Err (TooLong len)) (cond c (Err (TooMany (length files + 1))) (cond d (Err (TooMuch (files_total files + len))) (Ok tt)))) ≡ Ok tt
    go (Some x) b c d e s f h = cc
    go None true c d e s f h = cc
    go None false true d e s f h = cc
    go None false false true e s f h = cc
    go None false false false e s f h = refl

-- A file may be added behind those before it.
pub may_be_added : (sizes : List ℕ) (i : ℕ) → length sizes ≡ 256 → i < 256 → All (λ size. size ≤ 8192) sizes
    → add_check (listed_to (generated_file sizes) i) (generated_path i) (slice_index sizes i) ≡ Ok tt
may_be_added sizes i count inside small =
    let size = small_at sizes 8192 i (omega arith) small in
    passes (listed_to (generated_file sizes) i) (generated_path i) (slice_index sizes i) (absent sizes i i (omega arith) (omega arith)) (omega (arith, size))
    (omega (arith, length-listed (generated_file sizes) i)) (omega (arith, size, total_small sizes 8192 i (omega arith) small))

-- A file is found at its path, among those before it and behind.
pub found : (sizes : List ℕ) (n i : ℕ) → i < n → n ≤ 2 ^ 32 → file_at (listed_to (generated_file sizes) n) (generated_path i) ≡ Some (generated_file sizes i).1
unfolding listed_to
found sizes zero i below small = absurd (omega arith)
found sizes (suc n) i below small = go (λ earlier. found sizes n i earlier (omega arith)) (eq-or-lt_of_le (omega arith)) where
  go : (i < n → file_at (listed_to (generated_file sizes) n) (generated_path i) ≡ Some (generated_file sizes i).1) → (i ≡ n) ⊎ (i < n)
      → file_at (listed_to (generated_file sizes) n ++ generated_file sizes n ∷ []) (generated_path i) ≡ Some (generated_file sizes i).1
  go before (inl same) =
      subst (λ k. file_at (listed_to (generated_file sizes) n ++ generated_file sizes n ∷ []) (generated_path k) ≡ Some (generated_file sizes k).1) (sym same)
      (finds_added (listed_to (generated_file sizes) n) (generated_path n) (generated_file sizes n).1 (absent sizes n n (omega arith) (omega arith)))
  go before (inr earlier) =
      others_stay (listed_to (generated_file sizes) n) (generated_path n) (generated_file sizes n).1 (generated_path i) (λ e. paths_differ i n earlier (omega arith) (sym e)) ∙ before earlier
