-- The part of a file that a range is: where it lies, and which bytes it has.
use Rattle.std.proofs.Common.{◌≡◌, ◌↔◌, ℕ, ◌+◌, ◌-◌, ◌<◌, ◌≤◌, min, Bool, true, false, Some, None, cond, refl, sym, ap, ◌∙◌, subst, arith, nat_eq, nat_le}
use Rattle.std.proofs.lemmas.Bool.Decides.{nat_tests}
use Rattle.lard_ranges.specs.declared.parts.Part.{Part}
use Rattle.lard_ranges.specs.declared.parts.Part.TheVariants.{Whole, Slice, Unsatisfiable}
use Rattle.lard_ranges.specs.declared.reading.Range.{Range}
use Rattle.lard_ranges.specs.declared.reading.Range.TheVariants.{From, Suffix}
use Rattle.lard_ranges.specs.Reading.{IsForward}
use Rattle.lard_ranges.specs.Parts.{satisfied, applied, AsksForByte, HasByte}

applied-some : (range : Range) (n : ℕ) → 0 < n → applied range n ≡ satisfied range n
unfolding applied
applied-some range n some = let t : nat_eq n 0 ≡ false = grind (arith, nat_tests) in ap (λ b. cond {A = Part} b Whole (satisfied range n)) t

applied-none : (range : Range) (n : ℕ) → n ≡ 0 → applied range n ≡ Whole
unfolding applied
applied-none range n none = let t : nat_eq n 0 ≡ true = grind (arith, nat_tests) in ap (λ b. cond {A = Part} b Whole (satisfied range n)) t

-- ---- a slice lies within the file

satisfied-within : (range : Range) (n first last : ℕ) → 0 < n → IsForward range → satisfied range n ≡ Slice first last → (first ≤ last) × (last < n)
satisfied-within (From from None) n first last some forward e = go (nat_le n from) refl e where
  go : (t : Bool) → nat_le n from ≡ t → cond {A = Part} t Unsatisfiable (Slice from (n - 1)) ≡ Slice first last → (first ≤ last) × (last < n)
  go true f g = cc
  go false f g =
      let x : from ≡ first = cc in let y : n - 1 ≡ last = cc in let z : from < n = grind (arith, nat_tests, f) in
      (omega (arith, x, y, z, some), omega (arith, y, some))
satisfied-within (From from (Some to)) n first last some forward e = go (nat_le n from) refl e where
  go : (t : Bool) → nat_le n from ≡ t → cond {A = Part} t Unsatisfiable (Slice from (min to (n - 1))) ≡ Slice first last → (first ≤ last) × (last < n)
  go true f g = cc
  go false f g =
      let x : from ≡ first = cc in let y : min to (n - 1) ≡ last = cc in let z : from < n = grind (arith, nat_tests, f) in
      (omega (arith, x, y, z, forward, some), omega (arith, y, some))
satisfied-within (Suffix len) n first last some forward e = go (nat_eq len 0) refl e where
  go : (t : Bool) → nat_eq len 0 ≡ t → cond {A = Part} t Unsatisfiable (Slice (n - len) (n - 1)) ≡ Slice first last → (first ≤ last) × (last < n)
  go true f g = cc
  go false f g =
      let x : n - len ≡ first = cc in let y : n - 1 ≡ last = cc in let z : 0 < len = grind (arith, nat_tests, f) in
      (omega (arith, x, y, z, some), omega (arith, y, some))

pub within : (range : Range) (n first last : ℕ) → IsForward range → applied range n ≡ Slice first last → (first ≤ last) × (last < n)
within range n first last forward e = go (nat_eq n 0) refl where
  go : (t : Bool) → nat_eq n 0 ≡ t → (first ≤ last) × (last < n)
  go true f = let none : n ≡ 0 = grind (arith, nat_tests, f) in let whole : Whole ≡ Slice first last = sym (applied-none range n none) ∙ e in cc
  go false f = let some : 0 < n = grind (arith, nat_tests, f) in satisfied-within range n first last some forward (sym (applied-some range n some) ∙ e)

-- ---- it has the bytes that the range asks for

satisfied-bytes : (range : Range) (n place : ℕ) → place < n → HasByte (satisfied range n) place ↔ AsksForByte range n place
satisfied-bytes (From from None) n place inside = go (nat_le n from) refl where
  go : (t : Bool) → nat_le n from ≡ t → HasByte (cond {A = Part} t Unsatisfiable (Slice from (n - 1))) place ↔ (from ≤ place)
  go true f = let z : n ≤ from = grind (arith, nat_tests, f) in (λ h. absurd h, λ h. omega (arith, z, h, inside))
  go false f = (λ h. h.0, λ h. (h, omega (arith, inside)))
satisfied-bytes (From from (Some to)) n place inside = go (nat_le n from) refl where
  go : (t : Bool) → nat_le n from ≡ t → HasByte (cond {A = Part} t Unsatisfiable (Slice from (min to (n - 1)))) place ↔ ((from ≤ place) × (place ≤ to))
  go true f = let z : n ≤ from = grind (arith, nat_tests, f) in (λ h. absurd h, λ h. omega (arith, z, h.0, inside))
  go false f = (λ h. (h.0, omega (arith, h.1)), λ h. (h.0, omega (arith, h.1, inside)))
satisfied-bytes (Suffix len) n place inside = go (nat_eq len 0) refl where
  go : (t : Bool) → nat_eq len 0 ≡ t → HasByte (cond {A = Part} t Unsatisfiable (Slice (n - len) (n - 1))) place ↔ (n ≤ place + len)
  go true f = let z : len ≡ 0 = grind (arith, nat_tests, f) in (λ h. absurd h, λ h. omega (arith, z, h, inside))
  go false f = (λ h. omega (arith, h.0), λ h. (omega (arith, h), omega (arith, inside)))

pub bytes : (range : Range) (n place : ℕ) → place < n → HasByte (applied range n) place ↔ AsksForByte range n place
bytes range n place inside =
    let is : satisfied range n ≡ applied range n = sym (applied-some range n (omega (arith, inside))) in
    subst (λ (p : Part). HasByte p place ↔ AsksForByte range n place) is (satisfied-bytes range n place inside)

-- ---- and is none where it asks for none

pub none-asked : (range : Range) (n : ℕ) → applied range n ≡ Unsatisfiable → (0 < n) × ((place : ℕ) → place < n → ¬ (AsksForByte range n place))
none-asked range n e = go (nat_eq n 0) refl where
  go : (t : Bool) → nat_eq n 0 ≡ t → (0 < n) × ((place : ℕ) → place < n → ¬ (AsksForByte range n place))
  go true f = let none : n ≡ 0 = grind (arith, nat_tests, f) in let whole : Whole ≡ Unsatisfiable = sym (applied-none range n none) ∙ e in cc
  go false f = (grind (arith, nat_tests, f), λ place inside asks. subst (λ (p : Part). HasByte p place) e ((bytes range n place inside).1 asks))

pub asked-none : (range : Range) (n : ℕ) → IsForward range → 0 < n → ((place : ℕ) → place < n → ¬ (AsksForByte range n place)) → applied range n ≡ Unsatisfiable
asked-none range n forward some none = go (applied range n) refl where
  go : (p : Part) → applied range n ≡ p → applied range n ≡ Unsatisfiable
  go Whole e = absurd (none 0 some ((bytes range n 0 some).0 (subst (λ (p : Part). HasByte p 0) (sym e) tt)))
  go (Slice first last) e =
      let w : (first ≤ last) × (last < n) = within range n first last forward e in
      let inside : first < n = omega (arith, w) in
      let here : first ≤ first = omega arith in
      absurd (none first inside ((bytes range n first inside).0 (subst (λ (p : Part). HasByte p first) (sym e) (here, w.0))))
  go Unsatisfiable e = e
