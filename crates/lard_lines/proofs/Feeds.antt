-- Where the first line feed stands in a text that is longer.
use Rattle.std.proofs.Common.{◌≡◌, ℕ, ◌+◌, ◌-◌, ◌≤◌, ◌<◌, List, [], ◌∷◌, ◌++◌, length, take, drop, Bool, true, false, cond, not, Some, None, refl, sym, ap, ◌∙◌, arith, length-drop, length-append}
use Rattle.std.proofs.lemmas.Bool.Decides.{nat_tests}
use Rattle.std.proofs.lemmas.List.{take_all, take-append-drop, length-take-le}
use Rattle.std.proofs.lemmas.List.Sums.{prefix_len-le-length}
use Rattle.std.specs.Prelude.{nat_lt}
use Rattle.std.specs.List.{position, position_or_len, prefix_len}

-- ---- a position is the length of what stands before it

module _ (p : ℕ → Bool) where
  abbrev before : List ℕ → ℕ
  before xs = prefix_len (λ x. not (p x)) xs

  none_before : (xs : List ℕ) → position p xs ≡ None → before xs ≡ length xs
  none_before xs e = go (nat_lt (position_or_len p xs) (length xs)) refl e where
    go : (t : Bool) → nat_lt (position_or_len p xs) (length xs) ≡ t → cond t (Some (position_or_len p xs)) None ≡ None → before xs ≡ length xs
    go true f e = let some : Some (position_or_len p xs) ≡ None = e in cc
    go false f e =
        let most = prefix_len-le-length (λ x. not (p x)) xs in
        let least : length xs ≤ position_or_len p xs = grind (arith, nat_tests, f) in omega (arith, most, least)

  some_before : (xs : List ℕ) (i : ℕ) → position p xs ≡ Some i → (before xs ≡ i) × (i < length xs)
  some_before xs i e = go (nat_lt (position_or_len p xs) (length xs)) refl e where
    go : (t : Bool) → nat_lt (position_or_len p xs) (length xs) ≡ t → cond t (Some (position_or_len p xs)) None ≡ Some i → (before xs ≡ i) × (i < length xs)
    go true f e =
        let same : position_or_len p xs ≡ i = cc in
        let small : position_or_len p xs < length xs = grind (arith, nat_tests, f) in (same, omega (arith, same, small))
    go false f e = let none : None ≡ Some i = e in cc

  before_none : (xs : List ℕ) → before xs ≡ length xs → position p xs ≡ None
  before_none xs e =
      let f : nat_lt (position_or_len p xs) (length xs) ≡ false = grind (arith, nat_tests, e) in ap (λ t. cond t (Some (position_or_len p xs)) None) f

  before_some : (xs : List ℕ) (i : ℕ) → before xs ≡ i → i < length xs → position p xs ≡ Some i
  before_some xs i e l =
      let f : nat_lt (position_or_len p xs) (length xs) ≡ true = grind (arith, nat_tests, e, l) in ap (λ t. cond t (Some (position_or_len p xs)) None) f ∙ ap (λ n. Some n) e

  -- ---- a text that is longer

  longer : (xs ys : List ℕ) → before xs < length xs → before (xs ++ ys) ≡ before xs
  longer [] ys l = absurd (omega (arith, l))
  longer (x ∷ xs) ys l = go (p x) (longer xs ys) l where
    go : (t : Bool) → (before xs < length xs → before (xs ++ ys) ≡ before xs) → cond (not t) (1 + before xs) 0 < length (x ∷ xs) → cond (not t) (1 + before (xs ++ ys)) 0 ≡ cond (not t) (1 + before xs) 0
    go true again m = refl
    go false again m = ap (λ n. 1 + n) (again (omega (arith, m)))

  behind : (xs ys : List ℕ) → before xs ≡ length xs → before (xs ++ ys) ≡ length xs + before ys
  behind [] ys e = omega arith
  behind (x ∷ xs) ys e = go (p x) (behind xs ys) e where
    go : (t : Bool) → (before xs ≡ length xs → before (xs ++ ys) ≡ length xs + before ys) → cond (not t) (1 + before xs) 0 ≡ length (x ∷ xs) → cond (not t) (1 + before (xs ++ ys)) 0 ≡ length (x ∷ xs) + before ys
    go true again f = absurd (omega (arith, f))
    go false again f = let e = again (omega (arith, f)) in omega (arith, e)

  -- what comes behind a text does not move its first line feed
  pub found_before : (xs ys : List ℕ) (i : ℕ) → position p xs ≡ Some i → position p (xs ++ ys) ≡ Some i
  found_before xs ys i e =
      let at = some_before xs i e in
      let same = longer xs ys (omega (arith, at.0, at.1)) in
      before_some (xs ++ ys) i (same ∙ at.0) (omega (arith, at.1, length-append xs ys))

  -- where none is in a text, the first is behind it
  pub found_behind : (xs ys : List ℕ) (i : ℕ) → position p xs ≡ None → position p ys ≡ Some i → position p (xs ++ ys) ≡ Some (length xs + i)
  found_behind xs ys i none e =
      let at = some_before ys i e in
      let sum = behind xs ys (none_before xs none) in
      before_some (xs ++ ys) (length xs + i) (omega (arith, sum, at.0)) (omega (arith, at.1, length-append xs ys))

  pub none_behind : (xs ys : List ℕ) → position p xs ≡ None → position p ys ≡ None → position p (xs ++ ys) ≡ None
  none_behind xs ys none e =
      let sum = behind xs ys (none_before xs none) in
      before_none (xs ++ ys) (omega (arith, sum, none_before ys e, length-append xs ys))

  pub none_until : (xs ys : List ℕ) (i : ℕ) → position p xs ≡ None → position p (xs ++ ys) ≡ Some i → length xs ≤ i
  none_until xs ys i none e =
      let sum = behind xs ys (none_before xs none) in
      let at = some_before (xs ++ ys) i e in omega (arith, sum, at.0)

  -- ---- a text that was searched to a place

  whole_again : (text : List ℕ) (n : ℕ) → take n text ++ take (length text - n) (drop n text) ≡ text
  whole_again text n = ap (λ xs. take n text ++ xs) (take_all (length text - n) (drop n text) (omega (arith, length-drop n text))) ∙ take-append-drop n text

  pub found_from : (text : List ℕ) (n i : ℕ) → n ≤ length text → position p (take n text) ≡ None → position p (take (length text - n) (drop n text)) ≡ Some i → position p text ≡ Some (n + i)
  found_from text n i l none e =
      ap (λ xs. position p xs) (sym (whole_again text n)) ∙ found_behind (take n text) (take (length text - n) (drop n text)) i none e ∙ ap (λ m. Some (m + i)) (length-take-le n text l)

  pub none_from : (text : List ℕ) (n : ℕ) → position p (take n text) ≡ None → position p (take (length text - n) (drop n text)) ≡ None → position p text ≡ None
  none_from text n none e = ap (λ xs. position p xs) (sym (whole_again text n)) ∙ none_behind (take n text) (take (length text - n) (drop n text)) none e
