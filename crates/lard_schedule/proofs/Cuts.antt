-- Where a text is cut: into words at spaces, into lines at line feeds.
use Rattle.std.proofs.Common.{◌≡◌, ℕ, ◌+◌, ◌≤◌, ◌-◌, List, [], ◌∷◌, length, take, drop, Bool, true, false, cond, not, Some, None, refl, ap, arith, subst, length-drop}
use Rattle.std.proofs.lemmas.Bool.Decides.{nat_tests}
use Rattle.std.proofs.lemmas.List.{take_all}
use Rattle.std.proofs.lemmas.List.Splits.{slice_split_first}
use Rattle.std.proofs.lemmas.List.Sums.{prefix_len-le-length}
use Rattle.std.specs.Prelude.{nat_lt}
use Rattle.std.specs.List.{slice_split, onto_first, position, position_or_len, prefix_len}
use Rattle.lard_schedule.specs.Words.{words_of, is_space, ended}

-- where no byte cuts, the text is the one part
whole : (p : ℕ → Bool) (xs : List ℕ) → prefix_len (λ x. not (p x)) xs ≡ length xs → slice_split p xs ≡ xs ∷ []
whole p [] e = refl
whole p (x ∷ xs) e = go (p x) (whole p xs) e where
  go : (t : Bool) → (prefix_len (λ y. not (p y)) xs ≡ length xs → slice_split p xs ≡ xs ∷ [])
      → cond (not t) (1 + prefix_len (λ y. not (p y)) xs) 0 ≡ length (x ∷ xs) → cond t ([] ∷ slice_split p xs) (onto_first x (slice_split p xs)) ≡ (x ∷ xs) ∷ []
  go true again f = absurd (omega (arith, f))
  go false again f = ap (onto_first x) (again (omega (arith, f)))

-- the first part, and the parts behind it
pub split_at : (p : ℕ → Bool) (text : List ℕ) (i : ℕ) → position p text ≡ Some i → slice_split p text ≡ take i text ∷ slice_split p (drop (i + 1) text)
split_at p text i e = go (nat_lt (position_or_len p text) (length text)) refl e where
  go : (t : Bool) → nat_lt (position_or_len p text) (length text) ≡ t → cond t (Some (position_or_len p text)) None ≡ Some i
      → slice_split p text ≡ take i text ∷ slice_split p (drop (i + 1) text)
  go true f e = let same : position_or_len p text ≡ i = cc in
      subst (λ j. slice_split p text ≡ take j text ∷ slice_split p (drop (j + 1) text)) same (slice_split_first p text 0 (grind (arith, nat_tests, f)))
  go false f e = let none : None ≡ Some i = e in cc

-- a text in which no byte cuts
pub split_alone : (p : ℕ → Bool) (text : List ℕ) → position p text ≡ None → slice_split p text ≡ text ∷ []
split_alone p text e = go (nat_lt (position_or_len p text) (length text)) refl e where
  go : (t : Bool) → nat_lt (position_or_len p text) (length text) ≡ t → cond t (Some (position_or_len p text)) None ≡ None → slice_split p text ≡ text ∷ []
  go true f e = let some : Some (position_or_len p text) ≡ None = e in cc
  go false f e = let most = prefix_len-le-length (λ x. not (p x)) text in
      let least : length text ≤ position_or_len p text = grind (arith, nat_tests, f) in whole p text (omega (arith, most, least))

-- each text has a first part
pub first_part : (p : ℕ → Bool) (text : List ℕ) → (part : List ℕ) × (parts : List (List ℕ)) × (slice_split p text ≡ part ∷ parts)
first_part p [] = ([], [], refl)
first_part p (b ∷ bs) = go (p b) (slice_split p bs) where
  go : (t : Bool) (rest : List (List ℕ)) → (part : List ℕ) × (parts : List (List ℕ)) × (cond t ([] ∷ rest) (onto_first b rest) ≡ part ∷ parts)
  go true rest = ([], rest, refl)
  go false [] = (b ∷ [], [], refl)
  go false (part ∷ parts) = (b ∷ part, parts, refl)

-- the first word, and the words behind it
pub words_at : (text : List ℕ) (i : ℕ) → position is_space text ≡ Some i → words_of text ≡ take i text ∷ words_of (drop (i + 1) text)
words_at text i e = split_at is_space text i e

-- a text without a space is one word
pub words_alone : (text : List ℕ) → position is_space text ≡ None → words_of text ≡ text ∷ []
words_alone text e = split_alone is_space text e

-- each text has a word
pub some_word : (text : List ℕ) → ended {A = Unit {0}} (words_of text) tt ≡ None
some_word text = let first = first_part is_space text in rw first.2 refl

-- a slice from a place on is the rest of the text
pub slice_rest : (text : List ℕ) (at : ℕ) → take (length text - at) (drop at text) ≡ drop at text
slice_rest text at = take_all (length text - at) (drop at text) (omega (arith, length-drop at text))
