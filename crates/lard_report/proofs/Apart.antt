-- The words of a line have no space.
use Rattle.std.proofs.Common.{◌≡◌, ℕ, ◌-◌, ◌==◌, List, [], ◌∷◌, ◌++◌, length, take, Bool, true, false, cond, refl, subst, ◌∙◌, ap, arith, length-append}
use Rattle.std.proofs.Math.Seq.{take-append_seam}
use Rattle.lard_base.specs.Spelling.{line_of, sentence}
use Rattle.lard_journal.proofs.Cut.{cut, cut-line_of, is_sentence}
use Rattle.lard_schedule.specs.Words.{is_space}
use Rattle.lard_schedule.specs.Laws.{AreWords, HaveNoSpace}

-- a line without its line feed is the sentence of its words
pub front_is : (words : List (List ℕ)) → take (length (line_of words) - 1) (line_of words) ≡ sentence words
front_is words =
    let text = sentence words in
    let one : length (text ++ 10 ∷ []) - 1 ≡ length text = omega (arith, length-append text (10 ∷ [])) in
    ap (λ n. take n (text ++ 10 ∷ [])) one ∙ take-append_seam text (10 ∷ [])

-- a byte in front of the first of some words
abbrev onto : ℕ → List (List ℕ) → List (List ℕ)
onto b [] = (b ∷ []) ∷ []
onto b (word ∷ words) = (b ∷ word) ∷ words

behind_apart : (words : List (List ℕ)) → AreWords words → HaveNoSpace words
behind_apart [] apart = absurd apart
behind_apart (word ∷ words) apart = (apart.0, apart.1)

onto_apart : (b : ℕ) (words : List (List ℕ)) → is_space b ≡ false → AreWords words → AreWords (onto b words)
onto_apart b [] e apart = absurd apart
onto_apart b (word ∷ words) e apart = ((e, apart.0), apart.1)

-- whatever is cut at spaces has none
pub cut_apart : (text : List ℕ) → AreWords (cut text)
cut_apart [] = (tt, tt)
cut_apart (b ∷ bs) = go (b == 10) (b == 32) refl (cut bs) (cut_apart bs) where
  go : (feed space : Bool) → (b == 32) ≡ space → (words : List (List ℕ)) → AreWords words
      → AreWords (cond feed ([] ∷ []) (cond space ([] ∷ words) (onto b words)))
  go true space e words apart = (tt, tt)
  go false true e words apart = (tt, behind_apart words apart)
  go false false e words apart = onto_apart b words e apart

-- so plain words have none
pub plain_apart : (words : List (List ℕ)) → is_sentence words ≡ true → AreWords words
plain_apart words plain = subst AreWords (cut-line_of words [] plain) (cut_apart (line_of words ++ []))
