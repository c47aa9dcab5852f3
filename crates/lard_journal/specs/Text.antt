-- A text that is written word by word at the end of another.
use Rattle.std.specs.Prelude.{◌≡◌, ℕ, List, [], ◌∷◌, ◌++◌, length, take}
use Rattle.std.specs.List.{fold}
use Rattle.lard_base.specs.Spelling.{spaced}

-- a text with words behind it, with single spaces between the words
abbrev pub with_words : List ℕ → List (List ℕ) → List ℕ
with_words text [] = text
with_words text (word ∷ words) = fold spaced (text ++ word) words

-- the second text begins with the first
pub record BeginsWith (text longer : List ℕ) : Type 0 where
  pub begins : take (length text) longer ≡ text
