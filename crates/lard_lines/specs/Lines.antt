-- What is held of an input that is read by lines.
use Rattle.std.specs.Prelude.{ℕ, Bool, List, nat_eq}
use Rattle.std.specs.List.{slice_split}

-- What was read of a source and not passed yet, how many bytes were read of it in all, and how many it may have.
pub record Held : Type 0 where
  pub rest : List ℕ
  pub read : ℕ
  pub most : ℕ

-- a line feed
abbrev pub is_feed : ℕ → Bool
is_feed b = nat_eq b 10

-- a text's lines; the last part is what comes after the last line feed
abbrev pub lines_of : List ℕ → List (List ℕ)
lines_of text = slice_split is_feed text
