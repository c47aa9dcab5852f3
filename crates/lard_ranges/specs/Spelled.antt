-- How a range of bytes is spelled: the grammar of one range of RFC 9110, 14.1.1 and 14.1.2, said without reading.
use Rattle.std.specs.Prelude.{◌≡◌, ℕ, ◌≤◌, List, ◌++◌, length, codes, Some, None}
use Rattle.std.specs.Str.{str_to_ascii_lowercase}
use Rattle.std.specs.Str.Parse.{IsNumeral, digits_value}
use Rattle.httparse.specs.Grammar.{AllPass, is_ows}
use Rattle.lard_ranges.specs.declared.reading.TheConstants.{MAX_DIGITS}
use Rattle.lard_ranges.specs.declared.reading.Range.{Range}
use Rattle.lard_ranges.specs.declared.reading.Range.TheVariants.{From, Suffix}

-- first-pos, last-pos and suffix-length are 1*DIGIT, of which as many as 18 are read
pub record SpellsNumber (text : List ℕ) (n : ℕ) : Type 0 where
  pub numeral : IsNumeral 10 text
  pub few : length text ≤ MAX_DIGITS
  pub value : digits_value 10 text ≡ n

-- int-range = first-pos "-" [ last-pos ], in which the last position is not before the first; suffix-range = "-" suffix-length
abbrev pub SpellsSpec : List ℕ → Range → Type 0
SpellsSpec spec (From first None) = (a : List ℕ) × SpellsNumber a first × (spec ≡ a ++ codes "-")
SpellsSpec spec (From first (Some last)) = (a b : List ℕ) × SpellsNumber a first × SpellsNumber b last × (first ≤ last) × (spec ≡ a ++ codes "-" ++ b)
SpellsSpec spec (Suffix len) = (b : List ℕ) × SpellsNumber b len × (spec ≡ codes "-" ++ b)

-- ranges-specifier = range-unit "=" range-set, whose unit is `bytes` in any case of its letters and whose set is one range, between spaces and tabs
pub record SpellsRange (value : List ℕ) (range : Range) : Type 0 where
  pub before : List ℕ
  pub unit : List ℕ
  pub spec : List ℕ
  pub behind : List ℕ
  pub blank_before : AllPass is_ows before
  pub blank_behind : AllPass is_ows behind
  pub bytes : str_to_ascii_lowercase unit ≡ codes "bytes"
  pub asks : SpellsSpec spec range
  pub spelled : value ≡ before ++ unit ++ codes "=" ++ spec ++ behind
