-- How the value of a Range field is read (RFC 9110, 14.1.1, 14.1.2 and 14.2).
use Rattle.std.specs.Prelude.{ℕ, ◌+◌, ◌≤◌, Bool, ◌&&◌, List, [], ◌∷◌, length, take, drop, codes, Option, Some, None, nat_eq, nat_le, nat_lt, if◌then◌else◌}
use Rattle.std.specs.List.{list_all, position}
use Rattle.std.specs.Char.{is_ascii_digit}
use Rattle.std.specs.Str.{str_eq_ignore_ascii_case}
use Rattle.std.specs.Str.Parse.{digits_value}
use Rattle.httparse.specs.Grammar.{trim_ows}
use Rattle.lard_ranges.specs.declared.reading.TheConstants.{MAX_DIGITS}
use Rattle.lard_ranges.specs.declared.reading.Range.{Range}
use Rattle.lard_ranges.specs.declared.reading.Range.TheVariants.{From, Suffix}

-- a number has 1 to 18 digits, so that it fits 64 bits; zeros may stand in front
abbrev pub is_number : List ℕ → Bool
is_number digits = nat_lt 0 (length digits) && nat_le (length digits) MAX_DIGITS && list_all is_ascii_digit digits

unfoldable pub number_told : List ℕ → Option ℕ
number_told digits = if is_number digits then Some (digits_value 10 digits) else None

-- the last bytes, so many
abbrev pub suffix_of : Option ℕ → Option Range
suffix_of None = None
suffix_of (Some len) = Some (Suffix len)

-- with a last byte, which is not before the first
abbrev pub up_to : ℕ → Option ℕ → Option Range
up_to first None = None
up_to first (Some last) = if nat_lt last first then None else Some (From first (Some last))

-- from a first byte on, with what stands behind the dash
abbrev pub starting : ℕ → List ℕ → Option Range
starting first [] = Some (From first None)
starting first (b ∷ bs) = up_to first (number_told (b ∷ bs))

abbrev pub starting_at : Option ℕ → List ℕ → Option Range
starting_at None behind = None
starting_at (Some first) behind = starting first behind

-- what stands before the first dash, and behind it
abbrev pub spec_around : List ℕ → List ℕ → Option Range
spec_around [] behind = suffix_of (number_told behind)
spec_around (b ∷ bs) behind = starting_at (number_told (b ∷ bs)) behind

abbrev pub is_dash : ℕ → Bool
is_dash b = nat_eq b 45

abbrev pub spec_at : List ℕ → Option ℕ → Option Range
spec_at spec None = None
spec_at spec (Some dash) = spec_around (take dash spec) (drop (dash + 1) spec)

-- the unit, in any case of its letters, and the sign behind it
abbrev pub is_bytes_unit : List ℕ → Bool
is_bytes_unit front = str_eq_ignore_ascii_case (codes "bytes=") front

-- a unit and a set of one range
unfoldable pub set_read : List ℕ → Option Range
set_read set = if is_bytes_unit (take 6 set) then spec_at (drop 6 set) (position is_dash (drop 6 set)) else None

-- the range that a value asks for, without the spaces and tabs around it; one that is read as none may be passed over
abbrev pub range_read : List ℕ → Option Range
range_read value = set_read (trim_ows value)

-- the last byte is not before the first
abbrev pub IsForward : Range → Type 0
IsForward (From first None) = Unit {0}
IsForward (From first (Some last)) = first ≤ last
IsForward (Suffix len) = Unit {0}
