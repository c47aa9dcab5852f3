-- Which part of a file a range is (RFC 9110, 14.1.2).
use Rattle.std.specs.Prelude.{ℕ, ◌+◌, ◌-◌, ◌≤◌, min, Option, Some, None, nat_eq, nat_le, if◌then◌else◌}
use Rattle.lard_ranges.specs.declared.parts.Part.{Part}
use Rattle.lard_ranges.specs.declared.parts.Part.TheVariants.{Whole, Slice, Unsatisfiable}
use Rattle.lard_ranges.specs.declared.reading.Range.{Range}
use Rattle.lard_ranges.specs.declared.reading.Range.TheVariants.{From, Suffix}

-- the last byte of a range from a first byte on, in a file of n bytes
abbrev pub last_within : Option ℕ → ℕ → ℕ
last_within None n = n - 1
last_within (Some last) n = min last (n - 1)

-- the part of a file of n bytes, of which there is one at least
abbrev pub satisfied : Range → ℕ → Part
satisfied (From first last) n = if nat_le n first then Unsatisfiable else Slice first (last_within last n)
satisfied (Suffix len) n = if nat_eq len 0 then Unsatisfiable else Slice (n - len) (n - 1)

-- the part of a file of n bytes; one without bytes is whole
unfoldable pub applied : Range → ℕ → Part
applied range n = if nat_eq n 0 then Whole else satisfied range n

-- ---- what a range asks for, byte by byte

-- the range asks for the byte at a place, of n bytes in all
abbrev pub AsksForByte : Range → ℕ → ℕ → Type 0
AsksForByte (From first None) n place = first ≤ place
AsksForByte (From first (Some last)) n place = (first ≤ place) × (place ≤ last)
AsksForByte (Suffix len) n place = n ≤ place + len

-- the part has the byte at a place
abbrev pub HasByte : Part → ℕ → Type 0
HasByte Whole place = Unit {0}
HasByte (Slice first last) place = (first ≤ place) × (place ≤ last)
HasByte Unsatisfiable place = ⊥
