-- Fields that are kept by name.
use Rattle.std.specs.Prelude.{◌≡◌, ℕ, ◌+◌, ◌<◌, ◌≤◌, length, List, [], ◌∷◌, ◌++◌, map, filter}
use Rattle.std.specs.Str.{str_eq_ignore_ascii_case}
use Rattle.http_header.specs.FieldName.{IsHeaderName}
use Rattle.http_header.specs.HeaderMap.{Entries, get_all, value_count}

-- the values of the fields with a name, in order; a field is a name and a value
unfoldable pub values_named : List ℕ → List (List ℕ × List ℕ) → List (List ℕ)
values_named name fields = map (λ f. f.1) (filter (λ f. str_eq_ignore_ascii_case f.0 name) fields)

-- under each name that a field may have, the map has the values of these fields, in order
abbrev pub Keeps : Entries (List ℕ) → List (List ℕ × List ℕ) → Type 0
Keeps m fields = (name : List ℕ) → IsHeaderName name → get_all m name ≡ values_named name fields

-- the new map has this value behind those of the old one, under the field's name
abbrev pub KeepsMore : Entries (List ℕ) → Entries (List ℕ) → List ℕ → List ℕ → Type 0
KeepsMore old new field value = (name : List ℕ) → IsHeaderName name → get_all new name ≡ get_all old name ++ values_named name ((field, value) ∷ [])

-- the map takes one more field, under any name
abbrev pub HasRoomForField : Entries (List ℕ) → Type 0
HasRoomForField m = (length m < 24576) × (value_count m < 24576)

-- the map has one name and one value more, or fewer
abbrev pub GrowsByOne : Entries (List ℕ) → Entries (List ℕ) → Type 0
GrowsByOne old new = (length new ≤ length old + 1) × (value_count new ≤ value_count old + 1)
