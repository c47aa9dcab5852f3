-- The path that a request's target asks for (RFC 9112, 3.2).
use Rattle.std.specs.Prelude.{ℕ, Bool, ◌||◌, List, take, drop, codes, Option, Some, None, nat_eq, nat_lt, if◌then◌else◌}
use Rattle.std.specs.List.{before_first, starts_with, position_or_len}
use Rattle.std.specs.Str.{str_eq_ignore_ascii_case}

abbrev pub is_slash : ℕ → Bool
is_slash b = nat_eq b 47

abbrev pub is_query : ℕ → Bool
is_query b = nat_eq b 63

-- the path of origin-form ends before the first `?` (3.2.1)
abbrev pub without_query : List ℕ → List ℕ
without_query target = before_first is_query target

abbrev pub ends_authority : ℕ → Bool
ends_authority b = is_slash b || is_query b

-- how many bytes an authority has: those before the first `/` or `?`
abbrev pub authority_len : List ℕ → ℕ
authority_len rest = position_or_len ends_authority rest

-- the path behind an authority is `/` where none begins there
abbrev pub path_behind : List ℕ → List ℕ
path_behind rest = if starts_with nat_eq rest (codes "/") then without_query rest else codes "/"

-- absolute-form, behind its `http://`, names an authority first (3.2.2)
abbrev pub absolute_path : List ℕ → Option (List ℕ)
absolute_path rest = if nat_lt 0 (authority_len rest) then Some (path_behind (drop (authority_len rest) rest)) else None

-- the path of a target in origin-form or absolute-form
unfoldable pub path_of : List ℕ → Option (List ℕ)
path_of target =
    if starts_with nat_eq target (codes "/") then Some (without_query target)
    else (if str_eq_ignore_ascii_case (codes "http://") (take 7 target) then absolute_path (drop 7 target)
    else None)
