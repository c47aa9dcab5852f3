-- Which nodes serve a target: pairs of a target and its server set, in the order of their first assignments.
use Rattle.std.specs.Prelude.{ℕ, ◌-◌, ◌^◌, Bool, List, map, Option, is_some, unwrap_or, bit_or, bit_xor, Vec, if◌then◌else◌}
use Rattle.std.specs.declared.alloc.Global.{Global}
use Rattle.std.specs.Str.{bytes_eq}
use Rattle.std.specs.Map.{lookup}
use Rattle.indexmap.specs.IndexMap.{insert_entry}
use Rattle.lard_base.specs.declared.ids.Millis.{Millis}
use Rattle.lard_sets.specs.declared.sets.ServerSet.{ServerSet}

-- the pairs that the entries of a map of vectors are seen as
abbrev pub sets_shown : List (Vec ℕ Global × ServerSet) → List (List ℕ × ServerSet)
sets_shown entries = map (λ e. (e.0.items, e.1)) entries

-- members with a node among them, and without it
abbrev pub with_member : ℕ → ℕ → ℕ
with_member members n = bit_or members (2 ^ (n - 1))

abbrev pub without_member : ℕ → ℕ → ℕ
without_member members n = bit_xor (bit_or members (2 ^ (n - 1))) (2 ^ (n - 1))

-- no node serves it, and this never changed
abbrev pub no_servers : ServerSet
no_servers = record { members = 0; modified = record { 0 = 0 } }

-- the place that is kept for a target, if there is one
abbrev pub place : List (List ℕ × ServerSet) → List ℕ → Option ServerSet
place sets target = lookup (bytes_eq target) sets

-- a target has a place
abbrev pub has_place : List (List ℕ × ServerSet) → List ℕ → Bool
has_place sets target = is_some (place sets target)

-- the server set of a target
abbrev pub set_of : List (List ℕ × ServerSet) → List ℕ → ServerSet
set_of sets target = unwrap_or (place sets target) no_servers

-- a target's set in its place, which is the last where it had none
abbrev pub put : List (List ℕ × ServerSet) → List ℕ → ServerSet → List (List ℕ × ServerSet)
put sets target set = insert_entry bytes_eq sets target set

-- a target has a place, and no set has changed
abbrev pub touched : List (List ℕ × ServerSet) → List ℕ → List (List ℕ × ServerSet)
touched sets target = put sets target (set_of sets target)

-- a node serves a target from now on
abbrev pub added : List (List ℕ × ServerSet) → List ℕ → ℕ → Millis → List (List ℕ × ServerSet)
added sets target n now = put sets target (record { members = with_member (set_of sets target).members n; modified = now })

-- a node serves a target no longer
abbrev pub removed : List (List ℕ × ServerSet) → List ℕ → ℕ → Millis → List (List ℕ × ServerSet)
removed sets target n now =
    if has_place sets target then put sets target (record { members = without_member (set_of sets target).members n; modified = now })
    else sets

-- a node serves no target any longer, which is no modification
abbrev pub sets_closed : List (List ℕ × ServerSet) → ℕ → List (List ℕ × ServerSet)
sets_closed sets n = map (λ e. (e.0, record e.1 { members = without_member e.1.members n })) sets
