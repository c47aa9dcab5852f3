-- The targets of a trace: pairs of a path and what is kept of it, in the order in which the files were added.
use Rattle.std.specs.Prelude.{◌≡◌, ℕ, List, map, length, sum_by, Option, None, is_some, Result, Vec}
use Rattle.std.specs.declared.alloc.Global.{Global}
use Rattle.std.specs.List.{AllByRecursion}
use Rattle.std.specs.Str.{bytes_eq}
use Rattle.std.specs.Map.{lookup, set_value}
use Rattle.lard_files.specs.Files.{first_fault}
use Rattle.lard_files.specs.declared.fault.FileFault.{FileFault}
use Rattle.lard_sets.specs.Sets.{no_servers}
use Rattle.lard_lab.specs.declared.targets.Target.{Target}

-- the pairs that the entries of a map of vectors are seen as
abbrev pub targets_shown : List (Vec ℕ Global × Target) → List (List ℕ × Target)
targets_shown entries = map (λ e. (e.0.items, e.1)) entries

-- what is kept of a path, where it is that of a file
abbrev pub target_at : List (List ℕ × Target) → List ℕ → Option Target
target_at targets path = lookup (bytes_eq path) targets

-- the sizes of all files, added up
abbrev pub targets_total : List (List ℕ × Target) → ℕ
targets_total targets = sum_by (λ t. t.1.size) targets

-- whether a file of so many bytes may be added under a path, by the rules for files of a run
abbrev pub target_check : List (List ℕ × Target) → List ℕ → ℕ → Result (Unit {0}) FileFault
target_check targets path size = first_fault (is_some (target_at targets path)) (length targets) (targets_total targets) size

-- no request was for it yet
abbrev pub fresh_target : ℕ → Target
fresh_target size = record { size = size; server = None; set = no_servers }

-- no request was for any of them yet
abbrev pub AreFresh : List (List ℕ × Target) → Type 0
AreFresh targets = AllByRecursion (λ t. t.1 ≡ fresh_target t.1.size) targets

-- this is kept of a path, where it is that of a file
abbrev pub with_target : List (List ℕ × Target) → List ℕ → Target → List (List ℕ × Target)
with_target targets path target = set_value (bytes_eq path) targets target
