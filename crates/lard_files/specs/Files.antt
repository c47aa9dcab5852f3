-- The files of a run: pairs of a path and its bytes, in the order in which they were added, and which may be added.
use Rattle.std.specs.Prelude.{◌≡◌, ℕ, ◌+◌, ◌≤◌, Bool, List, map, length, sum_by, Option, is_some, Result, Ok, Err, Vec, nat_lt, if◌then◌else◌}
use Rattle.std.specs.declared.alloc.Global.{Global}
use Rattle.std.specs.Str.{bytes_eq}
use Rattle.std.specs.Map.{lookup}
use Rattle.lard_base.specs.declared.limits.TheConstants.{MAX_ALL_FILES_BYTES, MAX_FILES, MAX_FILE_BYTES, MAX_PATH_BYTES}
use Rattle.lard_files.specs.declared.fault.FileFault.{FileFault}
use Rattle.lard_files.specs.declared.fault.FileFault.TheVariants.{Repeated, TooLong, TooMany, TooMuch, NoMemory}

-- the pairs that the entries of a map of vectors are seen as
abbrev pub files_shown : List (Vec ℕ Global × List ℕ) → List (List ℕ × List ℕ)
files_shown entries = map (λ e. (e.0.items, e.1)) entries

-- the bytes of the file with a path, if there is one
abbrev pub file_at : List (List ℕ × List ℕ) → List ℕ → Option (List ℕ)
file_at files path = lookup (bytes_eq path) files

-- the lengths of all files, added up
abbrev pub files_total : List (List ℕ × List ℕ) → ℕ
files_total files = sum_by (λ f. length f.1) files

-- a path that a file may have: 1 to 1,024 bytes
abbrev pub IsPath : List ℕ → Type 0
IsPath path = (1 ≤ length path) × (length path ≤ MAX_PATH_BYTES)

-- the bytes that a file may have: at most 2^20
abbrev pub IsContent : List ℕ → Type 0
IsContent bytes = length bytes ≤ MAX_FILE_BYTES

-- a file that may be kept
abbrev pub IsFile : List ℕ × List ℕ → Type 0
IsFile (path, bytes) = IsPath path × IsContent bytes

-- the first fault of one more file of len bytes, beside `count` files with `sum` bytes in all; `there` where one of them has its path
abbrev pub first_fault : Bool → ℕ → ℕ → ℕ → Result (Unit {0}) FileFault
first_fault there count sum len =
    if there then Err Repeated
    else if nat_lt MAX_FILE_BYTES len then Err (TooLong len)
    else if nat_lt MAX_FILES (count + 1) then Err (TooMany (count + 1))
    else if nat_lt MAX_ALL_FILES_BYTES (sum + len) then Err (TooMuch (sum + len))
    else Ok tt

-- whether a file of len bytes may be added under a path
abbrev pub add_check : List (List ℕ × List ℕ) → List ℕ → ℕ → Result (Unit {0}) FileFault
add_check files path len = first_fault (is_some (file_at files path)) (length files) (files_total files) len

-- what an addition answers: the fault of the check where there is one; else it is done, or memory ran out
abbrev pub AnswersAddition : Result (Unit {0}) FileFault → Result (Unit {0}) FileFault → Type 0
AnswersAddition given (Ok done) = given ≡ Ok tt
AnswersAddition given (Err NoMemory) = given ≡ Ok tt
AnswersAddition given (Err fault) = given ≡ Err fault
