-- What the words of a file's line stand for.
use Rattle.std.specs.Prelude.{ℕ, Bool, ◌&&◌, not, nat_eq, List, [], ◌∷◌, Option, Some, None, Result, Ok, codes, bytes_eq, replicate, if◌then◌else◌}
use Rattle.std.specs.List.{list_all}
use Rattle.hex.specs.Hex.{decode_sized}
use Rattle.hex.specs.declared.error.FromHexError.{FromHexError}
use Rattle.lard_base.specs.declared.limits.TheConstants.{MAX_ALL_FILES_BYTES}
use Rattle.lard_schedule.specs.declared.item.Item.{Item}
use Rattle.lard_schedule.specs.declared.item.Item.TheVariants.{File, Go}
use Rattle.lard_schedule.specs.Words.{◌>>=◌, word_then, number_then, ended}
use Rattle.lard_schedule.specs.Events.{is_path, some_bytes_of}

abbrev pub is_no_question : ℕ → Bool
is_no_question b = not (nat_eq b 63)

-- a path of a file: a path without a question mark
abbrev pub is_file_path : List ℕ → Bool
is_file_path text = is_path text && list_all is_no_question text

unfoldable pub path_then : List (List ℕ) → Option (List ℕ × List (List ℕ))
path_then words = do
  path ← word_then words
  if is_file_path path.0 then Some path else None

-- a file's bytes in hexadecimal, or a dash where it has none
abbrev pub word_content : List ℕ → Option (List ℕ)
word_content word = if bytes_eq word (codes "-") then Some [] else some_bytes_of word

-- a path and one word
unfoldable pub path_and_word : List (List ℕ) → Option (List ℕ × List ℕ)
path_and_word words = do
  path ← path_then words
  word ← word_then path.1
  ended word.1 (path.0, word.0)

-- what comes after the word `file`
unfoldable pub file_item_of : List (List ℕ) → Option Item
file_item_of words = do
  file ← path_and_word words
  bytes ← word_content file.1
  Some (File file.0 bytes)

abbrev pub first_byte : Result (List ℕ) FromHexError → Option ℕ
first_byte (Ok (b ∷ bs)) = Some b
first_byte _ = None

-- one byte, in two hexadecimal digits
abbrev pub byte_of : List ℕ → Option ℕ
byte_of word = first_byte (decode_sized word 1)

-- how often a byte is repeated, and the byte
unfoldable pub byte_run : List (List ℕ) → Option (ℕ × ℕ)
byte_run words = do
  n ← number_then MAX_ALL_FILES_BYTES words
  word ← word_then n.1
  byte ← byte_of word.0
  ended word.1 (n.0, byte)

-- what comes after the word `fill`
unfoldable pub fill_of : List (List ℕ) → Option Item
fill_of words = do
  path ← path_then words
  run ← byte_run path.1
  Some (File path.0 (replicate run.0 run.1))

-- a file, or the end of the files
unfoldable pub file_item : List (List ℕ) → Option Item
file_item [] = None
file_item (word ∷ words) =
    if bytes_eq word (codes "file") then file_item_of words
    else (if bytes_eq word (codes "fill") then fill_of words
    else (if bytes_eq word (codes "go") then ended words Go else None))
