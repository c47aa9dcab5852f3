-- Words are read as a file exactly where they spell it.
use Rattle.std.proofs.Common.{◌≡◌, ◌≢◌, ◌⊎◌, inl, inr, ℕ, ◌≤◌, ◌^◌, List, [], ◌∷◌, length, Bool, true, false, cond, Some, None, Result, Ok, Err, refl, sym, ap, ◌∙◌, subst, arith}
use Rattle.std.specs.Prelude.{decimal, codes, bytes_eq, replicate}
use Rattle.std.proofs.lemmas.Bool.{cases_eq}
use Rattle.hex.proofs.HexLemmas.{decode_of-ok}
use Rattle.hex.specs.Hex.{decode_of}
use Rattle.hex.specs.declared.error.FromHexError.TheVariants.{OddLength}
use Rattle.hex.specs.declared.error.FromHexError.{FromHexError}
use Rattle.lard_schedule.specs.declared.item.Item.{Item}
use Rattle.lard_schedule.specs.declared.item.Item.TheVariants.{File, Go}
use Rattle.lard_schedule.specs.Words.{◌>>=◌, word_then, number_then, ended}
use Rattle.lard_schedule.specs.Events.{some_bytes_of}
use Rattle.lard_schedule.specs.Files.{byte_of, word_content, file_item, file_item_of, fill_of, first_byte, is_file_path, path_and_word, path_then, byte_run}
use Rattle.lard_schedule.specs.Laws.{SpellsFile, SpellsItem, IsBefore, MayStand}
use Rattle.lard_schedule.specs.declared.reader.Reader.{Reader}
use Rattle.lard_schedule.specs.Reader.{HasRange}
use Rattle.lard_schedule.proofs.Found.{bind_some, some_same, cond_some, ended_some, word_spelled, number_then_spelled, number_then_read}
use Rattle.lard_schedule.proofs.Places.{text_is, some_bytes_spelled, some_bytes_read}

-- the words spell the item, it may stand here, and it is one that a line can have
abbrev pub Stands : Reader → List (List ℕ) → Item → Type 0
Stands reader words what = SpellsItem words what × MayStand reader what × HasRange what

-- ---- the parts

path_spelled : (words : List (List ℕ)) (found : List ℕ × List (List ℕ)) → path_then words ≡ Some found → (words ≡ found.0 ∷ found.1) × (is_file_path found.0 ≡ true)
unfolding path_then
path_spelled words found e =
    let path = bind_some (word_then words) _ found e in
    let tested = cond_some (is_file_path path.0.0) path.0 found path.2 in
    subst (λ (p : List ℕ × List (List ℕ)). (words ≡ p.0 ∷ p.1) × (is_file_path p.0 ≡ true)) tested.1 (word_spelled words path.0 path.1, tested.0)

path_and_word_spelled : (words : List (List ℕ)) (found : List ℕ × List ℕ) → path_and_word words ≡ Some found
    → (words ≡ found.0 ∷ found.1 ∷ []) × (is_file_path found.0 ≡ true)
unfolding path_and_word
path_and_word_spelled words found e =
    let path = bind_some (path_then words) _ found e in
    let word = bind_some (word_then path.0.1) _ found path.2 in
    let end = ended_some word.0.1 (path.0.0, word.0.0) found word.2 in
    let spelled = path_spelled words path.0 path.1 in
    let second = word_spelled path.0.1 word.0 word.1 ∙ ap (λ w. word.0.0 ∷ w) end.0 in
    subst (λ (p : List ℕ × List ℕ). (words ≡ p.0 ∷ p.1 ∷ []) × (is_file_path p.0 ≡ true)) end.1 (spelled.0 ∙ ap (λ w. path.0.0 ∷ w) second, spelled.1)

path_read : (path : List ℕ) (words : List (List ℕ)) → is_file_path path ≡ true → path_then (path ∷ words) ≡ Some (path, words)
unfolding path_then
path_read path words e = rw e refl

path_and_word_read : (path word : List ℕ) → is_file_path path ≡ true → path_and_word (path ∷ word ∷ []) ≡ Some (path, word)
unfolding path_and_word
path_and_word_read path word e = rw (path_read path (word ∷ []) e) refl

-- ---- one byte

byte_even : (word : List ℕ) → length word ≡ 2 → byte_of word ≡ first_byte (decode_of word)
byte_even word e = grind (arith)

byte_other : (word : List ℕ) → length word ≢ 2 → byte_of word ≡ None
byte_other word ne = grind (arith)

-- of a decoded text with two digits, the first byte is the whole
first_alone : (word : List ℕ) (byte : ℕ) → length word ≡ 2 → first_byte (decode_of word) ≡ Some byte → decode_of word ≡ Ok (byte ∷ [])
first_alone word byte two e = go (decode_of word) refl e where
  go : (r : Result (List ℕ) FromHexError) → decode_of word ≡ r → first_byte r ≡ Some byte → r ≡ Ok (byte ∷ [])
  go (Err x) f g = let none : None ≡ Some byte = g in cc
  go (Ok []) f g = let none : None ≡ Some byte = g in cc
  go (Ok (b ∷ [])) f g = ap (λ k. Ok (k ∷ [])) (some_same b byte g)
  go (Ok (b ∷ d ∷ ds)) f g = let twice = (decode_of-ok word (b ∷ d ∷ ds) f).2 in absurd (omega (arith, twice, two))

byte_spelled : (word : List ℕ) (byte : ℕ) → byte_of word ≡ Some byte → decode_of word ≡ Ok (byte ∷ [])
byte_spelled word byte e =
    elim (cases_eq (length word) 2) [
      | inl two ↦ first_alone word byte two (sym (byte_even word two) ∙ e)
      | inr other ↦ let none : None ≡ Some byte = sym (byte_other word other) ∙ e in cc
    ]

byte_read : (word : List ℕ) (byte : ℕ) → decode_of word ≡ Ok (byte ∷ []) → byte_of word ≡ Some byte
byte_read word byte e = byte_even word (decode_of-ok word (byte ∷ []) e).2 ∙ ap first_byte e

-- ---- a file

abbrev IsContent : List ℕ → List ℕ → Type 0
IsContent word bytes = ((word ≡ codes "-") × (bytes ≡ [])) ⊎ ((decode_of word ≡ Ok bytes) × (1 ≤ length bytes))

content_spelled : (word bytes : List ℕ) → word_content word ≡ Some bytes → IsContent word bytes
content_spelled word bytes e = go (bytes_eq word (codes "-")) refl e where
  go : (t : Bool) → bytes_eq word (codes "-") ≡ t → cond t (Some []) (some_bytes_of word) ≡ Some bytes → IsContent word bytes
  go true f g = inl (text_is _ _ f, sym (some_same [] bytes g))
  go false f g = inr (some_bytes_spelled word bytes g)

file_spelled : (reader : Reader) (words : List (List ℕ)) (what : Item) → IsBefore reader.stage → file_item_of words ≡ Some what
    → Stands reader (codes "file" ∷ words) what
unfolding file_item_of
file_spelled reader words what before e =
    let file = bind_some (path_and_word words) _ what e in
    let bytes = bind_some (word_content file.0.1) _ what file.2 in
    let spelled = path_and_word_spelled words file.0 file.1 in
    let first : codes "file" ∷ words ≡ codes "file" ∷ file.0.0 ∷ file.0.1 ∷ [] = ap (λ w. codes "file" ∷ w) spelled.0 in
    subst (Stands reader (codes "file" ∷ words)) (some_same (File file.0.0 bytes.0) what bytes.2)
    (go file.0.0 file.0.1 bytes.0 first (content_spelled file.0.1 bytes.0 bytes.1), before, spelled.1)
  where
    go : (path word bytes : List ℕ) → codes "file" ∷ words ≡ codes "file" ∷ path ∷ word ∷ [] → IsContent word bytes → SpellsFile (codes "file" ∷ words) path bytes
    go path word bytes f (inl dash) = inr (inl (f ∙ ap (λ w. codes "file" ∷ path ∷ w ∷ []) dash.0, dash.1))
    go path word bytes f (inr read) = inl (word, f, read.0, read.1)

-- a repeated byte, and how often
run_spelled : (words : List (List ℕ)) (run : ℕ × ℕ) → byte_run words ≡ Some run
    → (digits : List ℕ) × (words ≡ decimal run.0 ∷ digits ∷ []) × (run.0 ≤ 2 ^ 26) × (decode_of digits ≡ Ok (run.1 ∷ []))
unfolding byte_run
run_spelled words run e =
    let n = bind_some (number_then (2 ^ 26) words) _ run e in
    let word = bind_some (word_then n.0.1) _ run n.2 in
    let byte = bind_some (byte_of word.0.0) _ run word.2 in
    let end = ended_some word.0.1 (n.0.0, byte.0) run byte.2 in
    let first = number_then_spelled (2 ^ 26) words n.0 (omega arith) n.1 in
    let second = word_spelled n.0.1 word.0 word.1 ∙ ap (λ w. word.0.0 ∷ w) end.0 in
    let read = byte_spelled word.0.0 byte.0 byte.1 in
    let P : ℕ × ℕ → Type 0 = λ p. (words ≡ decimal p.0 ∷ word.0.0 ∷ []) × (p.0 ≤ 2 ^ 26) × (decode_of word.0.0 ≡ Ok (p.1 ∷ [])) in
    let all = subst P end.1 (first.0 ∙ ap (λ w. decimal n.0.0 ∷ w) second, first.1, read) in
    (word.0.0, all.0, all.1, all.2)

fill_spelled : (reader : Reader) (words : List (List ℕ)) (what : Item) → IsBefore reader.stage → fill_of words ≡ Some what
    → Stands reader (codes "fill" ∷ words) what
unfolding fill_of
fill_spelled reader words what before e =
    let path = bind_some (path_then words) _ what e in
    let run = bind_some (byte_run path.0.1) _ what path.2 in
    let first = path_spelled words path.0 path.1 in
    let second = run_spelled path.0.1 run.0 run.1 in
    let all : codes "fill" ∷ words ≡ codes "fill" ∷ path.0.0 ∷ decimal run.0.0 ∷ second.0 ∷ [] =
    ap (λ w. codes "fill" ∷ w) (first.0 ∙ ap (λ w. path.0.0 ∷ w) second.1) in
    subst (Stands reader (codes "fill" ∷ words)) (some_same (File path.0.0 (replicate run.0.0 run.0.1)) what run.2)
    (inr (inr (run.0.0, run.0.1, second.0, all, second.2, second.3, refl)), before, first.1)

pub file_item_spelled : (reader : Reader) (words : List (List ℕ)) (what : Item) → IsBefore reader.stage → file_item words ≡ Some what → Stands reader words what
unfolding file_item
file_item_spelled reader [] what before e = let none : None ≡ Some what = e in cc
file_item_spelled reader (word ∷ words) what before e = of_file (bytes_eq word (codes "file")) refl e where
  -- what is said of the text's words holds of the word's
  named : (text : List ℕ) → bytes_eq word text ≡ true → Stands reader (text ∷ words) what → Stands reader (word ∷ words) what
  named text f s = subst (λ v. Stands reader (v ∷ words) what) (sym (text_is word text f)) s

  of_go : (t : Bool) → bytes_eq word (codes "go") ≡ t → cond t (ended words Go) None ≡ Some what → Stands reader (word ∷ words) what
  of_go false f g = let none : None ≡ Some what = g in cc
  of_go true f g =
      let end = ended_some words Go what g in
      named (codes "go") f (subst (Stands reader (codes "go" ∷ words)) end.1 (ap (λ w. codes "go" ∷ w) end.0, before, tt))

  of_fill : (t : Bool) → bytes_eq word (codes "fill") ≡ t → cond t (fill_of words) (cond (bytes_eq word (codes "go")) (ended words Go) None) ≡ Some what
      → Stands reader (word ∷ words) what
  of_fill false f g = of_go (bytes_eq word (codes "go")) refl g
  of_fill true f g = named (codes "fill") f (fill_spelled reader words what before g)

  of_file : (t : Bool) → bytes_eq word (codes "file") ≡ t
      → cond t (file_item_of words) (cond (bytes_eq word (codes "fill")) (fill_of words) (cond (bytes_eq word (codes "go")) (ended words Go) None)) ≡ Some what
      → Stands reader (word ∷ words) what
  of_file false f g = of_fill (bytes_eq word (codes "fill")) refl g
  of_file true f g = named (codes "file") f (file_spelled reader words what before g)

-- ---- and each file is read

content_read : (word bytes : List ℕ) → decode_of word ≡ Ok bytes → 1 ≤ length bytes → word_content word ≡ Some bytes
content_read word bytes e some = go (bytes_eq word (codes "-")) refl where
  go : (t : Bool) → bytes_eq word (codes "-") ≡ t → cond t (Some []) (some_bytes_of word) ≡ Some bytes
  go false f = some_bytes_read word bytes e some
  go true f = let odd : Err OddLength ≡ Ok bytes = ap decode_of (sym (text_is _ _ f)) ∙ e in cc

run_read : (n byte : ℕ) (digits : List ℕ) → n ≤ 2 ^ 26 → decode_of digits ≡ Ok (byte ∷ []) → byte_run (decimal n ∷ digits ∷ []) ≡ Some (n, byte)
unfolding byte_run
run_read n byte digits small e = rw (number_then_read (2 ^ 26) n (digits ∷ []) (omega arith) small, byte_read digits byte e) refl

pub file_read : (words : List (List ℕ)) (path bytes : List ℕ) → SpellsFile words path bytes → is_file_path path ≡ true → file_item words ≡ Some (File path bytes)
unfolding file_item file_item_of fill_of
file_read words path bytes (inl s) e = ap file_item s.1 ∙ rw (path_and_word_read path s.0 e, content_read s.0 bytes s.2 s.3) refl
file_read words path bytes (inr (inl s)) e =
    ap file_item s.0 ∙ ap (λ o. o >>= λ file. word_content file.1 >>= λ b. Some (File file.0 b)) (path_and_word_read path (codes "-") e) ∙ ap (λ b. Some (File path b)) (sym s.1)
file_read words path bytes (inr (inr s)) e =
    ap file_item s.3 ∙ rw (path_read path (decimal s.0 ∷ s.2 ∷ []) e, run_read s.0 s.1 s.2 s.4 s.5) refl ∙ ap (λ b. Some (File path b)) (sym s.6)

pub go_read : file_item (codes "go" ∷ []) ≡ Some Go
unfolding file_item
go_read = refl
