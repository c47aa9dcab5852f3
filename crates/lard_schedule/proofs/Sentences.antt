-- Words with single spaces between them, and their line.
use Rattle.std.proofs.Common.{◌≡◌, inl, inr, ℕ, ◌≤◌, ◌<◌, ◌^◌, List, [], ◌∷◌, ◌++◌, length, Bool, true, false, cond, ◌&&◌, Ok, refl, sym, ap, ◌∙◌, append_assoc, subst, arith}
use Rattle.std.specs.Prelude.{nat_eq, nat_lt, decimal, codes}
use Rattle.std.specs.List.{fold, list_all, onto_first, AllPass}
use Rattle.std.specs.Str.Parse.{AllDigits}
use Rattle.std.proofs.lemmas.Bool.Decides.{nat_tests}
use Rattle.std.proofs.lemmas.Fmt.{decimal_is_IsNumeral}
use Rattle.std.proofs.lemmas.List.Elements.{All-head, All-tail}
use Rattle.std.proofs.lemmas.Str.Parse.{digit_from_value}
use Rattle.hex.proofs.HexLemmas.{decode_of-ok}
use Rattle.hex.specs.Hex.{decode_of, is_hex_digit}
use Rattle.lard_base.specs.Spelling.{key_word, place_word, sentence, spaced}
use Rattle.lard_base.specs.declared.config.Key.{Key}
use Rattle.lard_base.specs.declared.config.Key.TheVariants.{Nodes, Low, High, Age, Idle, Over, Miss, Cache, Stream}
use Rattle.lard_base.specs.declared.place.Place.{Place}
use Rattle.lard_base.specs.declared.place.Place.TheVariants.{Front, Node, Client}
use Rattle.lard_base.specs.declared.event.Event.{Event}
use Rattle.lard_base.specs.declared.event.Event.TheVariants.{Open, Get, Write, Shut, Abort, Hold, Take, Deliver, Lose, Timer, Disk, Drain, Clock, Settle, Inject}
use Rattle.lard_schedule.specs.declared.item.Item.{Item}
use Rattle.lard_schedule.specs.declared.item.Item.TheVariants as item
use Rattle.lard_schedule.specs.Words.{words_of, is_space}
use Rattle.lard_schedule.specs.Events.{IsInLineRange, IsPlace, is_path, is_visible}
use Rattle.lard_schedule.specs.Files.{is_file_path, is_no_question}
use Rattle.lard_schedule.specs.Laws.{AreWords, HasNoSpace, HaveNoSpace, Spells, SpellsFile, SpellsItem}
use Rattle.lard_schedule.specs.Reader.{HasRange}
use Rattle.lard_schedule.proofs.Cuts.{first_part}

-- ---- words without a space

no_space_digit : (b : ℕ) → 48 ≤ b → is_space b ≡ false
no_space_digit b most = grind (arith, nat_tests, most)

no_space_digits : (ds : List ℕ) → AllDigits 10 ds → HasNoSpace ds
no_space_digits [] all = tt
no_space_digits (b ∷ bs) all = (no_space_digit b (digit_from_value b all.0).0, no_space_digits bs all.1)

no_space_number : (n : ℕ) → n < 2 ^ 64 → HasNoSpace (decimal n)
no_space_number n small = no_space_digits (decimal n) (decimal_is_IsNumeral n small).0.1

no_space_visible : (bs : List ℕ) → list_all is_visible bs ≡ true → HasNoSpace bs
no_space_visible [] all = tt
no_space_visible (b ∷ bs) all = go (no_space_visible bs) (is_visible b) refl all where
  go : (list_all is_visible bs ≡ true → HasNoSpace bs) → (t : Bool) → is_visible b ≡ t → t && list_all is_visible bs ≡ true → HasNoSpace (b ∷ bs)
  go more false e f = let none : false ≡ true = f in cc
  go more true e f = let space : is_space b ≡ false = grind (arith, nat_tests, e) in (space, more f)

no_space_path : (path : List ℕ) → is_path path ≡ true → HasNoSpace path
no_space_path [] e = let none : false ≡ true = e in cc
no_space_path (b ∷ bs) e = go (nat_eq b 47) refl (nat_lt (length bs) 1024) e where
  go : (t : Bool) → nat_eq b 47 ≡ t → (s : Bool) → t && s && list_all is_visible bs ≡ true → HasNoSpace (b ∷ bs)
  go false f s g = let none : false ≡ true = g in cc
  go true f false g = let none : false ≡ true = g in cc
  go true f true g = let space : is_space b ≡ false = grind (arith, nat_tests, f) in (space, no_space_visible bs g)

no_space_file_path : (path : List ℕ) → is_file_path path ≡ true → HasNoSpace path
no_space_file_path path e = no_space_path path (go (is_path path) e) where
  go : (t : Bool) → t && list_all is_no_question path ≡ true → t ≡ true
  go true f = refl
  go false f = f

no_space_hex_digit : (b : ℕ) → is_hex_digit b ≡ true → (t : Bool) → is_space b ≡ t → t ≡ false
no_space_hex_digit b e false f = refl
no_space_hex_digit b e true f =
    let space : b ≡ 32 = grind (arith, nat_tests, f) in
    let none : false ≡ true = subst (λ k. is_hex_digit k ≡ true) space e in cc

no_space_hex_digits : (ds : List ℕ) → AllPass is_hex_digit ds → HasNoSpace ds
no_space_hex_digits [] all = tt
no_space_hex_digits (b ∷ bs) all =
    let P : ℕ → Type 0 = λ c. is_hex_digit c ≡ true in
    (no_space_hex_digit b (All-head P b bs all) (is_space b) refl, no_space_hex_digits bs (All-tail P b bs all))

no_space_hex : (digits bytes : List ℕ) → decode_of digits ≡ Ok bytes → HasNoSpace digits
no_space_hex digits bytes e = no_space_hex_digits digits (decode_of-ok digits bytes e).1

no_space_place : (place : Place) → IsPlace place → HasNoSpace (place_word place)
no_space_place Front range = no_space_visible (codes "front") refl
no_space_place (Node n) range = (refl, no_space_number n (omega (arith, range.1)))
no_space_place (Client c) range = (refl, no_space_number c (omega (arith, range.1)))

no_space_key : (key : Key) → HasNoSpace (key_word key)
no_space_key Nodes = no_space_visible (codes "nodes") refl
no_space_key Low = no_space_visible (codes "low") refl
no_space_key High = no_space_visible (codes "high") refl
no_space_key Age = no_space_visible (codes "age") refl
no_space_key Idle = no_space_visible (codes "idle") refl
no_space_key Over = no_space_visible (codes "over") refl
no_space_key Miss = no_space_visible (codes "miss") refl
no_space_key Cache = no_space_visible (codes "cache") refl
no_space_key Stream = no_space_visible (codes "stream") refl

-- ---- the words of a line have no space

-- a verb and one number
verb_number : (verb : List ℕ) (n : ℕ) → list_all is_visible verb ≡ true → n < 2 ^ 64 → AreWords (verb ∷ decimal n ∷ [])
verb_number verb n visible small = (no_space_visible verb visible, (no_space_number n small, tt))

-- a verb, a client, and bytes
verb_bytes : (verb : List ℕ) (c : ℕ) (digits bytes : List ℕ) → list_all is_visible verb ≡ true → c ≤ 16384 → decode_of digits ≡ Ok bytes
    → AreWords (verb ∷ decimal c ∷ digits ∷ [])
verb_bytes verb c digits bytes visible small e = (no_space_visible verb visible, (no_space_number c (omega arith), (no_space_hex digits bytes e, tt)))

event_words_apart : (words : List (List ℕ)) (event : Event) → Spells words event → IsInLineRange event → AreWords words
event_words_apart words (Open c isn iss wnd mss) e range =
    let numbers : HaveNoSpace (decimal c ∷ decimal isn ∷ decimal iss ∷ decimal wnd ∷ decimal mss ∷ []) = (
      no_space_number c (omega (arith, range.0.1)),
      (no_space_number isn (omega (arith, range.1)), (no_space_number iss (omega (arith, range.2)), (no_space_number wnd (omega (arith, range.3.1)), (no_space_number mss (omega (arith, range.4.1)), tt)))),
    ) in
    subst AreWords (sym e) (no_space_visible (codes "open") refl, numbers)
event_words_apart words (Get c path) e range =
    subst AreWords (sym e) (no_space_visible (codes "get") refl, (no_space_number c (omega (arith, range.0.1)), (no_space_path path range.1, tt)))
event_words_apart words (Write c bytes) e range = subst AreWords (sym e.1) (verb_bytes (codes "write") c e.0 bytes refl range.0.1 e.2)
event_words_apart words (Shut c) e range = subst AreWords (sym e) (verb_number (codes "shut") c refl (omega (arith, range.1)))
event_words_apart words (Abort c) e range = subst AreWords (sym e) (verb_number (codes "abort") c refl (omega (arith, range.1)))
event_words_apart words (Hold c) e range = subst AreWords (sym e) (verb_number (codes "hold") c refl (omega (arith, range.1)))
event_words_apart words (Take c) e range = subst AreWords (sym e) (verb_number (codes "take") c refl (omega (arith, range.1)))
event_words_apart words (Deliver k) e range = subst AreWords (sym e) (verb_number (codes "deliver") k refl (omega (arith, range)))
event_words_apart words (Lose k) e range = subst AreWords (sym e) (verb_number (codes "lose") k refl (omega (arith, range)))
event_words_apart words (Timer place c) e range =
    subst AreWords (sym e) (no_space_visible (codes "timer") refl, (no_space_place place range.0, (no_space_number c (omega (arith, range.1.1)), tt)))
event_words_apart words (Disk n j) e range =
    subst AreWords (sym e) (no_space_visible (codes "disk") refl, (no_space_number n (omega (arith, range.0)), (no_space_number j (omega (arith, range.1)), tt)))
event_words_apart words (Drain n) e range = subst AreWords (sym e) (verb_number (codes "drain") n refl (omega (arith, range)))
event_words_apart words (Clock ms) e range = subst AreWords (sym e) (verb_number (codes "clock") ms refl (omega (arith, range)))
event_words_apart words (Settle rounds) e range = subst AreWords (sym e) (verb_number (codes "settle") rounds refl (omega (arith, range.1)))
event_words_apart words (Inject c bytes) e range = subst AreWords (sym e.1) (verb_bytes (codes "inject") c e.0 bytes refl range.0.1 e.2)

file_words_apart : (words : List (List ℕ)) (path bytes : List ℕ) → SpellsFile words path bytes → is_file_path path ≡ true → AreWords words
file_words_apart words path bytes (inl s) e =
    subst AreWords (sym s.1) (no_space_visible (codes "file") refl, (no_space_file_path path e, (no_space_hex s.0 bytes s.2, tt)))
file_words_apart words path bytes (inr (inl s)) e =
    subst AreWords (sym s.0) (no_space_visible (codes "file") refl, (no_space_file_path path e, (no_space_visible (codes "-") refl, tt)))
file_words_apart words path bytes (inr (inr s)) e =
    subst AreWords (sym s.3) (
      no_space_visible (codes "fill") refl,
      (no_space_file_path path e, (no_space_number s.0 (omega (arith, s.4)), (no_space_hex s.2 (s.1 ∷ []) s.5, tt))),
    )

words_apart : (words : List (List ℕ)) (what : Item) → SpellsItem words what → HasRange what → AreWords words
words_apart words item.Header e range = subst AreWords (sym e) (no_space_visible (codes "lard") refl, (no_space_visible (codes "1") refl, tt))
words_apart words (item.Set key value) e range = subst AreWords (sym e) (no_space_key key, (no_space_number value range, tt))
words_apart words (item.File path bytes) e range = file_words_apart words path bytes e range
words_apart words item.Go e range = subst AreWords (sym e) (no_space_visible (codes "go") refl, tt)
words_apart words (item.Event event) e range = event_words_apart words event e range

-- ---- a sentence of words is cut into them

-- what stands before the first word stands before the sentence
fold_behind : (x y : List ℕ) (words : List (List ℕ)) → fold spaced (x ++ y) words ≡ x ++ fold spaced y words
fold_behind x y [] = refl
fold_behind x y (word ∷ words) = ap (λ t. fold spaced t words) (append_assoc x y (32 ∷ word)) ∙ fold_behind x (y ++ 32 ∷ word) words

-- a first word, a space, and the others
sentence_on : (word next : List ℕ) (words : List (List ℕ)) → sentence (word ∷ next ∷ words) ≡ word ++ 32 ∷ sentence (next ∷ words)
sentence_on word next words = fold_behind word (32 ∷ next) words ∙ ap (λ t. word ++ t) (fold_behind (32 ∷ []) next words)

word_alone : (word : List ℕ) → HasNoSpace word → words_of word ≡ word ∷ []
word_alone [] none = refl
word_alone (b ∷ bs) none = ap (λ t. cond t ([] ∷ words_of bs) (onto_first b (words_of bs))) none.0 ∙ ap (onto_first b) (word_alone bs none.1)

word_first : (word rest : List ℕ) → HasNoSpace word → words_of (word ++ 32 ∷ rest) ≡ word ∷ words_of rest
word_first [] rest none = refl
word_first (b ∷ bs) rest none =
    ap (λ t. cond t ([] ∷ words_of (bs ++ 32 ∷ rest)) (onto_first b (words_of (bs ++ 32 ∷ rest)))) none.0 ∙ ap (onto_first b) (word_first bs rest none.1)

words_back : (word : List ℕ) (words : List (List ℕ)) → HasNoSpace word → HaveNoSpace words → words_of (sentence (word ∷ words)) ≡ word ∷ words
words_back word [] none more = word_alone word none
words_back word (next ∷ words) none more =
    ap words_of (sentence_on word next words) ∙ word_first word (sentence (next ∷ words)) none ∙ ap (λ t. word ∷ t) (words_back next words more.0 more.1)

pub sentence_words : (words : List (List ℕ)) → AreWords words → words_of (sentence words) ≡ words
sentence_words [] apart = absurd apart
sentence_words (word ∷ words) apart = words_back word words apart.0 apart.1

-- a line that is a sentence of what it spells is cut into that
pub line_words : (line : List ℕ) (words : List (List ℕ)) (what : Item) → line ≡ sentence words → SpellsItem words what → HasRange what → words_of line ≡ words
line_words line words what e spells range = ap words_of e ∙ sentence_words words (words_apart words what spells range)

-- ---- and a text is the sentence of its words

is_space_space : (b : ℕ) → is_space b ≡ true → 32 ≡ b
is_space_space b e = grind (arith, nat_tests, e)

on_first : (b : ℕ) (part : List ℕ) (parts : List (List ℕ)) (text : List ℕ) → sentence (part ∷ parts) ≡ text → (t : Bool) → is_space b ≡ t
    → sentence (cond t ([] ∷ part ∷ parts) (onto_first b (part ∷ parts))) ≡ b ∷ text
on_first b part parts text e true f = sentence_on [] part parts ∙ ap (λ rest. 32 ∷ rest) e ∙ ap (λ byte. byte ∷ text) (is_space_space b f)
on_first b part parts text e false f = fold_behind (b ∷ []) part parts ∙ ap (λ rest. b ∷ rest) e

pub text_back : (text : List ℕ) → sentence (words_of text) ≡ text
text_back [] = refl
text_back (b ∷ bs) =
    let first = first_part is_space bs in
    ap (λ words. sentence (cond (is_space b) ([] ∷ words) (onto_first b words))) first.2
    ∙ on_first b first.0 first.1 bs (ap sentence (sym first.2) ∙ text_back bs) (is_space b) refl
