-- The words of a line can be read back from it.
use Rattle.std.proofs.Common.{◌≡◌, ℕ, zero, suc, ◌/◌, ◌%◌, ◌<◌, ◌==◌, nat_lt, cond, Bool, true, false, List, [], ◌∷◌, ◌++◌, slice_index, refl, ◌∙◌, ap, append_assoc, arith}
use Rattle.std.specs.List.{fold, list_all}
use Rattle.std.specs.Fmt.{decimal, digits, digits_onto, digit_glyph}
use Rattle.std.proofs.lemmas.Bool.{and_parts}
use Rattle.std.proofs.lemmas.Bool.Decides.{nat_tests}
use Rattle.std.proofs.lemmas.List.Sums.{AllPass-from_list_all}
use Rattle.hex.specs.Hex.{IsBytes, encode_lower, encode_with, lower_digits}
use Rattle.lard_base.specs.Spelling.{spaced, line_of}

-- neither a space nor a line feed
abbrev pub is_plain_byte : ℕ → Bool
is_plain_byte b = nat_lt 32 b

-- a word whose bytes are plain
abbrev pub is_plain : List ℕ → Bool
is_plain word = list_all is_plain_byte word

-- a byte in front of the first of some words
abbrev joined : ℕ → List (List ℕ) → List (List ℕ)
joined b [] = (b ∷ []) ∷ []
joined b (word ∷ words) = (b ∷ word) ∷ words

-- the words of a text up to its first line feed
abbrev pub cut : List ℕ → List (List ℕ)
cut [] = [] ∷ []
cut (b ∷ bs) = cond (b == 10) ([] ∷ []) (cond (b == 32) ([] ∷ cut bs) (joined b (cut bs)))

-- words behind others, each behind a space, and a text behind them
abbrev behind : List (List ℕ) → List ℕ → List ℕ
behind [] text = text
behind (word ∷ words) text = 32 ∷ (word ++ behind words text)

-- words put behind a start one by one are the start and the words
behind-fold : (start : List ℕ) (words : List (List ℕ)) (text : List ℕ) → fold spaced start words ++ text ≡ start ++ behind words text
behind-fold start [] text = refl
behind-fold start (word ∷ words) text =
    behind-fold (start ++ 32 ∷ word) words text ∙ append_assoc start (32 ∷ word) (behind words text)

-- a plain byte ends no word and no line
plain_not : (b : ℕ) → nat_lt 32 b ≡ true → ((b == 10) ≡ false) × ((b == 32) ≡ false)
plain_not b h = (grind (arith, nat_tests), grind (arith, nat_tests))

-- a plain word, and what is cut from the text behind it
cut-append : (word rest : List ℕ) (words : List (List ℕ)) → is_plain word ≡ true → cut rest ≡ [] ∷ words → cut (word ++ rest) ≡ word ∷ words
cut-append [] rest words plain e = e
cut-append (b ∷ word) rest words plain e =
    let parts = and_parts (nat_lt 32 b) (list_all is_plain_byte word) plain in
    let others = plain_not b parts.0 in
    rw (others.0, others.1) (ap (joined b) (cut-append word rest words parts.1 e))

-- each of some words is plain
abbrev pub all_plain : List (List ℕ) → Bool
all_plain words = list_all is_plain words

-- plain words that a line feed ends are cut as they are
cut-behind : (word : List ℕ) (words : List (List ℕ)) (rest : List ℕ) → is_plain word ≡ true → all_plain words ≡ true → cut (word ++ behind words (10 ∷ rest)) ≡ word ∷ words
cut-behind word [] rest first others = cut-append word (10 ∷ rest) [] first refl
cut-behind word (next ∷ words) rest first others =
    let parts = and_parts (is_plain next) (all_plain words) others in
    cut-append word (behind (next ∷ words) (10 ∷ rest)) (next ∷ words) first (ap (λ t. [] ∷ t) (cut-behind next words rest parts.0 parts.1))

-- one word or more, all of them plain
abbrev pub is_sentence : List (List ℕ) → Bool
is_sentence [] = false
is_sentence (word ∷ words) = all_plain (word ∷ words)

-- the words of the line of plain words are these words, whatever stands behind the line
pub cut-line_of : (words : List (List ℕ)) (rest : List ℕ) → is_sentence words ≡ true → cut (line_of words ++ rest) ≡ words
cut-line_of [] rest none = cc
cut-line_of (word ∷ words) rest plain =
    let parts = and_parts (is_plain word) (all_plain words) plain in
    ap cut (append_assoc (fold spaced word words) (10 ∷ []) rest ∙ behind-fold word words (10 ∷ rest)) ∙ cut-behind word words rest parts.0 parts.1

-- the digits of a number are plain
plain-glyph : (d : ℕ) → nat_lt 32 (digit_glyph false d) ≡ true
plain-glyph d = grind (arith, nat_tests)

-- digits in front of plain bytes are plain
plain-digits_onto : (k n : ℕ) (acc : List ℕ) → is_plain acc ≡ true → is_plain (digits_onto k 10 false n acc) ≡ true
plain-digits_onto zero n acc h = h
plain-digits_onto (suc k) n acc h =
    let more : is_plain (digit_glyph false (n % 10) ∷ acc) ≡ true = rw (plain-glyph (n % 10)) h in
    elim (n / 10 == 0) as (λ t. is_plain (cond t (digit_glyph false (n % 10) ∷ acc) (digits_onto k 10 false (n / 10) (digit_glyph false (n % 10) ∷ acc))) ≡ true) [
      | true ↦ more
      | false ↦ plain-digits_onto k (n / 10) (digit_glyph false (n % 10) ∷ acc) more
    ]

-- a number is plain
pub plain-decimal : (n : ℕ) → is_plain (decimal n) ≡ true
unfolding digits
plain-decimal n = plain-digits_onto 64 n [] refl

-- the digits of bytes are plain
plain-digit : (k : ℕ) → k < 16 → nat_lt 32 (slice_index lower_digits k) ≡ true
plain-digit k h = AllPass-from_list_all is_plain_byte lower_digits refl k 0 h

-- the digits of bytes are plain
pub plain-encode_lower : (bytes : List ℕ) → IsBytes bytes → is_plain (encode_lower bytes) ≡ true
unfolding encode_with
plain-encode_lower [] h = refl
plain-encode_lower (b ∷ rest) h =
    let small : b < 256 = h 0 in
    let high : b / 16 < 16 = omega arith in
    let low : b % 16 < 16 = omega arith in
    rw (plain-digit (b / 16) high, plain-digit (b % 16) low) (plain-encode_lower rest (λ i. h (suc i)))
