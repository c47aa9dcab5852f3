-- What is found at the front of words, and the words where it is found.
use Rattle.std.proofs.Common.{◌≡◌, ℕ, ◌-◌, ◌≤◌, ◌<◌, ◌^◌, List, [], ◌∷◌, Bool, true, false, cond, ◌&&◌, Option, Some, None, refl, ap, ◌∙◌, subst, arith}
use Rattle.std.specs.Prelude.{nat_le, decimal}
use Rattle.std.proofs.lemmas.Bool.Decides.{nat_tests}
use Rattle.lard_schedule.specs.Words.{◌>>=◌, number_of, word_then, number_then, count_up_to, count_then, client_then, ended}
use Rattle.lard_schedule.specs.Events.{IsUpTo, client_alone, number_alone, client_and_word}
use Rattle.lard_schedule.proofs.Decimals.{number_spelled, number_read}

-- the first of two readings found something, and the second went on from it
pub bind_some : {A B : Type 0} (o : Option A) (f : A → Option B) (y : B) → (o >>= f) ≡ Some y → (x : A) × (o ≡ Some x) × (f x ≡ Some y)
bind_some None f y e = let none : None ≡ Some y = e in cc
bind_some (Some x) f y e = (x, refl, e)

pub some_same : {A : Type 0} (x y : A) → Some x ≡ Some y → x ≡ y
some_same x y e = cc

-- what a test lets through
pub cond_some : {A : Type 0} (t : Bool) (x y : A) → cond t (Some x) None ≡ Some y → (t ≡ true) × (x ≡ y)
cond_some true x y e = (refl, some_same x y e)
cond_some false x y e = let none : None ≡ Some y = e in cc

pub ended_some : {A : Type 0} (words : List (List ℕ)) (x y : A) → ended words x ≡ Some y → (words ≡ []) × (x ≡ y)
ended_some [] x y e = (refl, some_same x y e)
ended_some (word ∷ words) x y e = let none : None ≡ Some y = e in cc

pub word_spelled : (words : List (List ℕ)) (found : List ℕ × List (List ℕ)) → word_then words ≡ Some found → words ≡ found.0 ∷ found.1
word_spelled [] found e = let none : None ≡ Some found = e in cc
word_spelled (word ∷ words) found e = ap (λ (p : List ℕ × List (List ℕ)). p.0 ∷ p.1) (some_same (word, words) found e)

-- a reading of one word by itself, and the words after it
abbrev pub next_by : (List ℕ → Option ℕ) → List (List ℕ) → Option (ℕ × List (List ℕ))
next_by read words = word_then words >>= λ w. read w.0 >>= λ n. Some (n, w.1)

next_spelled : (read : List ℕ → Option ℕ) (words : List (List ℕ)) (found : ℕ × List (List ℕ)) → next_by read words ≡ Some found
    → (word : List ℕ) × (words ≡ word ∷ found.1) × (read word ≡ Some found.0)
next_spelled read words found e =
    let word = bind_some (word_then words) _ found e in
    let number = bind_some (read word.0.0) _ found word.2 in
    let same = some_same (number.0, word.0.1) found number.2 in
    (word.0.0, word_spelled words word.0 word.1 ∙ ap (λ (p : ℕ × List (List ℕ)). word.0.0 ∷ p.1) same, number.1 ∙ ap (λ (p : ℕ × List (List ℕ)). Some p.0) same)

-- ---- numbers

pub number_then_spelled : (most : ℕ) (words : List (List ℕ)) (found : ℕ × List (List ℕ)) → most < 2 ^ 64 → number_then most words ≡ Some found
    → (words ≡ decimal found.0 ∷ found.1) × (found.0 ≤ most)
unfolding number_then
number_then_spelled most words found wide e =
    let next = next_spelled (number_of most) words found e in
    let spelled = number_spelled most next.0 found.0 wide next.2 in
    (next.1 ∙ ap (λ w. w ∷ found.1) spelled.0, spelled.1)

pub count_spelled : (most : ℕ) (word : List ℕ) (n : ℕ) → count_up_to most word ≡ Some n → (word ≡ decimal n) × IsUpTo most n
unfolding count_up_to
count_spelled most word n e =
    let number = bind_some (number_of (2 ^ 32 - 1) word) _ n e in
    let tested = cond_some (nat_le 1 number.0 && nat_le number.0 most) number.0 n number.2 in
    let range : IsUpTo most number.0 = let passed = tested.0 in (grind (arith, nat_tests, passed), grind (arith, nat_tests, passed)) in
    subst (λ k. (word ≡ decimal k) × IsUpTo most k) tested.1 ((number_spelled (2 ^ 32 - 1) word number.0 (omega arith) number.1).0, range)

pub count_then_spelled : (most : ℕ) (words : List (List ℕ)) (found : ℕ × List (List ℕ)) → count_then most words ≡ Some found
    → (words ≡ decimal found.0 ∷ found.1) × IsUpTo most found.0
unfolding count_then
count_then_spelled most words found e =
    let next = next_spelled (count_up_to most) words found e in
    let spelled = count_spelled most next.0 found.0 next.2 in
    (next.1 ∙ ap (λ w. w ∷ found.1) spelled.0, spelled.1)

pub number_then_read : (most n : ℕ) (words : List (List ℕ)) → most < 2 ^ 64 → n ≤ most → number_then most (decimal n ∷ words) ≡ Some (n, words)
unfolding number_then
number_then_read most n words wide small = ap (λ o. o >>= λ k. Some (k, words)) (number_read most n wide small)

pub count_read : (most n : ℕ) → most < 2 ^ 32 → IsUpTo most n → count_up_to most (decimal n) ≡ Some n
unfolding count_up_to
count_read most n small range =
    let passed : nat_le 1 n && nat_le n most ≡ true = grind (arith, nat_tests, range.0, range.1) in
    rw (number_read (2 ^ 32 - 1) n (omega arith) (omega (arith, range.1)), passed) refl

pub count_then_read : (most n : ℕ) (words : List (List ℕ)) → most < 2 ^ 32 → IsUpTo most n → count_then most (decimal n ∷ words) ≡ Some (n, words)
unfolding count_then
count_then_read most n words small range = ap (λ o. o >>= λ k. Some (k, words)) (count_read most n small range)

-- ---- one or two words, and nothing more

pub client_alone_spelled : (words : List (List ℕ)) (c : ℕ) → client_alone words ≡ Some c → (words ≡ decimal c ∷ []) × IsUpTo 16384 c
unfolding client_alone
client_alone_spelled words c e =
    let found = bind_some (client_then words) _ c e in
    let end = ended_some found.0.1 found.0.0 c found.2 in
    let spelled = count_then_spelled 16384 words found.0 found.1 in
    subst (λ n. (words ≡ decimal n ∷ []) × IsUpTo 16384 n) end.1 (spelled.0 ∙ ap (λ w. decimal found.0.0 ∷ w) end.0, spelled.1)

pub number_alone_spelled : (words : List (List ℕ)) (n : ℕ) → number_alone words ≡ Some n → (words ≡ decimal n ∷ []) × (n < 2 ^ 32)
unfolding number_alone
number_alone_spelled words n e =
    let found = bind_some (number_then (2 ^ 32 - 1) words) _ n e in
    let end = ended_some found.0.1 found.0.0 n found.2 in
    let spelled = number_then_spelled (2 ^ 32 - 1) words found.0 (omega arith) found.1 in
    subst (λ k. (words ≡ decimal k ∷ []) × (k < 2 ^ 32)) end.1 (spelled.0 ∙ ap (λ w. decimal found.0.0 ∷ w) end.0, omega (arith, spelled.1))

pub client_and_word_spelled : (words : List (List ℕ)) (found : ℕ × List ℕ) → client_and_word words ≡ Some found
    → (words ≡ decimal found.0 ∷ found.1 ∷ []) × IsUpTo 16384 found.0
unfolding client_and_word
client_and_word_spelled words found e =
    let c = bind_some (client_then words) _ found e in
    let word = bind_some (word_then c.0.1) _ found c.2 in
    let end = ended_some word.0.1 (c.0.0, word.0.0) found word.2 in
    let spelled = count_then_spelled 16384 words c.0 c.1 in
    let second = word_spelled c.0.1 word.0 word.1 ∙ ap (λ w. word.0.0 ∷ w) end.0 in
    subst (λ (p : ℕ × List ℕ). (words ≡ decimal p.0 ∷ p.1 ∷ []) × IsUpTo 16384 p.0) end.1 (spelled.0 ∙ ap (λ w. decimal c.0.0 ∷ w) second, spelled.1)

pub client_alone_read : (c : ℕ) → IsUpTo 16384 c → client_alone (decimal c ∷ []) ≡ Some c
unfolding client_alone
client_alone_read c range = rw (count_then_read 16384 c [] (omega arith) range) refl

pub number_alone_read : (n : ℕ) → n < 2 ^ 32 → number_alone (decimal n ∷ []) ≡ Some n
unfolding number_alone
number_alone_read n small = rw (number_then_read (2 ^ 32 - 1) n [] (omega arith) (omega arith)) refl

pub client_and_word_read : (c : ℕ) (word : List ℕ) → IsUpTo 16384 c → client_and_word (decimal c ∷ word ∷ []) ≡ Some (c, word)
unfolding client_and_word
client_and_word_read c word range = rw (count_then_read 16384 c (word ∷ []) (omega arith) range) refl
