-- What holds of texts of which one begins with the other.
use Rattle.std.proofs.Common.{ℕ, List, [], ◌∷◌, ◌++◌, length, ◌≤◌, ◌≡◌, take, sym, subst, ◌∙◌, ap, arith, length-append, Result, Ok, Err, OnErr}
use Rattle.std.proofs.Math.Seq.{take-append_seam}
use Rattle.std.proofs.lemmas.List.{take-take}
use Rattle.std.specs.List.{fold}
use Rattle.lard_base.specs.Spelling.{spaced}
use Rattle.lard_journal.specs.Text.{with_words, BeginsWith}

-- what begins with a text and more begins with the text
pub begins_less : (text more longer : List ℕ) → BeginsWith (text ++ more) longer → BeginsWith text longer
begins_less text more longer h =
    let within : length text ≤ length (text ++ more) = omega (arith, length-append text more) in
    record { begins = sym (take-take _ _ longer within) ∙ ap (take (length text)) h.begins ∙ take-append_seam text more }

-- the same of a text and words behind it, each behind a space
begins_spaced : (text : List ℕ) (words : List (List ℕ)) (longer : List ℕ) → BeginsWith (fold spaced text words) longer → BeginsWith text longer
begins_spaced text [] longer h = h
begins_spaced text (word ∷ words) longer h =
    begins_less text (32 ∷ word) longer (begins_spaced (text ++ 32 ∷ word) words longer h)

-- what begins with a text and words behind it begins with the text
pub begins_words : (text : List ℕ) (words : List (List ℕ)) (longer : List ℕ) → BeginsWith (with_words text words) longer → BeginsWith text longer
begins_words text [] longer h = h
begins_words text (word ∷ words) longer h =
    begins_less text word longer (begins_spaced (text ++ word) words longer h)

-- the same of a text that has more behind it
pub begins_behind : (text now more longer : List ℕ) → now ≡ text ++ more → BeginsWith now longer → BeginsWith text longer
begins_behind text now more longer e h = begins_less text more longer (subst (λ (xs : List ℕ). BeginsWith xs longer) e h)

-- what is so in any case is so on an error
pub on_err : {T E P : Type 0} (r : Result T E) → P → OnErr r P
on_err (Ok x) p = tt
on_err (Err e) p = p

-- an error's text that begins with one begins with what that one begins with
pub on_err_behind : {T E P Q : Type 0} (r : Result T E) → (P → Q) → OnErr r P → OnErr r Q
on_err_behind (Ok x) f h = tt
on_err_behind (Err e) f h = f h
