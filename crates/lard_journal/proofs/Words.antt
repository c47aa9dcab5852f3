-- Words behind a text make the same line as words alone.
use Rattle.std.proofs.Common.{◌≡◌, ℕ, List, [], ◌∷◌, ◌++◌, refl, ◌∙◌, ap, append_assoc}
use Rattle.std.specs.List.{fold}
use Rattle.lard_base.specs.Spelling.{spaced, line_of}
use Rattle.lard_journal.specs.Text.{with_words}

-- a text in front of the first word stays in front of all
fold-spaced-append : (text word : List ℕ) (words : List (List ℕ)) → fold spaced (text ++ word) words ≡ text ++ fold spaced word words
fold-spaced-append text word [] = refl
fold-spaced-append text word (next ∷ words) =
    ap (λ start. fold spaced start words) (append_assoc text word (32 ∷ next)) ∙ fold-spaced-append text (word ++ 32 ∷ next) words

-- words behind a text, and a line feed, are the text and the words' line
pub line_behind : (text : List ℕ) (words : List (List ℕ)) → with_words text words ++ 10 ∷ [] ≡ text ++ line_of words
line_behind text [] = refl
line_behind text (word ∷ words) =
    ap (λ start. start ++ 10 ∷ []) (fold-spaced-append text word words) ∙ append_assoc text (fold spaced word words) (10 ∷ [])
