-- The line of a file is none of a record.
use Rattle.std.proofs.Common.{◌≡◌, ℕ, List, ◌∷◌, cond, Some, None, refl, ap, ◌∙◌}
use Rattle.std.specs.Prelude.{codes, bytes_eq}
use Rattle.lard_base.specs.Spelling.{sentence}
use Rattle.lard_journal.specs.Report.{rec_words}
use Rattle.lard_report.specs.Preface.{behind_word, file_line_of}
use Rattle.lard_report.specs.Records.{loosely_of, record_of}
use Rattle.lard_schedule.specs.Words.{◌>>=◌, word_then, words_of}
use Rattle.lard_schedule.proofs.Found.{bind_some, cond_some, word_spelled}
use Rattle.lard_schedule.proofs.Places.{text_is}

behind_spelled : (text : List ℕ) (words rest : List (List ℕ)) → behind_word text words ≡ Some rest → words ≡ text ∷ rest
unfolding behind_word
behind_spelled text words rest e =
    let word = bind_some (word_then words) _ rest e in
    let tested = cond_some (bytes_eq word.0.0 text) word.0.1 rest word.2 in
    word_spelled words word.0 word.1 ∙ ap (λ w. w ∷ word.0.1) (text_is word.0.0 text tested.0) ∙ ap (λ w. text ∷ w) tested.1

-- the first word of a file's line
file_word : (line : List ℕ) (file : List ℕ × ℕ) → file_line_of line ≡ Some file → (rest : List (List ℕ)) × (words_of line ≡ codes "file" ∷ rest)
unfolding file_line_of
file_word line file e =
    let rest = bind_some (behind_word (codes "file") (words_of line)) _ file e in (rest.0, behind_spelled (codes "file") (words_of line) rest.0 rest.1)

-- it is the first of no record
no_kind : (rest : List (List ℕ)) → loosely_of (codes "file" ∷ rest) ≡ None
unfolding loosely_of
no_kind rest = refl

pub file_no_record : (line : List ℕ) (file : List ℕ × ℕ) → file_line_of line ≡ Some file → record_of line ≡ None
unfolding record_of
file_no_record line file e =
    let word = file_word line file e in
    ap (λ o. o >>= λ s. cond (bytes_eq (sentence (rec_words s)) line) (Some s) None) (ap loosely_of word.1 ∙ no_kind word.0)
