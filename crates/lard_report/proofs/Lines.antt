-- A line, its words, and the record that they tell.
use Rattle.std.proofs.Common.{◌≡◌, ◌↔◌, ℕ, ◌+◌, ◌-◌, List, [], ◌∷◌, ◌++◌, true, cond, Option, Some, None, refl, sym, subst, ◌∙◌, ap}
use Rattle.std.specs.Prelude.{bytes_eq}
use Rattle.std.proofs.lemmas.List.{append_cancel_right}
use Rattle.std.proofs.lemmas.Slice.Eq.{bytes_eq-Decides}
use Rattle.lard_base.specs.Spelling.{sentence}
use Rattle.lard_journal.specs.declared.rec.Rec.{Rec}
use Rattle.lard_journal.specs.Report.{rec_line, rec_words}
use Rattle.lard_journal.proofs.Told.{cut-rec_line}
use Rattle.lard_schedule.specs.Words.{◌>>=◌, words_of}
use Rattle.lard_schedule.specs.Laws.{AreWords}
use Rattle.lard_schedule.proofs.Found.{bind_some, cond_some}
use Rattle.lard_schedule.proofs.Places.{text_is}
use Rattle.lard_schedule.proofs.Sentences.{sentence_words}
use Rattle.lard_report.specs.Laws.{IsLineOfRecord}
use Rattle.lard_report.specs.Readable.{IsReadable}
use Rattle.lard_report.specs.Records.{loosely_of, record_of}
use Rattle.lard_report.proofs.Apart.{cut_apart}
use Rattle.lard_report.proofs.Fits.{loosely_fits}
use Rattle.lard_report.proofs.Ranges.{readable_in_range}
use Rattle.lard_report.proofs.Found.{loosely_read}

-- ---- the words of a record have no space

rec_words_apart : (r : Rec) → IsReadable r → AreWords (rec_words r)
rec_words_apart r fits = subst AreWords (cut-rec_line r [] (readable_in_range r fits)) (cut_apart (rec_line r ++ []))

-- ---- a line and its record

pub record_again : (r : Rec) → IsReadable r → record_of (sentence (rec_words r)) ≡ Some r
unfolding record_of
record_again r fits =
    let same : bytes_eq (sentence (rec_words r)) (sentence (rec_words r)) ≡ true = (bytes_eq-Decides (sentence (rec_words r)) (sentence (rec_words r))).1 refl in
    ap (λ words. loosely_of words >>= λ s. cond (bytes_eq (sentence (rec_words s)) (sentence (rec_words r))) (Some s) None) (sentence_words (rec_words r) (rec_words_apart r fits))
    ∙ ap (λ o. o >>= λ s. cond (bytes_eq (sentence (rec_words s)) (sentence (rec_words r))) (Some s) None) (loosely_read r fits)
    ∙ ap (λ t. cond t (Some r) None) same

pub record_told : (line : List ℕ) (r : Rec) → record_of line ≡ Some r → IsLineOfRecord line r
unfolding record_of
record_told line r e =
    let found = bind_some (loosely_of (words_of line)) _ r e in
    let tested = cond_some (bytes_eq (sentence (rec_words found.0)) line) found.0 r found.2 in
    let spelled : sentence (rec_words found.0) ≡ line = text_is (sentence (rec_words found.0)) line tested.0 in
    subst (IsLineOfRecord line) tested.1 (ap (λ text. text ++ 10 ∷ []) (sym spelled), loosely_fits (words_of line) found.0 found.1)

pub record_from : (line : List ℕ) (r : Rec) → IsLineOfRecord line r → record_of line ≡ Some r
record_from line r h = ap record_of (append_cancel_right line (sentence (rec_words r)) (10 ∷ []) h.0) ∙ record_again r h.1

-- ---- a line that stands for nothing

none_told : (line : List ℕ) → record_of line ≡ None → (r : Rec) → ¬ IsLineOfRecord line r
none_told line e r h = let read : record_of line ≡ Some r = record_from line r h in cc

none_from : (line : List ℕ) → ((r : Rec) → ¬ IsLineOfRecord line r) → record_of line ≡ None
none_from line none = go (record_of line) refl where
  go : (o : Option Rec) → record_of line ≡ o → o ≡ None
  go None f = refl
  go (Some r) f = absurd (none r (record_told line r f))

pub none_is : (line : List ℕ) → (record_of line ≡ None) ↔ ((r : Rec) → ¬ IsLineOfRecord line r)
none_is line = (none_told line, none_from line)
