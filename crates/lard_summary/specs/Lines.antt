-- The four lines that are printed of a generated run.
use Rattle.std.specs.Prelude.{ℕ, ◌-◌, List, ◌++◌, length, Option, Some, codes, decimal}
use Rattle.std.specs.List.{slice_get}
use Rattle.lard_history.specs.Journal.{sent_count}
use Rattle.lard_journal.specs.declared.rec.Rec.{Rec}
use Rattle.lard_journal.specs.declared.rec.Rec.TheVariants as rec
use Rattle.lard_summary.specs.Counts.{accepted_bytes, requests_answered}

abbrev pub word_of : Option Rec → List ℕ
word_of (Some (rec.Settled rounds)) = codes "settled"
word_of _ = codes "open"

-- whether the journal's last record is that of a settle behind which nothing was left
abbrev pub end_word : List Rec → List ℕ
end_word J = word_of (slice_get J (length J - 1))

-- the lines of a run with this journal
unfoldable pub summary : ℕ → ℕ → List Rec → List ℕ
summary seed clients J =
    codes "seed " ++ decimal seed ++ codes " clients " ++ decimal clients ++ codes "\n"
    ++ codes "requests " ++ decimal (requests_answered J) ++ codes "\n"
    ++ codes "accepted " ++ decimal (accepted_bytes J) ++ codes " packets " ++ decimal (sent_count J) ++ codes " records " ++ decimal (length J) ++ codes "\n"
    ++ end_word J ++ codes "\n"
