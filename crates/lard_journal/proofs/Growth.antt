-- A report grows at its end, with its files and then with its records.
use Rattle.std.proofs.Common.{◌≡◌, ℕ, List, [], ◌∷◌, ◌++◌, sym, ◌∙◌, ap, append_assoc, append-nil}
use Rattle.std.specs.List.{flat_map}
use Rattle.std.proofs.lemmas.Grind.{flat_map-append}
use Rattle.std.proofs.lemmas.List.{flat_map_more}
use Rattle.lard_base.specs.declared.config.Config.{Config}
use Rattle.lard_journal.specs.declared.rec.Rec.{Rec}
use Rattle.lard_journal.specs.Report.{rec_line, heading_line, file_text, report}

-- a report without files and records is its heading
pub report-heading : (config : Config) → report config [] [] ≡ heading_line config
report-heading config = append-nil _ ∙ append-nil _

-- with one more file, and no records yet, a report goes on with the file's line
pub report-file : (config : Config) (files : List (List ℕ × ℕ)) (file : List ℕ × ℕ) → report config (files ++ file ∷ []) [] ≡ report config files [] ++ file_text file
report-file config files file =
    append-nil _ ∙ sym (flat_map_more file_text (heading_line config) files file) ∙ ap (λ text. text ++ file_text file) (sym (append-nil _))

-- with more records, a report goes on with their lines
pub report-append : (config : Config) (files : List (List ℕ × ℕ)) (recs more : List Rec) → report config files (recs ++ more) ≡ report config files recs ++ flat_map rec_line more
report-append config files recs more =
    let start : List ℕ = heading_line config ++ flat_map file_text files in
    ap (λ lines. start ++ lines) (flat_map-append rec_line recs more) ∙ sym (append_assoc start (flat_map rec_line recs) (flat_map rec_line more))
