-- A report tells its configuration, its files and its records.
use Rattle.std.proofs.Common.{◌≡◌, ℕ, cond, List, [], ◌∷◌, ◌++◌, codes, refl, sym, ◌∙◌, ap, append_assoc, arith}
use Rattle.std.specs.List.{flat_map, All}
use Rattle.std.specs.Str.{bytes_eq}
use Rattle.std.proofs.lemmas.List.{append_cancel_left}
use Rattle.std.proofs.lemmas.List.Elements.{All-head, All-tail}
use Rattle.lard_base.specs.declared.config.Config.{Config}
use Rattle.lard_journal.specs.declared.rec.Rec.{Rec}
use Rattle.lard_journal.specs.declared.rec.Rec.TheVariants as rec
use Rattle.lard_journal.specs.Range.{IsRecordInRange, IsFileInRange, IsConfigInRange, IsReportInRange}
use Rattle.lard_journal.specs.Report.{rec_words, rec_line, heading_words, heading_line, file_words, file_text, report}
use Rattle.lard_journal.proofs.Cut.{cut, cut-line_of, plain-decimal}
use Rattle.lard_journal.proofs.Told.{word_at, number_of, number_back, plain-path, cut-rec_line, first_rec}

-- what a line is of: nothing, a file, or else a record
abbrev kind_of_line : List (List ℕ) → ℕ
kind_of_line ws = cond (bytes_eq (word_at ws 0) []) 0 (cond (bytes_eq (word_at ws 0) (codes "file")) 1 2)

-- no line of a record is empty or of a file
rec_kind : (r : Rec) → kind_of_line (rec_words r) ≡ 2
rec_kind (rec.Event i event) = refl
rec_kind (rec.Inner event) = refl
rec_kind (rec.Opened c isn iss wnd mss) = refl
rec_kind (rec.Wrote c bytes) = refl
rec_kind (rec.Sent k from to bytes) = refl
rec_kind (rec.Got k) = refl
rec_kind (rec.Lost k) = refl
rec_kind (rec.Accepted c bytes) = refl
rec_kind (rec.Eof c) = refl
rec_kind (rec.Took place c epoch) = refl
rec_kind (rec.Gave place c epoch) = refl
rec_kind (rec.Waits c) = refl
rec_kind (rec.Admitted c) = refl
rec_kind (rec.Released c) = refl
rec_kind (rec.AssignedFirst c r path n add remove) = refl
rec_kind (rec.AssignedLater c r path n add size queue) = refl
rec_kind (rec.BatchOver c) = refl
rec_kind (rec.Served place c r code length via) = refl
rec_kind (rec.Hit n path) = refl
rec_kind (rec.Queued n m c r path) = refl
rec_kind (rec.Read n m c r path) = refl
rec_kind (rec.Closed n) = refl
rec_kind (rec.Armed place c kind) = refl
rec_kind (rec.Cleared place c kind) = refl
rec_kind (rec.Reset place c count) = refl
rec_kind (rec.Aborted c) = refl
rec_kind (rec.Injected c) = refl
rec_kind (rec.Clock time) = refl
rec_kind (rec.Settled rounds) = refl
rec_kind (rec.Unsettled rounds left) = refl

-- where no text is left, no line of a record is
no_rec : (r : Rec) (rest : List ℕ) → IsRecordInRange r → [] ≡ rec_line r ++ rest → ⊥
no_rec r rest h e =
    let clash : ◌≡◌ {A = ℕ} 0 2 = ap kind_of_line (ap cut e ∙ cut-rec_line r rest h) ∙ rec_kind r in
    absurd (omega arith)

-- the same lines are of the same records
recs_same : (recs others : List Rec) → All IsRecordInRange recs → All IsRecordInRange others → flat_map rec_line recs ≡ flat_map rec_line others → recs ≡ others
recs_same [] [] h k e = refl
recs_same [] (s ∷ others) h k e = absurd (no_rec s (flat_map rec_line others) (All-head IsRecordInRange s others k) e)
recs_same (r ∷ recs) [] h k e = absurd (no_rec r (flat_map rec_line recs) (All-head IsRecordInRange r recs h) (sym e))
recs_same (r ∷ recs) (s ∷ others) h k e =
    let first : r ≡ s = first_rec r s (flat_map rec_line recs) (flat_map rec_line others) (All-head IsRecordInRange r recs h) (All-head IsRecordInRange s others k) e in
    let rest : flat_map rec_line recs ≡ flat_map rec_line others = append_cancel_left (rec_line s) (flat_map rec_line recs) (flat_map rec_line others) (ap (λ t. rec_line t ++ flat_map rec_line recs) (sym first) ∙ e) in
    ap (λ t. t ∷ recs) first ∙ ap (λ t. s ∷ t) (recs_same recs others (All-tail IsRecordInRange r recs h) (All-tail IsRecordInRange s others k) rest)

-- the words of a file's line
cut-file_text : (file : List ℕ × ℕ) (rest : List ℕ) → IsFileInRange file → cut (file_text file ++ rest) ≡ file_words file
cut-file_text file rest h = cut-line_of (file_words file) rest (rw (plain-path file.0 h.0, plain-decimal file.1) refl)

-- the words of a file
abbrev file_of : List (List ℕ) → List ℕ × ℕ
file_of ws = (word_at ws 1, number_of (word_at ws 2))

-- a file is read back from its words
file_back : (file : List ℕ × ℕ) → IsFileInRange file → file_of (file_words file) ≡ file
file_back file h = rw (number_back file.1 h.1) refl

-- lines of records are none of a file
no_file : (recs : List Rec) (file : List ℕ × ℕ) (rest : List ℕ) → All IsRecordInRange recs → IsFileInRange file → flat_map rec_line recs ≡ file_text file ++ rest → ⊥
no_file [] file rest h k e =
    let clash : ◌≡◌ {A = ℕ} 0 1 = ap kind_of_line (ap cut e ∙ cut-file_text file rest k) in
    absurd (omega arith)
no_file (r ∷ recs) file rest h k e =
    let clash : ◌≡◌ {A = ℕ} 2 1 = sym (rec_kind r) ∙ ap kind_of_line (sym (cut-rec_line r (flat_map rec_line recs) (All-head IsRecordInRange r recs h)) ∙ ap cut e ∙ cut-file_text file rest k) in
    absurd (omega arith)

-- the same lines behind the heading are of the same files and records
lines_same : (files others : List (List ℕ × ℕ)) (recs more : List Rec) → All IsFileInRange files → All IsFileInRange others → All IsRecordInRange recs → All IsRecordInRange more → flat_map file_text files ++ flat_map rec_line recs ≡ flat_map file_text others ++ flat_map rec_line more → (files ≡ others) × (recs ≡ more)
lines_same [] [] recs more fh gh rh sh e = (refl, recs_same recs more rh sh e)
lines_same [] (g ∷ others) recs more fh gh rh sh e =
    absurd (no_file recs g (flat_map file_text others ++ flat_map rec_line more) rh (All-head IsFileInRange g others gh) (e ∙ append_assoc (file_text g) (flat_map file_text others) (flat_map rec_line more)))
lines_same (f ∷ files) [] recs more fh gh rh sh e =
    absurd (no_file more f (flat_map file_text files ++ flat_map rec_line recs) sh (All-head IsFileInRange f files fh) (sym e ∙ append_assoc (file_text f) (flat_map file_text files) (flat_map rec_line recs)))
lines_same (f ∷ files) (g ∷ others) recs more fh gh rh sh e =
    let left : List ℕ = flat_map file_text files ++ flat_map rec_line recs in
    let right : List ℕ = flat_map file_text others ++ flat_map rec_line more in
    let f_fits : IsFileInRange f = All-head IsFileInRange f files fh in
    let g_fits : IsFileInRange g = All-head IsFileInRange g others gh in
    let same : file_text f ++ left ≡ file_text g ++ right =
    sym (append_assoc (file_text f) (flat_map file_text files) (flat_map rec_line recs)) ∙ e ∙ append_assoc (file_text g) (flat_map file_text others) (flat_map rec_line more) in
    let first : f ≡ g =
    sym (file_back f f_fits) ∙ ap file_of (sym (cut-file_text f left f_fits) ∙ ap cut same ∙ cut-file_text g right g_fits) ∙ file_back g g_fits in
    let rest : left ≡ right = append_cancel_left (file_text g) left right (ap (λ t. file_text t ++ left) (sym first) ∙ same) in
    let others_same : (files ≡ others) × (recs ≡ more) = lines_same files others recs more (All-tail IsFileInRange f files fh) (All-tail IsFileInRange g others gh) rh sh rest in
    (ap (λ t. t ∷ files) first ∙ ap (λ t. g ∷ t) others_same.0, others_same.1)

-- the words of the heading
cut-heading_line : (c : Config) (rest : List ℕ) → cut (heading_line c ++ rest) ≡ heading_words c
unfolding heading_line
cut-heading_line c rest = cut-line_of (heading_words c) rest (rw (plain-decimal c.nodes, plain-decimal c.low, plain-decimal c.high, plain-decimal c.age, plain-decimal c.idle, plain-decimal c.over, plain-decimal c.miss, plain-decimal c.cache, plain-decimal c.stream) refl)

-- the words of a heading
abbrev config_of : List (List ℕ) → Config
config_of ws = record { nodes = number_of (word_at ws 3); low = number_of (word_at ws 5); high = number_of (word_at ws 7); age = number_of (word_at ws 9); idle = number_of (word_at ws 11); over = number_of (word_at ws 13); miss = number_of (word_at ws 15); cache = number_of (word_at ws 17); stream = number_of (word_at ws 19) }

-- a configuration is read back from its words
config_back : (c : Config) → IsConfigInRange c → config_of (heading_words c) ≡ c
config_back c h = rw (number_back c.nodes h.0, number_back c.low h.1, number_back c.high h.2, number_back c.age h.3, number_back c.idle h.4, number_back c.over h.5, number_back c.miss h.6, number_back c.cache h.7, number_back c.stream h.8) refl

-- a report tells all that it is made of
pub report-injective : (config also : Config) (files others : List (List ℕ × ℕ)) (recs more : List Rec) → IsReportInRange config files recs → IsReportInRange also others more → report config files recs ≡ report also others more → (config ≡ also) × (files ≡ others) × (recs ≡ more)
report-injective config also files others recs more h k e =
    let left : List ℕ = flat_map file_text files ++ flat_map rec_line recs in
    let right : List ℕ = flat_map file_text others ++ flat_map rec_line more in
    let same : heading_line config ++ left ≡ heading_line also ++ right =
    sym (append_assoc (heading_line config) (flat_map file_text files) (flat_map rec_line recs)) ∙ e ∙ append_assoc (heading_line also) (flat_map file_text others) (flat_map rec_line more) in
    let first : config ≡ also =
    sym (config_back config h.numbers) ∙ ap config_of (sym (cut-heading_line config left) ∙ ap cut same ∙ cut-heading_line also right) ∙ config_back also k.numbers in
    let rest : left ≡ right = append_cancel_left (heading_line also) left right (ap (λ t. heading_line t ++ left) (sym first) ∙ same) in
    let others_same : (files ≡ others) × (recs ≡ more) = lines_same files others recs more h.paths k.paths h.records k.records rest in
    (first, others_same.0, others_same.1)
