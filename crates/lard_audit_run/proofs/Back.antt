-- A sound report passes.
use Rattle.std.proofs.Common.{◌≡◌, ◌≢◌, ℕ, ◌+◌, ◌-◌, ◌≤◌, ◌^◌, ◌==◌, List, [], ◌∷◌, ◌++◌, length, Bool, true, false, not, cond, Some, None, Ok, Err, refl, sym, ap, ◌∙◌, subst, append_assoc, append-nil, arith, length-append}
use Rattle.std.proofs.lemmas.Bool.{and_parts}
use Rattle.std.proofs.lemmas.Bool.Decides.{nat_tests}
use Rattle.std.specs.List.{AllByRecursion, flat_map, fold, list_all, position, position_or_len, prefix_len}
use Rattle.std.specs.Prelude.{nat_lt}
use Rattle.lard_audit.specs.Sound.{broken}
use Rattle.lard_base.specs.Config.{checked_from, config_check, is_in_range, value_of}
use Rattle.lard_base.specs.Spelling.{line_of, sentence, spaced}
use Rattle.lard_base.specs.declared.config.Config.{Config}
use Rattle.lard_base.specs.declared.config.ConfigFault.TheVariants.{Range}
use Rattle.lard_base.specs.declared.config.Key.{Key}
use Rattle.lard_base.specs.declared.config.Key.TheVariants.{Nodes, Low, High, Age, Idle, Over, Miss, Cache, Stream}
use Rattle.lard_base.proofs.Ranges.{within}
use Rattle.lard_grammar.specs.Schedule.{AreLines, text_of}
use Rattle.lard_grammar.proofs.Texts.{cut_again}
use Rattle.lard_history.specs.Laws.{EachMay}
use Rattle.lard_journal.specs.Report.{file_text, file_words, heading_line, heading_words, rec_line, rec_words}
use Rattle.lard_journal.specs.declared.rec.Rec.{Rec}
use Rattle.lard_journal.proofs.Cut.{cut, cut-line_of, is_sentence, plain-decimal}
use Rattle.lard_journal.proofs.Told.{cut-rec_line, plain-path}
use Rattle.lard_lines.specs.Lines.{is_feed, lines_of}
use Rattle.lard_report.specs.Preface.{IsHeadingWide}
use Rattle.lard_report.specs.Readable.{IsReadable}
use Rattle.lard_report.specs.declared.preface.Heading.{Heading}
use Rattle.lard_report.proofs.Lines.{record_from}
use Rattle.lard_report.proofs.Prefaces.{file_from, heading_from}
use Rattle.lard_report.proofs.Ranges.{path_unspaced, readable_in_range}
use Rattle.lard_schedule.specs.Events.{is_path}
use Rattle.lard_schedule.specs.Files.{is_no_question}
use Rattle.lard_audit_run.specs.declared.auditor.Stage.{Stage}
use Rattle.lard_audit_run.specs.declared.auditor.Stage.TheVariants as stage
use Rattle.lard_audit_run.specs.declared.auditor.TheConstants.{MAX_REPORT_BYTES}
use Rattle.lard_audit_run.specs.declared.verdict.Verdict.TheVariants.{Sound}
use Rattle.lard_audit_run.specs.Audited.{Course, AuditLeads, audited, audit_begin, begun, audit_configured, counted, ended_at, audit_entered, entered_at, audit_filed, headed, audit_judged, audit_listed, ruled, taken}
use Rattle.lard_audit_run.specs.Reports.{IsSoundReport, MayBeAdded}
use Rattle.lard_audit_run.proofs.Causes.{ruled-at}
use Rattle.lard_audit_run.proofs.Going.{leads_judged}
use Rattle.lard_audit_run.proofs.Passing.{passed_by}

-- ---- a line that is cut into its words has no line feed

abbrev NoFeed : List ℕ → Type 0
NoFeed [] = Unit {0}
NoFeed (b ∷ bs) = (is_feed b ≡ false) × NoFeed bs

-- how many bytes stand before the first line feed
abbrev before : List ℕ → ℕ
before xs = prefix_len (λ b. not (is_feed b)) xs

fold_on : (b : ℕ) (start : List ℕ) (words : List (List ℕ)) → fold spaced (b ∷ start) words ≡ b ∷ fold spaced start words
fold_on b start [] = refl
fold_on b start (word ∷ words) = fold_on b (spaced start word) words

-- a byte in front of the first of some words
abbrev onto : ℕ → List (List ℕ) → List (List ℕ)
onto b [] = (b ∷ []) ∷ []
onto b (word ∷ words) = (b ∷ word) ∷ words

cut_some : (xs : List ℕ) → (word : List ℕ) × (words : List (List ℕ)) × (cut xs ≡ word ∷ words)
cut_some [] = ([], [], refl)
cut_some (b ∷ bs) = go (b == 10) (b == 32) (cut bs) where
  go : (feed space : Bool) (words : List (List ℕ)) → (word : List ℕ) × (more : List (List ℕ)) × (cond feed ([] ∷ []) (cond space ([] ∷ words) (onto b words)) ≡ word ∷ more)
  go true space words = ([], [], refl)
  go false true words = ([], words, refl)
  go false false [] = (b ∷ [], [], refl)
  go false false (word ∷ words) = (b ∷ word, words, refl)

cut_len : (xs : List ℕ) → length (sentence (cut xs)) ≡ before xs
cut_len [] = refl
cut_len (b ∷ bs) = go (b == 10) (b == 32) (cut bs) (cut_some bs).0 (cut_some bs).1 (cut_some bs).2 (cut_len bs) where
  go : (feed space : Bool) (words : List (List ℕ)) (word : List ℕ) (more : List (List ℕ)) → words ≡ word ∷ more → length (sentence words) ≡ before bs
      → length (sentence (cond feed ([] ∷ []) (cond space ([] ∷ words) (onto b words)))) ≡ cond (not feed) (1 + before bs) 0
  go true space words word more w h = refl
  go false true words word more w h =
      let same : length (fold spaced word more) ≡ before bs = ap (λ ws. length (sentence ws)) (sym w) ∙ h in
      let long : length (fold spaced (32 ∷ word) more) ≡ length (32 ∷ fold spaced word more) = ap length (fold_on 32 word more) in
      ap (λ ws. length (sentence ([] ∷ ws))) w ∙ omega (arith, same, long)
  go false false words word more w h =
      let same : length (fold spaced word more) ≡ before bs = ap (λ ws. length (sentence ws)) (sym w) ∙ h in
      let long : length (fold spaced (b ∷ word) more) ≡ length (b ∷ fold spaced word more) = ap length (fold_on b word more) in
      ap (λ ws. length (sentence (onto b ws))) w ∙ omega (arith, same, long)

front_no_feed : (xs ys : List ℕ) → before (xs ++ ys) ≡ length xs → NoFeed xs
front_no_feed [] ys e = tt
front_no_feed (b ∷ bs) ys e = go (is_feed b) refl e (front_no_feed bs ys) where
  go : (t : Bool) → is_feed b ≡ t → cond (not t) (1 + before (bs ++ ys)) 0 ≡ length (b ∷ bs) → (before (bs ++ ys) ≡ length bs → NoFeed bs) → NoFeed (b ∷ bs)
  go true f h later = absurd (omega (arith, h))
  go false f h later = (f, later (omega (arith, h)))

no_feed_len : (xs : List ℕ) → NoFeed xs → before xs ≡ length xs
no_feed_len [] none = refl
no_feed_len (b ∷ bs) none = let more = no_feed_len bs none.1 in ap (λ t. cond (not t) (1 + before bs) 0) none.0 ∙ omega (arith, more)

words_no_feed : (words : List (List ℕ)) → cut (line_of words ++ []) ≡ words → position is_feed (sentence words) ≡ None
words_no_feed words e =
    let xs = sentence words in
    let none = front_no_feed xs (10 ∷ []) (sym (cut_len (line_of words)) ∙ ap (λ ws. length (sentence ws)) (ap cut (sym (append-nil (line_of words))) ∙ e)) in
    let long = no_feed_len xs none in
    let f : nat_lt (position_or_len is_feed xs) (length xs) ≡ false = grind (arith, nat_tests, long) in
    ap (λ t. cond t (Some (position_or_len is_feed xs)) None) f

-- ---- the lines of a report

abbrev rec_sentence : Rec → List ℕ
rec_sentence r = sentence (rec_words r)

abbrev file_sentence : List ℕ × ℕ → List ℕ
file_sentence file = sentence (file_words file)

abbrev rec_lines : List Rec → List (List ℕ)
rec_lines [] = []
rec_lines (r ∷ recs) = rec_sentence r ∷ rec_lines recs

abbrev other_lines : List (List ℕ × ℕ) → List Rec → List (List ℕ)
other_lines [] recs = rec_lines recs
other_lines (file ∷ files) recs = file_sentence file ∷ other_lines files recs

rec_text : (recs : List Rec) → text_of (rec_lines recs) ≡ flat_map rec_line recs
rec_text [] = refl
rec_text (r ∷ recs) = sym (append_assoc (rec_sentence r) (10 ∷ []) (text_of (rec_lines recs))) ∙ ap (λ xs. rec_line r ++ xs) (rec_text recs)

other_text : (files : List (List ℕ × ℕ)) (recs : List Rec) → text_of (other_lines files recs) ≡ flat_map file_text files ++ flat_map rec_line recs
other_text [] recs = rec_text recs
other_text (file ∷ files) recs =
    sym (append_assoc (file_sentence file) (10 ∷ []) (text_of (other_lines files recs))) ∙ ap (λ xs. file_text file ++ xs) (other_text files recs)
    ∙ sym (append_assoc (file_text file) (flat_map file_text files) (flat_map rec_line recs))

recs_are_lines : (recs : List Rec) → AllByRecursion IsReadable recs → AreLines (rec_lines recs)
recs_are_lines [] fits = tt
recs_are_lines (r ∷ recs) fits = (words_no_feed (rec_words r) (cut-rec_line r [] (readable_in_range r fits.0)), recs_are_lines recs fits.1)

others_are_lines : (files before_them : List (List ℕ × ℕ)) (recs : List Rec) → MayBeAdded before_them files → AllByRecursion IsReadable recs → AreLines (other_lines files recs)
others_are_lines [] them recs may fits = recs_are_lines recs fits
others_are_lines (file ∷ files) them recs may fits =
    let visible = path_unspaced file.0 (and_parts (is_path file.0) (list_all is_no_question file.0) may.0).0 in
    (words_no_feed (file_words file) (cut-line_of (file_words file) [] (rw (plain-path file.0 visible, plain-decimal file.1) refl)), others_are_lines files (them ++ file ∷ []) recs may.3 fits)

plain-heading : (c : Config) → is_sentence (heading_words c) ≡ true
plain-heading c =
    rw (plain-decimal c.nodes, plain-decimal c.low, plain-decimal c.high, plain-decimal c.age, plain-decimal c.idle, plain-decimal c.over, plain-decimal c.miss, plain-decimal c.cache, plain-decimal c.stream) refl

heading_is_line : (c : Config) → position is_feed (sentence (heading_words c)) ≡ None
heading_is_line c = words_no_feed (heading_words c) (cut-line_of (heading_words c) [] (plain-heading c))

-- ---- they pass

abbrev Keep : Config → List (List ℕ × ℕ) → List Rec → List Rec → Type 0
Keep config files past recs = EachMay (λ past r. broken config files past r ≡ None) past recs

-- the line does not go past the limit
fits_in : (s : Course) (line : List ℕ) (lines : List (List ℕ)) → s.read + length (text_of (line ∷ lines)) ≤ MAX_REPORT_BYTES
    → (nat_lt MAX_REPORT_BYTES (s.read + length line + 1) ≡ false) × ((s.read + length line + 1) + length (text_of lines) ≤ MAX_REPORT_BYTES)
fits_in s line lines small =
    let all = length-append line (10 ∷ text_of lines) in
    let less : s.read + length line + 1 ≤ MAX_REPORT_BYTES = omega (arith, small, all) in
    (grind (arith, nat_tests, less), omega (arith, small, all))

-- lines that pass, to a course behind the heading
record PassTo (s : Course) (lines : List (List ℕ)) (journal : List Rec) : Type 0 where
  course : Course
  leads : AuditLeads s lines course
  later : course.stage ≢ stage.Heading
  journal_is : course.journal ≡ journal

records_later : stage.Records ≢ stage.Heading
records_later e = cc

recs_pass : (recs : List Rec) (s : Course) → s.stage ≢ stage.Heading → AllByRecursion IsReadable recs → Keep s.config s.files s.journal recs → s.read + length (text_of (rec_lines recs)) ≤ MAX_REPORT_BYTES → PassTo s (rec_lines recs) (s.journal ++ recs)
unfolding audit_entered
recs_pass [] s later fits keeps small = record { course = s; leads = refl; later = later; journal_is = sym (append-nil s.journal) }
recs_pass (r ∷ recs) s later fits keeps small =
    let line = rec_sentence r in
    let room = fits_in s line (rec_lines recs) small in
    let v = counted line (record s { stage = stage.Records; journal = s.journal ++ r ∷ [] }) in
    let more = recs_pass recs v records_later fits.1 keeps.1 room.1 in
    record {
      course = more.course;
      leads = (v, passed_by s line false room.0 ∙ ap (taken (s.lines + 1) line) (ruled-at s line s.stage refl later r (record_from line r (refl, fits.0)) ∙ ap (ruled s r) keeps.0), more.leads);
      later = more.later;
      journal_is = more.journal_is ∙ append_assoc s.journal (r ∷ []) recs;
    }

files_later : (s : Course) → s.stage ≡ stage.Files → s.stage ≢ stage.Heading
files_later s here e = let both : stage.Files ≡ stage.Heading = sym here ∙ e in cc

others_pass : (files : List (List ℕ × ℕ)) (recs : List Rec) (s : Course) → s.stage ≡ stage.Files → MayBeAdded s.files files → AllByRecursion IsReadable recs → Keep s.config (s.files ++ files) s.journal recs
    → s.read + length (text_of (other_lines files recs)) ≤ MAX_REPORT_BYTES → PassTo s (other_lines files recs) (s.journal ++ recs)
unfolding audit_entered
others_pass [] recs s here may fits keeps small = recs_pass recs s (files_later s here) fits (subst (λ files. Keep s.config files s.journal recs) (append-nil s.files) keeps) small
others_pass (file ∷ files) recs s here may fits keeps small =
    let line = file_sentence file in
    let room = fits_in s line (other_lines files recs) small in
    let v = counted line (record s { files = s.files ++ file ∷ [] }) in
    let more = others_pass files recs v here may.3 fits (subst (λ all. Keep s.config all s.journal recs) (sym (append_assoc s.files (file ∷ []) files)) keeps) room.1 in
    record {
      course = more.course;
      leads = (
        v,
        passed_by s line false room.0 ∙ ap (taken (s.lines + 1) line) (ap (λ at. entered_at at s line) here ∙ ap (audit_listed s line) (file_from line file.0 file.1 (refl, may.0, may.1)) ∙ ap (audit_filed s file) may.2),
        more.leads,
      );
      later = more.later;
      journal_is = more.journal_is;
    }

-- ---- the heading

-- a configuration that can be used has numbers below 2^64
key_checked : (c : Config) (key : Key) (keys : List Key) → checked_from c (key ∷ keys) ≡ Ok tt → (is_in_range key (value_of c key) ≡ true) × (checked_from c keys ≡ Ok tt)
key_checked c key keys e = go (is_in_range key (value_of c key)) refl e where
  go : (b : Bool) → is_in_range key (value_of c key) ≡ b → cond b (checked_from c keys) (Err (Range key (value_of c key))) ≡ Ok tt → (is_in_range key (value_of c key) ≡ true) × (checked_from c keys ≡ Ok tt)
  go true t h = (t, h)
  go false t h = cc

abbrev pub heading_with : Config → Heading
heading_with c = record { nodes = c.nodes; low = c.low; high = c.high; age = c.age; idle = c.idle; over = c.over; miss = c.miss; cache = c.cache; stream = c.stream }

pub wide : (c : Config) → config_check c ≡ Ok tt → IsHeadingWide (heading_with c)
wide c e =
    let first = key_checked c Nodes (Low ∷ High ∷ Age ∷ Idle ∷ Over ∷ Miss ∷ Cache ∷ Stream ∷ []) e in
    let second = key_checked c Low (High ∷ Age ∷ Idle ∷ Over ∷ Miss ∷ Cache ∷ Stream ∷ []) first.1 in
    let third = key_checked c High (Age ∷ Idle ∷ Over ∷ Miss ∷ Cache ∷ Stream ∷ []) second.1 in
    let fourth = key_checked c Age (Idle ∷ Over ∷ Miss ∷ Cache ∷ Stream ∷ []) third.1 in
    let fifth = key_checked c Idle (Over ∷ Miss ∷ Cache ∷ Stream ∷ []) fourth.1 in
    let sixth = key_checked c Over (Miss ∷ Cache ∷ Stream ∷ []) fifth.1 in
    let seventh = key_checked c Miss (Cache ∷ Stream ∷ []) sixth.1 in
    let eighth = key_checked c Cache (Stream ∷ []) seventh.1 in
    let ninth = key_checked c Stream [] eighth.1 in
    let nodes = (within 1 64 c.nodes first.0).1 in
    let low = (within 1 1000 c.low second.0).1 in
    let high = (within 1 1000 c.high third.0).1 in
    let age = (within 0 (2 ^ 32 - 1) c.age fourth.0).1 in
    let idle = (within 0 1000000 c.idle fifth.0).1 in
    let over = (within 0 1000000 c.over sixth.0).1 in
    let miss = (within 0 1000000 c.miss seventh.0).1 in
    let cache = (within 1 (2 ^ 30) c.cache eighth.0).1 in
    let stream = (within 1 (2 ^ 30) c.stream ninth.0).1 in
    (omega (arith, nodes), omega (arith, low), omega (arith, high), omega (arith, age), omega (arith, idle), omega (arith, over), omega (arith, miss), omega (arith, cache), omega (arith, stream))

heading_passes : (c : Config) → config_check c ≡ Ok tt → audit_entered audit_begin (sentence (heading_words c)) ≡ Ok (record audit_begin { stage = stage.Files; config = c; files = []; journal = [] })
unfolding audit_entered heading_line
heading_passes c usable =
    ap (headed audit_begin) (heading_from (sentence (heading_words c)) (heading_with c) (refl, wide c usable)) ∙ ap (λ given. begun audit_begin (audit_configured c given)) usable

-- ---- the whole text

ended-so : (t : Course) → t.stage ≢ stage.Heading → (at : Stage) → t.stage ≡ at → ended_at t at ≡ Sound (length t.journal)
ended-so t later stage.Heading e = absurd (later e)
ended-so t later stage.Files e = refl
ended-so t later stage.Records e = refl

pub sound_passes : (text : List ℕ) (r : IsSoundReport text) → length text ≤ MAX_REPORT_BYTES → audited text ≡ Sound (length r.journal)
unfolding audited heading_line
sound_passes text r small =
    let first = sentence (heading_words r.config) in
    let others = other_lines r.files r.journal in
    let same : text_of (first ∷ others) ≡ text =
    sym (append_assoc first (10 ∷ []) (text_of others)) ∙ ap (λ xs. heading_line r.config ++ xs) (other_text r.files r.journal)
    ∙ sym (append_assoc (heading_line r.config) (flat_map file_text r.files) (flat_map rec_line r.journal)) ∙ sym r.is in
    let long : length (text_of (first ∷ others)) ≡ length text = ap length same in
    let room = fits_in audit_begin first others (omega (arith, small, long)) in
    let v = counted first (record audit_begin { stage = stage.Files; config = r.config; files = []; journal = [] }) in
    let more = others_pass r.files r.journal v refl r.addable r.readable r.sound room.1 in
    let leads : AuditLeads audit_begin (first ∷ others) more.course = (v, passed_by audit_begin first false room.0 ∙ ap (taken 1 first) (heading_passes r.config r.usable), more.leads) in
    let are : lines_of text ≡ (first ∷ others) ++ [] ∷ [] = ap lines_of (sym same) ∙ cut_again (first ∷ others) (heading_is_line r.config, others_are_lines r.files [] r.journal r.addable r.readable) in
    ap (audit_judged audit_begin) are ∙ leads_judged audit_begin more.course (first ∷ others) [] [] leads ∙ ended-so more.course more.later more.course.stage refl ∙ ap (λ J. Sound (length J)) more.journal_is
