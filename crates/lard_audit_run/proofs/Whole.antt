-- What a text that passes is: a heading, the lines of files and those of records.
use Rattle.std.proofs.Common.{◌≡◌, ◌≢◌, ℕ, ◌⊎◌, inl, inr, ◌+◌, ◌≤◌, List, [], ◌∷◌, ◌++◌, length, Option, Some, None, Result, Ok, Err, refl, sym, ap, ◌∙◌, subst, append_assoc, append-nil, arith, length-append}
use Rattle.std.specs.List.{AllByRecursion, flat_map}
use Rattle.lard_audit.specs.Sound.{broken}
use Rattle.lard_audit.specs.State.{audit_add_check}
use Rattle.lard_audit.specs.declared.rule.Rule.{Rule}
use Rattle.lard_base.specs.Config.{config_check}
use Rattle.lard_base.specs.declared.config.Config.{Config}
use Rattle.lard_base.specs.declared.config.ConfigFault.{ConfigFault}
use Rattle.lard_files.specs.declared.fault.FileFault.{FileFault}
use Rattle.lard_grammar.specs.Schedule.{text_of}
use Rattle.lard_grammar.proofs.Texts.{joined}
use Rattle.lard_history.specs.Laws.{EachMay}
use Rattle.lard_journal.specs.Report.{file_text, heading_line, rec_line}
use Rattle.lard_journal.specs.declared.rec.Rec.{Rec}
use Rattle.lard_lines.specs.Lines.{lines_of}
use Rattle.lard_report.specs.Laws.{IsLineOfRecord}
use Rattle.lard_report.specs.Preface.{heading_config, file_line_of, heading_of}
use Rattle.lard_report.specs.Readable.{IsReadable}
use Rattle.lard_report.specs.Records.{record_of}
use Rattle.lard_report.specs.declared.preface.Heading.{Heading}
use Rattle.lard_report.proofs.Lines.{record_told}
use Rattle.lard_report.proofs.Prefaces.{file_told, heading_told}
use Rattle.lard_audit_run.specs.declared.auditor.Stage.TheVariants as stage
use Rattle.lard_audit_run.specs.declared.auditor.TheConstants.{MAX_REPORT_BYTES}
use Rattle.lard_audit_run.specs.declared.verdict.Verdict.TheVariants.{Sound}
use Rattle.lard_audit_run.specs.Audited.{Course, AuditLeads, audited, audit_begin, begun, audit_configured, counted, audit_entered, entered_at, audit_filed, headed, audit_listed, recorded, ruled}
use Rattle.lard_audit_run.specs.Causes.{AuditEndsRest, IsFileOf, IsHeadingOf}
use Rattle.lard_audit_run.specs.Reports.{IsSoundReport, MayBeAdded}
use Rattle.lard_audit_run.proofs.Causes.{caused}
use Rattle.lard_audit_run.proofs.Passing.{ok_is, passed-took}

-- ---- a line that passed

module _ (s u : Course) (line : List ℕ) where
  -- it is that of a record, which breaks no rule
  record RecordCame : Type 0 where
    r : Rec
    told : IsLineOfRecord line r
    keeps : broken s.config s.files s.journal r ≡ None
    is : u ≡ record s { stage = stage.Records; journal = s.journal ++ r ∷ [] }

  -- it is that of a file, which may be added
  record FileCame : Type 0 where
    path : List ℕ
    size : ℕ
    told : IsFileOf line path size
    added : audit_add_check s.files path size ≡ Ok tt
    is : u ≡ record s { files = s.files ++ (path, size) ∷ [] }

  -- it is a heading, of a configuration that can be used
  record HeadingCame : Type 0 where
    h : Heading
    told : IsHeadingOf line h
    usable : config_check (heading_config h) ≡ Ok tt
    is : u ≡ record s { stage = stage.Files; config = heading_config h; files = []; journal = [] }

  ruled-came : (r : Rec) → record_of line ≡ Some r → (rule : Option Rule) → broken s.config s.files s.journal r ≡ rule → ruled s r rule ≡ Ok u → RecordCame
  ruled-came r is None b e = record { r = r; told = record_told line r is; keeps = b; is = sym (ok_is _ u e) }
  ruled-came r is (Some rule) b e = cc

  recorded-came : (o : Option Rec) → record_of line ≡ o → recorded s o ≡ Ok u → RecordCame
  recorded-came (Some r) is e = ruled-came r is (broken s.config s.files s.journal r) refl e
  recorded-came None is e = cc

  filed-came : (path : List ℕ) (size : ℕ) → file_line_of line ≡ Some (path, size) → (given : Result (Unit {0}) FileFault) → audit_add_check s.files path size ≡ given → audit_filed s (path, size) given ≡ Ok u → FileCame
  filed-came path size is (Ok tt) a e = record { path = path; size = size; told = file_told line path size is; added = a; is = sym (ok_is _ u e) }
  filed-came path size is (Err fault) a e = cc

  listed-came : (o : Option (List ℕ × ℕ)) → file_line_of line ≡ o → audit_listed s line o ≡ Ok u → FileCame ⊎ RecordCame
  listed-came (Some (path, size)) is e = inl (filed-came path size is (audit_add_check s.files path size) refl e)
  listed-came None is e = inr (recorded-came (record_of line) refl e)

  begun-came : (h : Heading) → heading_of line ≡ Some h → (given : Result (Unit {0}) ConfigFault) → config_check (heading_config h) ≡ given → begun s (audit_configured (heading_config h) given) ≡ Ok u → HeadingCame
  begun-came h is (Ok tt) c e = record { h = h; told = heading_told line h is; usable = c; is = sym (ok_is _ u e) }
  begun-came h is (Err fault) c e = cc

  headed-came : (o : Option Heading) → heading_of line ≡ o → headed s o ≡ Ok u → HeadingCame
  headed-came (Some h) is e = begun-came h is (config_check (heading_config h)) refl e
  headed-came None is e = cc

  at-records : s.stage ≡ stage.Records → audit_entered s line ≡ Ok u → RecordCame
  unfolding audit_entered
  at-records here e = recorded-came (record_of line) refl (sym (ap (λ at. entered_at at s line) here) ∙ e)

  at-files : s.stage ≡ stage.Files → audit_entered s line ≡ Ok u → FileCame ⊎ RecordCame
  unfolding audit_entered
  at-files here e = listed-came (file_line_of line) refl (sym (ap (λ at. entered_at at s line) here) ∙ e)

  at-heading : s.stage ≡ stage.Heading → audit_entered s line ≡ Ok u → HeadingCame
  unfolding audit_entered
  at-heading here e = headed-came (heading_of line) refl (sym (ap (λ at. entered_at at s line) here) ∙ e)

-- ---- lines that passed

-- a line in front of others, with its line feed
fed_text : (line : List ℕ) (lines : List (List ℕ)) → text_of (line ∷ lines) ≡ (line ++ 10 ∷ []) ++ text_of lines
fed_text line lines = sym (append_assoc line (10 ∷ []) (text_of lines))

-- each record breaks no rule behind those before
abbrev Keep : Config → List (List ℕ × ℕ) → List Rec → List Rec → Type 0
Keep config files past recs = EachMay (λ past r. broken config files past r ≡ None) past recs

-- they are the lines of records, each of which breaks no rule
record RecordsCame (s t : Course) (lines : List (List ℕ)) : Type 0 where
  recs : List Rec
  text : text_of lines ≡ flat_map rec_line recs
  readable : AllByRecursion IsReadable recs
  sound : Keep s.config s.files s.journal recs
  journal : t.journal ≡ s.journal ++ recs
  config : t.config ≡ s.config

records-came : (lines : List (List ℕ)) (s t : Course) → s.stage ≡ stage.Records → AuditLeads s lines t → RecordsCame s t lines
records-came [] s t here l = record {
  recs = [];
  text = refl;
  readable = tt;
  sound = tt;
  journal = ap (λ (v : Course). v.journal) (sym l) ∙ sym (append-nil s.journal);
  config = ap (λ (v : Course). v.config) (sym l);
}
records-came (line ∷ lines) s t here l =
    let took = passed-took s l.0 line l.1 in
    let came = at-records s took.mid line here took.enters in
    let v = counted line (record s { stage = stage.Records; journal = s.journal ++ came.r ∷ [] }) in
    let v-is : l.0 ≡ v = took.is ∙ ap (counted line) came.is in
    let more = records-came lines v t refl (subst (λ (u : Course). AuditLeads u lines t) v-is l.2) in
    record {
      recs = came.r ∷ more.recs;
      text = fed_text line lines ∙ ap (λ xs. xs ++ text_of lines) came.told.0 ∙ ap (λ xs. rec_line came.r ++ xs) more.text;
      readable = (came.told.1, more.readable);
      sound = (came.keeps, more.sound);
      journal = more.journal ∙ append_assoc s.journal (came.r ∷ []) more.recs;
      config = more.config;
    }

-- they are the lines of files and then of records
record FilesCame (s t : Course) (lines : List (List ℕ)) : Type 0 where
  files : List (List ℕ × ℕ)
  recs : List Rec
  text : text_of lines ≡ flat_map file_text files ++ flat_map rec_line recs
  addable : MayBeAdded s.files files
  readable : AllByRecursion IsReadable recs
  sound : Keep s.config (s.files ++ files) s.journal recs
  journal : t.journal ≡ s.journal ++ recs
  config : t.config ≡ s.config

files-came : (lines : List (List ℕ)) (s t : Course) → s.stage ≡ stage.Files → AuditLeads s lines t → FilesCame s t lines
files-came [] s t here l = record {
  files = [];
  recs = [];
  text = refl;
  addable = tt;
  readable = tt;
  sound = tt;
  journal = ap (λ (v : Course). v.journal) (sym l) ∙ sym (append-nil s.journal);
  config = ap (λ (v : Course). v.config) (sym l);
}
files-came (line ∷ lines) s t here l = go (at-files s (passed-took s l.0 line l.1).mid line here (passed-took s l.0 line l.1).enters) (λ v same k. files-came lines v t same k) where
  go : FileCame s (passed-took s l.0 line l.1).mid line ⊎ RecordCame s (passed-took s l.0 line l.1).mid line → ((v : Course) → v.stage ≡ stage.Files → AuditLeads v lines t → FilesCame v t lines) → FilesCame s t (line ∷ lines)
  go (inl came) later =
      let file : List ℕ × ℕ = (came.path, came.size) in
      let v = counted line (record s { files = s.files ++ file ∷ [] }) in
      let v-is : l.0 ≡ v = (passed-took s l.0 line l.1).is ∙ ap (counted line) came.is in
      let more = later v here (subst (λ (u : Course). AuditLeads u lines t) v-is l.2) in
      record {
        files = file ∷ more.files;
        recs = more.recs;
        text = fed_text line lines ∙ ap (λ xs. xs ++ text_of lines) came.told.0 ∙ ap (λ xs. file_text file ++ xs) more.text
            ∙ sym (append_assoc (file_text file) (flat_map file_text more.files) (flat_map rec_line more.recs));
        addable = (came.told.1, came.told.2, came.added, more.addable);
        readable = more.readable;
        sound = subst (λ files. Keep s.config files s.journal more.recs) (append_assoc s.files (file ∷ []) more.files) more.sound;
        journal = more.journal;
        config = more.config;
      }
  go (inr came) later =
      let v = counted line (record s { stage = stage.Records; journal = s.journal ++ came.r ∷ [] }) in
      let v-is : l.0 ≡ v = (passed-took s l.0 line l.1).is ∙ ap (counted line) came.is in
      let more = records-came lines v t refl (subst (λ (u : Course). AuditLeads u lines t) v-is l.2) in
      record {
        files = [];
        recs = came.r ∷ more.recs;
        text = fed_text line lines ∙ ap (λ xs. xs ++ text_of lines) came.told.0 ∙ ap (λ xs. rec_line came.r ++ xs) more.text;
        addable = tt;
        readable = (came.told.1, more.readable);
        sound = subst (λ files. Keep s.config files s.journal (came.r ∷ more.recs)) (sym (append-nil s.files)) (came.keeps, more.sound);
        journal = more.journal ∙ append_assoc s.journal (came.r ∷ []) more.recs;
        config = more.config;
      }

-- lines that pass have no more bytes than a report may have
leads-read : (lines : List (List ℕ)) (s t : Course) → AuditLeads s lines t → s.read ≤ MAX_REPORT_BYTES → (s.read + length (text_of lines) ≡ t.read) × (t.read ≤ MAX_REPORT_BYTES)
leads-read [] s t l most = (let same = ap (λ (v : Course). v.read) l in omega (arith, same), subst (λ (v : Course). v.read ≤ MAX_REPORT_BYTES) l most)
leads-read (line ∷ lines) s t l most =
    let took = passed-took s l.0 line l.1 in
    let more = leads-read lines l.0 t l.2 (omega (arith, took.read, took.within)) in
    (let all = length-append line (10 ∷ text_of lines) in omega (arith, more.0, took.read, all), more.1)

-- ---- a text that passes

-- what passed, and how many records it has
pub record Passed (text : List ℕ) (n : ℕ) : Type 0 where
  pub small : length text ≤ MAX_REPORT_BYTES
  pub report : IsSoundReport text
  pub count : n ≡ length report.journal

passed-whole : (text : List ℕ) (n : ℕ) (before : List (List ℕ)) (t : Course) → lines_of text ≡ before ++ [] ∷ [] → AuditLeads audit_begin before t → t.stage ≢ stage.Heading → n ≡ length t.journal → Passed text n
passed-whole text n [] t are l later count = absurd (later (ap (λ (v : Course). v.stage) (sym l)))
passed-whole text n (line ∷ lines) t are l later count =
    let took = passed-took audit_begin l.0 line l.1 in
    let came = at-heading audit_begin took.mid line refl took.enters in
    let v = counted line (record audit_begin { stage = stage.Files; config = heading_config came.h; files = []; journal = [] }) in
    let v-is : l.0 ≡ v = took.is ∙ ap (counted line) came.is in
    let more = files-came lines v t refl (subst (λ (u : Course). AuditLeads u lines t) v-is l.2) in
    let made = joined (line ∷ lines) text are in
    let read = leads-read (line ∷ lines) audit_begin t l (omega arith) in
    let long : length text ≡ length (text_of (line ∷ lines)) = ap length made.0 in
    record {
      small = omega (arith, read.0, read.1, long);
      report = record {
        config = heading_config came.h;
        files = more.files;
        journal = more.recs;
        is = made.0 ∙ fed_text line lines ∙ ap (λ xs. xs ++ text_of lines) came.told.0 ∙ ap (λ xs. heading_line (heading_config came.h) ++ xs) more.text
            ∙ sym (append_assoc (heading_line (heading_config came.h)) (flat_map file_text more.files) (flat_map rec_line more.recs));
        usable = came.usable;
        addable = more.addable;
        readable = more.readable;
        sound = more.sound;
      };
      count = count ∙ ap length more.journal;
    }

ends-sound : (text : List ℕ) (n : ℕ) (before rest : List (List ℕ)) (t : Course) (m bytes : ℕ) → lines_of text ≡ before ++ rest → AuditLeads audit_begin before t → AuditEndsRest t m bytes rest (Sound n) → Passed text n
ends-sound text n before [] t m bytes are l e = absurd e
ends-sound text n before (last ∷ []) t m bytes are l e = passed-whole text n before t (are ∙ ap (λ xs. before ++ xs ∷ []) e.0) l e.1 e.2
ends-sound text n before (line ∷ next ∷ more) t m bytes are l e = absurd e

-- a text that passes is a sound report
pub sound_passed : (text : List ℕ) (n : ℕ) → audited text ≡ Sound n → Passed text n
sound_passed text n e = let cause = (caused text (Sound n)).0 e in ends-sound text n cause.before cause.rest cause.course _ _ cause.are cause.leads cause.ends
