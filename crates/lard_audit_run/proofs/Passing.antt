-- What a line that passes counts, and what one does that goes past the limit.
use Rattle.std.proofs.Common.{◌≡◌, ◌≢◌, ℕ, ◌+◌, ◌≤◌, ◌<◌, List, [], ◌∷◌, length, Bool, true, false, cond, Option, Some, None, Result, Ok, Err, refl, sym, ap, ◌∙◌, subst, arith}
use Rattle.std.proofs.lemmas.Bool.Decides.{nat_tests}
use Rattle.std.specs.Prelude.{nat_lt}
use Rattle.lard_audit.specs.Sound.{broken}
use Rattle.lard_audit.specs.State.{audit_add_check}
use Rattle.lard_audit.specs.declared.rule.Rule.{Rule}
use Rattle.lard_base.specs.Config.{config_check}
use Rattle.lard_base.specs.declared.config.ConfigFault.{ConfigFault}
use Rattle.lard_base.specs.declared.config.Config.{Config}
use Rattle.lard_files.specs.declared.fault.FileFault.{FileFault}
use Rattle.lard_journal.specs.declared.rec.Rec.{Rec}
use Rattle.lard_report.specs.Preface.{heading_config, file_line_of, heading_of}
use Rattle.lard_report.specs.Records.{record_of}
use Rattle.lard_report.specs.declared.preface.Heading.{Heading}
use Rattle.lard_audit_run.specs.declared.auditor.Stage.{Stage}
use Rattle.lard_audit_run.specs.declared.auditor.Stage.TheVariants as stage
use Rattle.lard_audit_run.specs.declared.auditor.TheConstants.{MAX_REPORT_BYTES}
use Rattle.lard_audit_run.specs.declared.verdict.Flaw.{Flaw}
use Rattle.lard_audit_run.specs.declared.verdict.Flaw.TheVariants as flaw
use Rattle.lard_audit_run.specs.declared.verdict.Verdict.{Verdict}
use Rattle.lard_audit_run.specs.declared.verdict.Verdict.TheVariants.{Refused, TooLong}
use Rattle.lard_audit_run.specs.Audited.{Course, begun, audit_configured, counted, audit_ending, audit_entered, entered_at, audit_filed, headed, audit_listed, audit_passed, recorded, ruled, taken}

-- what a line leads to, once it is known whether it goes past the limit
pub passed_by : (s : Course) (line : List ℕ) (b : Bool) → nat_lt MAX_REPORT_BYTES (s.read + length line + 1) ≡ b
    → audit_passed s line ≡ cond b (Err (TooLong (s.lines + 1))) (taken (s.lines + 1) line (audit_entered s line))
unfolding audit_passed
passed_by s line b e = ap (λ t. cond {A = Result Course Verdict} t (Err (TooLong (s.lines + 1))) (taken (s.lines + 1) line (audit_entered s line))) e

-- an answer that is known
pub ok_is : {A E : Type 0} (x y : A) → ◌≡◌ {A = Result A E} (Ok x) (Ok y) → x ≡ y
ok_is x y e = cc

-- ---- what a line stands for counts no line

abbrev HaveRead : Course → Course → Type 0
HaveRead s t = (t.lines ≡ s.lines) × (t.read ≡ s.read)

module _ (s t : Course) where
  read_as : (u : Course) → HaveRead s u → ◌≡◌ {A = Result Course Flaw} (Ok u) (Ok t) → HaveRead s t
  read_as u h e = subst (HaveRead s) (ok_is u t e) h

  begun-read : (r : Result Config ConfigFault) → begun s r ≡ Ok t → HaveRead s t
  begun-read (Ok config) e = read_as _ (refl, refl) e
  begun-read (Err fault) e = cc

  headed-read : (h : Option Heading) → headed s h ≡ Ok t → HaveRead s t
  headed-read (Some h) e = begun-read (audit_configured (heading_config h) (config_check (heading_config h))) e
  headed-read None e = cc

  filed-read : (file : List ℕ × ℕ) (r : Result (Unit {0}) FileFault) → audit_filed s file r ≡ Ok t → HaveRead s t
  filed-read file (Ok done) e = read_as _ (refl, refl) e
  filed-read file (Err fault) e = cc

  ruled-read : (r : Rec) (rule : Option Rule) → ruled s r rule ≡ Ok t → HaveRead s t
  ruled-read r None e = read_as _ (refl, refl) e
  ruled-read r (Some rule) e = cc

  recorded-read : (r : Option Rec) → recorded s r ≡ Ok t → HaveRead s t
  recorded-read (Some r) e = ruled-read r (broken s.config s.files s.journal r) e
  recorded-read None e = cc

  listed-read : (line : List ℕ) (file : Option (List ℕ × ℕ)) → audit_listed s line file ≡ Ok t → HaveRead s t
  listed-read line (Some file) e = filed-read file (audit_add_check s.files file.0 file.1) e
  listed-read line None e = recorded-read (record_of line) e

  entered_at-read : (at : Stage) (line : List ℕ) → entered_at at s line ≡ Ok t → HaveRead s t
  entered_at-read stage.Heading line e = headed-read (heading_of line) e
  entered_at-read stage.Files line e = listed-read line (file_line_of line) e
  entered_at-read stage.Records line e = recorded-read (record_of line) e

  pub entered-read : (line : List ℕ) → audit_entered s line ≡ Ok t → HaveRead s t
  unfolding audit_entered
  entered-read line e = entered_at-read s.stage line e

-- ---- lines

-- what a line that passes leads to
pub record Took (s t : Course) (line : List ℕ) : Type 0 where
  pub mid : Course
  pub within : s.read + length line + 1 ≤ MAX_REPORT_BYTES
  pub enters : audit_entered s line ≡ Ok mid
  pub is : t ≡ counted line mid
  pub lines : t.lines ≡ s.lines + 1
  pub read : t.read ≡ s.read + length line + 1

pub passed-took : (s t : Course) (line : List ℕ) → audit_passed s line ≡ Ok t → Took s t line
passed-took s t line e = go (nat_lt MAX_REPORT_BYTES (s.read + length line + 1)) (audit_entered s line) refl refl where
  go : (b : Bool) (given : Result Course Flaw) → nat_lt MAX_REPORT_BYTES (s.read + length line + 1) ≡ b → audit_entered s line ≡ given → Took s t line
  go true given p i = let both : Err (TooLong (s.lines + 1)) ≡ Ok t = sym (passed_by s line true p) ∙ e in cc
  go false (Err fault) p i = let both : Err (Refused (s.lines + 1) fault) ≡ Ok t = sym (passed_by s line false p ∙ ap (taken (s.lines + 1) line) i) ∙ e in cc
  go false (Ok u) p i =
      let both : ◌≡◌ {A = Result Course Verdict} (Ok (counted line u)) (Ok t) = sym (passed_by s line false p ∙ ap (taken (s.lines + 1) line) i) ∙ e in
      let is : counted line u ≡ t = cc in
      let both-read = entered-read s u line i in
      record {
        mid = u;
        within = grind (arith, nat_tests, p);
        enters = i;
        is = sym is;
        lines = ap (λ (v : Course). v.lines) (sym is) ∙ ap (λ n. n + 1) both-read.0;
        read = ap (λ (v : Course). v.read) (sym is) ∙ ap (λ n. n + length line + 1) both-read.1;
      }

-- ---- past the limit

-- a line that goes past the limit before its line feed does so with it
pub past_as_line : (s : Course) (line : List ℕ) → MAX_REPORT_BYTES < s.read + length line → audit_passed s line ≡ Err (TooLong (s.lines + 1))
past_as_line s line l =
    let past : nat_lt MAX_REPORT_BYTES (s.read + length line + 1) ≡ true = grind (arith, nat_tests, l) in passed_by s line true past

pub past_at_end : (s : Course) (last : List ℕ) → MAX_REPORT_BYTES < s.read + length last → last ≢ [] → audit_ending s last ≡ TooLong (s.lines + 1)
past_at_end s [] l some = absurd (some refl)
past_at_end s (b ∷ bs) l some =
    let past : nat_lt MAX_REPORT_BYTES (s.read + length (b ∷ bs)) ≡ true = grind (arith, nat_tests, l) in
    ap (λ u. cond u (TooLong (s.lines + 1)) (Refused (s.lines + 1) flaw.Syntax)) past
