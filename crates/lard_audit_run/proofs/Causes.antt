-- A verdict comes exactly where its cause is there.
use Rattle.std.proofs.Common.{◌≡◌, ◌≢◌, inl, inr, ⊎_elim, ◌↔◌, ℕ, ◌+◌, ◌≤◌, ◌<◌, suc, List, [], ◌∷◌, ◌++◌, length, Bool, true, false, cond, Option, Some, None, Result, Ok, Err, refl, sym, ap, ◌∙◌, subst, arith}
use Rattle.std.proofs.lemmas.Bool.Decides.{nat_tests}
use Rattle.std.specs.Prelude.{nat_lt}
use Rattle.lard_audit.specs.Sound.{broken}
use Rattle.lard_audit.specs.State.{audit_add_check}
use Rattle.lard_audit.specs.declared.rule.Rule.{Rule}
use Rattle.lard_base.specs.Config.{config_check}
use Rattle.lard_base.specs.declared.config.ConfigFault.{ConfigFault}
use Rattle.lard_files.specs.declared.fault.FileFault.{FileFault}
use Rattle.lard_journal.specs.declared.rec.Rec.{Rec}
use Rattle.lard_lines.specs.Lines.{is_feed, lines_of}
use Rattle.lard_report.specs.Laws.{IsLineOfRecord}
use Rattle.lard_report.specs.Preface.{heading_config, file_line_of, heading_of}
use Rattle.lard_report.specs.Records.{record_of}
use Rattle.lard_report.specs.declared.preface.Heading.{Heading}
use Rattle.lard_report.proofs.Lines.{record_from, record_told}
use Rattle.lard_report.proofs.Prefaces.{file_from, file_told, heading_from, heading_told}
use Rattle.lard_schedule.proofs.Cuts.{first_part}
use Rattle.lard_audit_run.specs.declared.auditor.Stage.{Stage}
use Rattle.lard_audit_run.specs.declared.auditor.Stage.TheVariants as stage
use Rattle.lard_audit_run.specs.declared.auditor.TheConstants.{MAX_REPORT_BYTES}
use Rattle.lard_audit_run.specs.declared.verdict.Flaw.{Flaw}
use Rattle.lard_audit_run.specs.declared.verdict.Flaw.TheVariants as flaw
use Rattle.lard_audit_run.specs.declared.verdict.Verdict.{Verdict}
use Rattle.lard_audit_run.specs.declared.verdict.Verdict.TheVariants.{Sound, Refused, TooLong, ReadFault, WriteFault, NoMemory}
use Rattle.lard_audit_run.specs.Audited.{Course, AuditLeads, audited, audit_begin, begun, audit_configured, ended_at, audit_ending, audit_entered, entered_at, audit_filed, headed, audit_judged, audit_listed, audit_passed, recorded, ruled, taken}
use Rattle.lard_audit_run.specs.Causes.{AuditCause, AuditEndsLine, AuditEndsRest, AuditEndsText, IsFileOf, IsHeadingOf, IsAuditNone, AuditRefuses, audit_bytes_in}
use Rattle.lard_audit_run.proofs.Apart.{file_no_record}
use Rattle.lard_audit_run.proofs.Passing.{passed-took, passed_by}

-- a course that so many lines of so many bytes led to
abbrev Knows : ℕ → ℕ → Course → Type 0
Knows n bytes s = (s.lines ≡ n) × (s.read ≡ bytes) × (bytes ≤ MAX_REPORT_BYTES)

passed-knows : (n bytes : ℕ) (s u : Course) (line : List ℕ) → Knows n bytes s → audit_passed s line ≡ Ok u → Knows (n + 1) (bytes + (length line + 1)) u
passed-knows n bytes s u line k e =
    let took = passed-took s u line e in (took.lines ∙ ap (λ m. m + 1) k.0, omega (arith, took.read, k.1), omega (arith, took.within, k.1))

-- ---- why a line is refused

module _ (s : Course) (line : List ℕ) where
  -- two answers that are one
  same_flaw : (f g : Flaw) → ◌≡◌ {A = Result Course Flaw} (Err f) (Err g) → f ≡ g
  same_flaw f g e = cc

  no_flaw : (t : Course) (g : Flaw) → ◌≡◌ {A = Result Course Flaw} (Ok t) (Err g) → ⊥
  no_flaw t g e = cc

  none_told : (A : Type 0) (o : Option A) (x : A) → o ≡ None → o ≡ Some x → ⊥
  none_told A o x e f = let both : None ≡ Some x = sym e ∙ f in cc

  no-heading : heading_of line ≡ None → (h : Heading) → ¬ IsHeadingOf line h
  no-heading e h is = none_told Heading (heading_of line) h e (heading_from line h is)

  no-file : file_line_of line ≡ None → (path : List ℕ) (size : ℕ) → ¬ IsFileOf line path size
  no-file e path size is = none_told (List ℕ × ℕ) (file_line_of line) (path, size) e (file_from line path size is)

  no-record : record_of line ≡ None → (r : Rec) → ¬ IsLineOfRecord line r
  no-record e r is = none_told Rec (record_of line) r e (record_from line r is)

  refused-ruled : (s.stage ≢ stage.Heading) → (r : Rec) → record_of line ≡ Some r → (rule : Option Rule) → broken s.config s.files s.journal r ≡ rule → (f : Flaw) → ruled s r rule ≡ Err f → AuditRefuses s line f
  refused-ruled later r is None b f e = absurd (no_flaw _ f e)
  refused-ruled later r is (Some rule) b f e = subst (AuditRefuses s line) (same_flaw (flaw.Broken rule) f e) (later, (r, record_told line r is, b))

  refused-recorded : (s.stage ≢ stage.Heading) → (((r : Rec) → ¬ IsLineOfRecord line r) → IsAuditNone line s.stage) → (o : Option Rec) → record_of line ≡ o → (f : Flaw) → recorded s o ≡ Err f → AuditRefuses s line f
  refused-recorded later none None is f e = subst (AuditRefuses s line) (same_flaw flaw.Syntax f e) (none (no-record is))
  refused-recorded later none (Some r) is f e = refused-ruled later r is (broken s.config s.files s.journal r) refl f e

  refused-filed : s.stage ≡ stage.Files → (path : List ℕ) (size : ℕ) → file_line_of line ≡ Some (path, size) → (given : Result (Unit {0}) FileFault) → audit_add_check s.files path size ≡ given → (f : Flaw) → audit_filed s (path, size) given ≡ Err f → AuditRefuses s line f
  refused-filed here path size is (Ok done) a f e = absurd (no_flaw _ f e)
  refused-filed here path size is (Err fault) a f e = subst (AuditRefuses s line) (same_flaw (flaw.File fault) f e) (here, (path, size, file_told line path size is, a))

  refused-begun : s.stage ≡ stage.Heading → (h : Heading) → heading_of line ≡ Some h → (given : Result (Unit {0}) ConfigFault) → config_check (heading_config h) ≡ given → (f : Flaw) → begun s (audit_configured (heading_config h) given) ≡ Err f → AuditRefuses s line f
  refused-begun here h is (Ok done) c f e = absurd (no_flaw _ f e)
  refused-begun here h is (Err fault) c f e = subst (AuditRefuses s line) (same_flaw (flaw.Config fault) f e) (here, (h, heading_told line h is, c))

  refused-headed : s.stage ≡ stage.Heading → (o : Option Heading) → heading_of line ≡ o → (f : Flaw) → headed s o ≡ Err f → AuditRefuses s line f
  refused-headed here None is f e = subst (AuditRefuses s line) (same_flaw flaw.Syntax f e) (subst (IsAuditNone line) (sym here) (no-heading is))
  refused-headed here (Some h) is f e = refused-begun here h is (config_check (heading_config h)) refl f e

  files-later : s.stage ≡ stage.Files → s.stage ≢ stage.Heading
  files-later here e = let both : stage.Files ≡ stage.Heading = sym here ∙ e in cc

  records-later : s.stage ≡ stage.Records → s.stage ≢ stage.Heading
  records-later here e = let both : stage.Records ≡ stage.Heading = sym here ∙ e in cc

  refused-listed : s.stage ≡ stage.Files → (o : Option (List ℕ × ℕ)) → file_line_of line ≡ o → (f : Flaw) → audit_listed s line o ≡ Err f → AuditRefuses s line f
  refused-listed here None is f e = refused-recorded (files-later here) (λ none. subst (IsAuditNone line) (sym here) (no-file is, none)) (record_of line) refl f e
  refused-listed here (Some (path, size)) is f e = refused-filed here path size is (audit_add_check s.files path size) refl f e

  refused-at : (at : Stage) → s.stage ≡ at → (f : Flaw) → entered_at at s line ≡ Err f → AuditRefuses s line f
  refused-at stage.Heading here f e = refused-headed here (heading_of line) refl f e
  refused-at stage.Files here f e = refused-listed here (file_line_of line) refl f e
  refused-at stage.Records here f e = refused-recorded (records-later here) (λ none. subst (IsAuditNone line) (sym here) none) (record_of line) refl f e

  -- a line that is refused has its cause
  refused-so : (f : Flaw) → audit_entered s line ≡ Err f → AuditRefuses s line f
  unfolding audit_entered
  refused-so f e = refused-at s.stage refl f e

  -- ---- and back

  none-at : (at : Stage) → s.stage ≡ at → IsAuditNone line at → entered_at at s line ≡ Err flaw.Syntax
  none-at stage.Heading here none = go (heading_of line) refl where
    go : (o : Option Heading) → heading_of line ≡ o → headed s o ≡ Err flaw.Syntax
    go None is = refl
    go (Some h) is = absurd (none h (heading_told line h is))
  none-at stage.Files here none = go (file_line_of line) (record_of line) refl refl where
    go : (o : Option (List ℕ × ℕ)) (p : Option Rec) → file_line_of line ≡ o → record_of line ≡ p → audit_listed s line o ≡ Err flaw.Syntax
    go (Some (path, size)) p is of = absurd (none.0 path size (file_told line path size is))
    go None None is of = ap (recorded s) of
    go None (Some r) is of = absurd (none.1 r (record_told line r of))
  none-at stage.Records here none = go (record_of line) refl where
    go : (p : Option Rec) → record_of line ≡ p → recorded s p ≡ Err flaw.Syntax
    go None is = refl
    go (Some r) is = absurd (none r (record_told line r is))

  pub ruled-at : (at : Stage) → s.stage ≡ at → s.stage ≢ stage.Heading → (r : Rec) → record_of line ≡ Some r → entered_at at s line ≡ ruled s r (broken s.config s.files s.journal r)
  ruled-at stage.Heading here later r is = absurd (later here)
  ruled-at stage.Files here later r is = go (file_line_of line) refl where
    go : (o : Option (List ℕ × ℕ)) → file_line_of line ≡ o → audit_listed s line o ≡ ruled s r (broken s.config s.files s.journal r)
    go None of = ap (recorded s) is
    go (Some file) of = absurd (none_told Rec (record_of line) r (file_no_record line file of) is)
  ruled-at stage.Records here later r is = ap (recorded s) is

  -- where the cause is there, the line is refused
  refuses-so : (f : Flaw) → AuditRefuses s line f → audit_entered s line ≡ Err f
  unfolding audit_entered
  refuses-so flaw.Syntax none = none-at s.stage refl none
  refuses-so (flaw.Config fault) h = ap (λ at. entered_at at s line) h.0 ∙ ap (headed s) (heading_from line h.1.0 h.1.1) ∙ ap (λ given. begun s (audit_configured (heading_config h.1.0) given)) h.1.2
  refuses-so (flaw.File fault) h = ap (λ at. entered_at at s line) h.0 ∙ ap (audit_listed s line) (file_from line h.1.0 h.1.1 h.1.2) ∙ ap (audit_filed s (h.1.0, h.1.1)) h.1.3
  refuses-so (flaw.Broken rule) h = ruled-at s.stage refl h.0 h.1.0 (record_from line h.1.0 h.1.1) ∙ ap (ruled s h.1.0) h.1.2

-- ---- lines

same_verdict : (v w : Verdict) → ◌≡◌ {A = Result Course Verdict} (Err v) (Err w) → v ≡ w
same_verdict v w e = cc

no_verdict : (t : Course) (w : Verdict) → ◌≡◌ {A = Result Course Verdict} (Ok t) (Err w) → ⊥
no_verdict t w e = cc

module _ (n bytes : ℕ) (s : Course) (k : Knows n bytes s) where
  number : s.lines + 1 ≡ n + 1
  number = ap (λ m. m + 1) k.0

  line-ends : (line : List ℕ) (v : Verdict) → audit_passed s line ≡ Err v → AuditEndsLine s n bytes line v
  line-ends line v e = go (nat_lt MAX_REPORT_BYTES (s.read + length line + 1)) (audit_entered s line) refl refl where
    go : (b : Bool) (given : Result Course Flaw) → nat_lt MAX_REPORT_BYTES (s.read + length line + 1) ≡ b → audit_entered s line ≡ given → AuditEndsLine s n bytes line v
    go true given p is =
        let long : MAX_REPORT_BYTES < s.read + length line + 1 = grind (arith, nat_tests, p) in
        subst (AuditEndsLine s n bytes line) (same_verdict (TooLong (s.lines + 1)) v (sym (passed_by s line true p) ∙ e)) (number, omega (arith, long, k.1))
    go false (Ok t) p is = absurd (no_verdict _ v (sym (passed_by s line false p ∙ ap (taken (s.lines + 1) line) is) ∙ e))
    go false (Err f) p is =
        let short : s.read + length line + 1 ≤ MAX_REPORT_BYTES = grind (arith, nat_tests, p) in
        subst (AuditEndsLine s n bytes line) (same_verdict (Refused (s.lines + 1) f) v (sym (passed_by s line false p ∙ ap (taken (s.lines + 1) line) is) ∙ e))
        (number, omega (arith, short, k.1), refused-so s line f is)

  ends-line : (line : List ℕ) (v : Verdict) → AuditEndsLine s n bytes line v → audit_passed s line ≡ Err v
  ends-line line (TooLong at) h =
      let long : nat_lt MAX_REPORT_BYTES (s.read + length line + 1) ≡ true = let l = h.1 in let r = k.1 in grind (arith, nat_tests, l, r) in
      passed_by s line true long ∙ ap (λ m. Err (TooLong m)) (number ∙ sym h.0)
  ends-line line (Refused at f) h =
      let short : nat_lt MAX_REPORT_BYTES (s.read + length line + 1) ≡ false = let l = h.1 in let r = k.1 in grind (arith, nat_tests, l, r) in
      passed_by s line false short ∙ ap (taken (s.lines + 1) line) (refuses-so s line f h.2) ∙ ap (λ m. Err (Refused m f)) (number ∙ sym h.0)
  ends-line line (Sound count) h = absurd h
  ends-line line ReadFault h = absurd h
  ends-line line WriteFault h = absurd h
  ends-line line NoMemory h = absurd h

  -- ---- the end of the text

  empty-ends : (at : Stage) → s.stage ≡ at → AuditEndsText s n bytes [] (ended_at s at)
  empty-ends stage.Heading here = (number, let l = k.2 in omega (arith, l), inr here)
  empty-ends stage.Files here = (refl, files-later s [] here, refl)
  empty-ends stage.Records here = (refl, records-later s [] here, refl)

  text-ends : (last : List ℕ) (v : Verdict) → audit_ending s last ≡ v → AuditEndsText s n bytes last v
  text-ends [] v e = subst (AuditEndsText s n bytes []) e (empty-ends s.stage refl)
  text-ends (b ∷ bs) v e = go (nat_lt MAX_REPORT_BYTES (s.read + length (b ∷ bs))) refl e where
    go : (t : Bool) → nat_lt MAX_REPORT_BYTES (s.read + length (b ∷ bs)) ≡ t → cond t (TooLong (s.lines + 1)) (Refused (s.lines + 1) flaw.Syntax) ≡ v → AuditEndsText s n bytes (b ∷ bs) v
    go true p f =
        let long : MAX_REPORT_BYTES < s.read + length (b ∷ bs) = grind (arith, nat_tests, p) in
        subst (AuditEndsText s n bytes (b ∷ bs)) f (number, omega (arith, long, k.1))
    go false p f =
        let short : s.read + length (b ∷ bs) ≤ MAX_REPORT_BYTES = grind (arith, nat_tests, p) in
        subst (AuditEndsText s n bytes (b ∷ bs)) f (number, omega (arith, short, k.1), inl (λ none. cc))

  ends-text : (last : List ℕ) (v : Verdict) → AuditEndsText s n bytes last v → audit_ending s last ≡ v
  ends-text last (Sound count) h = ap (audit_ending s) h.0 ∙ go s.stage refl where
    go : (at : Stage) → s.stage ≡ at → ended_at s at ≡ Sound count
    go stage.Heading here = absurd (h.1 here)
    go stage.Files here = ap Sound (sym h.2)
    go stage.Records here = ap Sound (sym h.2)
  ends-text [] (Refused at flaw.Syntax) h = ⊎_elim (λ (some : [] ≢ []). absurd (some refl)) (λ (here : s.stage ≡ stage.Heading). ap (ended_at s) here ∙ ap (λ m. Refused m flaw.Syntax) (number ∙ sym h.0)) h.2
  ends-text (b ∷ bs) (Refused at flaw.Syntax) h =
      let short : nat_lt MAX_REPORT_BYTES (s.read + length (b ∷ bs)) ≡ false = let l = h.1 in let r = k.1 in grind (arith, nat_tests, l, r) in
      ap (λ t. cond t (TooLong (s.lines + 1)) (Refused (s.lines + 1) flaw.Syntax)) short ∙ ap (λ m. Refused m flaw.Syntax) (number ∙ sym h.0)
  ends-text last (Refused at (flaw.Config fault)) h = absurd h
  ends-text last (Refused at (flaw.File fault)) h = absurd h
  ends-text last (Refused at (flaw.Broken rule)) h = absurd h
  ends-text [] (TooLong at) h = absurd (let l = h.1 in let m = k.2 in omega (arith, l, m))
  ends-text (b ∷ bs) (TooLong at) h =
      let long : nat_lt MAX_REPORT_BYTES (s.read + length (b ∷ bs)) ≡ true = let l = h.1 in let r = k.1 in grind (arith, nat_tests, l, r) in
      ap (λ t. cond t (TooLong (s.lines + 1)) (Refused (s.lines + 1) flaw.Syntax)) long ∙ ap TooLong (number ∙ sym h.0)
  ends-text last ReadFault h = absurd h
  ends-text last WriteFault h = absurd h
  ends-text last NoMemory h = absurd h

-- ---- the lines of a text

-- from a course on, some lines pass, and the next ends the audit
record EndsFrom (s : Course) (n bytes : ℕ) (lines : List (List ℕ)) (v : Verdict) : Type 0 where
  before : List (List ℕ)
  rest : List (List ℕ)
  are : lines ≡ before ++ rest
  course : Course
  leads : AuditLeads s before course
  ends : AuditEndsRest course (n + length before) (bytes + audit_bytes_in before) rest v

add-zero : (n : ℕ) → n + 0 ≡ n
add-zero n = omega arith

zero-add : (n : ℕ) → 0 + n ≡ n
zero-add n = omega arith

-- the first of the lines ends the audit
at_once : (s : Course) (n bytes : ℕ) (lines : List (List ℕ)) (v : Verdict) → AuditEndsRest s n bytes lines v → EndsFrom s n bytes lines v
at_once s n bytes lines v e = record {
  before = [];
  rest = lines;
  are = refl;
  course = s;
  leads = refl;
  ends = subst (λ m. AuditEndsRest s m (bytes + 0) lines v) (sym (add-zero n)) (subst (λ m. AuditEndsRest s n m lines v) (sym (add-zero bytes)) e);
}

-- the first line passes
and_later : (s u : Course) (n bytes : ℕ) (line : List ℕ) (lines : List (List ℕ)) (v : Verdict) → audit_passed s line ≡ Ok u → EndsFrom u (n + 1) (bytes + (length line + 1)) lines v → EndsFrom s n bytes (line ∷ lines) v
and_later s u n bytes line lines v p e =
    let count : (n + 1) + length e.before ≡ n + suc (length e.before) = omega arith in
    let sum : (bytes + (length line + 1)) + audit_bytes_in e.before ≡ bytes + ((length line + 1) + audit_bytes_in e.before) = omega arith in
    record {
      before = line ∷ e.before;
      rest = e.rest;
      are = ap (λ xs. line ∷ xs) e.are;
      course = e.course;
      leads = (u, p, e.leads);
      ends = subst (λ m. AuditEndsRest e.course m (bytes + audit_bytes_in (line ∷ e.before)) e.rest v) count
          (subst (λ m. AuditEndsRest e.course ((n + 1) + length e.before) m e.rest v) sum e.ends);
    }

ends-from : (line : List ℕ) (more : List (List ℕ)) (n bytes : ℕ) (s : Course) (v : Verdict) → Knows n bytes s → audit_judged s (line ∷ more) ≡ v → EndsFrom s n bytes (line ∷ more) v
ends-from line [] n bytes s v k e = at_once s n bytes (line ∷ []) v (text-ends n bytes s k line v e)
ends-from line (next ∷ more) n bytes s v k e = go (audit_passed s line) refl e (λ u j f. ends-from next more (n + 1) (bytes + (length line + 1)) u v j f) where
  go : (r : Result Course Verdict) → audit_passed s line ≡ r → (elim r as (λ _. Verdict) [ Err other ↦ other | Ok t ↦ audit_judged t (next ∷ more) ]) ≡ v
      → ((u : Course) → Knows (n + 1) (bytes + (length line + 1)) u → audit_judged u (next ∷ more) ≡ v → EndsFrom u (n + 1) (bytes + (length line + 1)) (next ∷ more) v) → EndsFrom s n bytes (line ∷ next ∷ more) v
  go (Err other) p f later = at_once s n bytes (line ∷ next ∷ more) v (line-ends n bytes s k line v (p ∙ ap Err f))
  go (Ok u) p f later = and_later s u n bytes line (next ∷ more) v p (later u (passed-knows n bytes s u line k p) f)

-- a line that passes leads on to the lines behind it
passes_on : (s u : Course) (line : List ℕ) (tail : List (List ℕ)) → audit_passed s line ≡ Ok u → tail ≢ [] → audit_judged s (line ∷ tail) ≡ audit_judged u tail
passes_on s u line [] p some = absurd (some refl)
passes_on s u line (next ∷ more) p some = rw (p, audit_judged) refl

some_rest : (t : Course) (n bytes : ℕ) (before rest : List (List ℕ)) (v : Verdict) → AuditEndsRest t n bytes rest v → before ++ rest ≢ []
some_rest t n bytes [] [] v e none = e
some_rest t n bytes [] (line ∷ more) v e none = cc
some_rest t n bytes (line ∷ before) rest v e none = cc

rest_ends : (n bytes : ℕ) (s : Course) (rest : List (List ℕ)) (v : Verdict) → Knows n bytes s → AuditEndsRest s n bytes rest v → audit_judged s rest ≡ v
rest_ends n bytes s [] v k e = absurd e
rest_ends n bytes s (last ∷ []) v k e = ends-text n bytes s k last v e
rest_ends n bytes s (line ∷ next ∷ more) v k e = let p = ends-line n bytes s k line v e in rw (p, audit_judged) refl

from_ends : (before : List (List ℕ)) (n bytes : ℕ) (s t : Course) (rest : List (List ℕ)) (v : Verdict) → Knows n bytes s → AuditLeads s before t → AuditEndsRest t (n + length before) (bytes + audit_bytes_in before) rest v
    → audit_judged s (before ++ rest) ≡ v
from_ends [] n bytes s t rest v k l e = rest_ends n bytes s rest v k
    (subst (λ (u : Course). AuditEndsRest u n bytes rest v) (sym l) (subst (λ m. AuditEndsRest t m bytes rest v) (add-zero n) (subst (λ m. AuditEndsRest t (n + 0) m rest v) (add-zero bytes) e)))
from_ends (line ∷ before) n bytes s t rest v k l e =
    let count : n + suc (length before) ≡ (n + 1) + length before = omega arith in
    let sum : bytes + ((length line + 1) + audit_bytes_in before) ≡ (bytes + (length line + 1)) + audit_bytes_in before = omega arith in
    let later = subst (λ m. AuditEndsRest t m ((bytes + (length line + 1)) + audit_bytes_in before) rest v) count (subst (λ m. AuditEndsRest t (n + suc (length before)) m rest v) sum e) in
    passes_on s l.0 line (before ++ rest) l.1 (some_rest t _ _ before rest v e)
    ∙ from_ends before (n + 1) (bytes + (length line + 1)) l.0 t rest v (passed-knows n bytes s l.0 line k l.1) l.2 later

-- ---- a text

begin-knows : Knows 0 0 audit_begin
begin-knows = (refl, refl, omega arith)

text_lines : (lines : List (List ℕ)) (part : List ℕ) (parts : List (List ℕ)) (v : Verdict) → lines ≡ part ∷ parts → audit_judged audit_begin lines ≡ v → AuditCause lines v
text_lines lines part parts v e r =
    let found = ends-from part parts 0 0 audit_begin v begin-knows (ap (audit_judged audit_begin) (sym e) ∙ r) in
    record {
      before = found.before;
      rest = found.rest;
      are = e ∙ found.are;
      course = found.course;
      leads = found.leads;
      ends = subst (λ m. AuditEndsRest found.course m (audit_bytes_in found.before) found.rest v) (zero-add (length found.before))
          (subst (λ m. AuditEndsRest found.course (0 + length found.before) m found.rest v) (zero-add (audit_bytes_in found.before)) found.ends);
    }

lines_text : (lines : List (List ℕ)) (v : Verdict) → AuditCause lines v → audit_judged audit_begin lines ≡ v
lines_text lines v e =
    ap (audit_judged audit_begin) e.are
    ∙ from_ends e.before 0 0 audit_begin e.course e.rest v begin-knows e.leads
    (subst (λ m. AuditEndsRest e.course m (0 + audit_bytes_in e.before) e.rest v) (sym (zero-add (length e.before)))
    (subst (λ m. AuditEndsRest e.course (length e.before) m e.rest v) (sym (zero-add (audit_bytes_in e.before))) e.ends))

-- a text has a verdict exactly where its cause is there
pub caused : (text : List ℕ) (v : Verdict) → (audited text ≡ v) ↔ AuditCause (lines_of text) v
unfolding audited
caused text v =
    let first = first_part is_feed text in
    (λ e. text_lines (lines_of text) first.0 first.1 v first.2 e, λ e. lines_text (lines_of text) v e)
