-- What happened in the replay of a text, and that its report tells it.
use Rattle.std.proofs.Common.{◌≡◌, ◌≢◌, ℕ, ◌≤◌, ◌^◌, Option, List, [], ◌++◌, length, refl, sym, ap, ◌∙◌, subst, arith, length-append}
use Rattle.std.specs.List.{flat_map}
use Rattle.lard_law_view.specs.Prelude.{Config, IsFileInRange, IsRecordInRange, IsReportInRange, Machine, Rec, file_text, heading_line, machine_start, rec_line, report}
use Rattle.lard_law_view.proofs.ByteLists.{each-all}
use Rattle.lard_app.proofs.Granted.{granted-ranged, leads-granted}
use Rattle.lard_app.proofs.Happened.{happened}
use Rattle.lard_schedule.specs.declared.reader.Stage.{Stage}
use Rattle.lard_schedule.specs.declared.reader.Stage.TheVariants.{Files, Running, Settings, Start}
use Rattle.lard_app.specs.Replay.{begin, config_of, events_of, files_of, journal_of, machine_of, report_at, report_of, file_sizes, whole}
use Rattle.lard_app.specs.declared.status.Status.{Status}
use Rattle.lard_app.specs.declared.status.Status.TheVariants.{Done, Limit, NoMemory, ReadFault, Refused, Usage, WriteFault}
use Rattle.lard_app.specs.Happened.{Happened}
use Rattle.lard_app.specs.Run.{PassesAudit, Ran, ReadsInput, TellsWidths}
use Rattle.lard_app.proofs.Endings.{caused}
use Rattle.lard_app.proofs.Grammar.{passed-stands}
use Rattle.lard_app.proofs.Keeping.{IsUnseen, whole-comes}
use Rattle.lard_audit_run.specs.Audited.{audited}
use Rattle.lard_audit_run.specs.declared.verdict.Verdict.TheVariants.{Sound}
use Rattle.lard_law_audit.specs.Reports.{IsRunOf, ReportsPass, run_report}
use Rattle.lard_report.specs.Formed.{HaveWidths}
use Rattle.lard_settling.specs.Events.{LeadsTo}
use Rattle.lard_app.proofs.Ranges.{sizes-ranges}

-- what the law of reports says of two of them
abbrev pub ReportsTellAll : Type 0
ReportsTellAll = (config also : Config) (files others : List (List ℕ × ℕ)) (recs more : List Rec) → IsReportInRange config files recs → IsReportInRange also others more
    → report config files recs ≡ report also others more → (config ≡ also) × (files ≡ others) × (recs ≡ more)

module _ (text : List ℕ) where
  -- ---- the machine of a text

  pub machine : LeadsTo (machine_start (config_of text) (files_of text)) (events_of text) (machine_of text)
  machine = (whole-comes text).runs

  pub is-happened : Happened (config_of text) (files_of text) (events_of text) (journal_of text)
  is-happened =
      let kept = whole-comes text in
      happened (config_of text) (files_of text) kept.checked kept.ranges.config.0 kept.ranges.taken (events_of text) (machine_of text) kept.ranges.events machine

  -- all that the report is made of is in range
  pub ranges : IsReportInRange (config_of text) (file_sizes (files_of text)) (journal_of text)
  ranges =
      let kept = whole-comes text in
      let granted = leads-granted (config_of text) (files_of text) kept.checked kept.ranges.config.0 kept.ranges.taken (events_of text) (machine_of text) kept.ranges.events machine in
      record {
        numbers = kept.ranges.config;
        paths = each-all IsFileInRange (file_sizes (files_of text)) (sizes-ranges (files_of text) kept.ranges.taken);
        records = each-all IsRecordInRange (journal_of text) (granted-ranged (config_of text) (files_of text) kept.checked kept.ranges.config.0 kept.ranges.taken (machine_of text) granted);
      }

-- ---- two texts with the same report

-- a report has its heading at least
some_report : (config : Config) (files : List (List ℕ × ℕ)) (recs : List Rec) → report config files recs ≢ []
unfolding heading_line
some_report config files recs e =
    let none : length (report config files recs) ≡ 0 = ap (λ (l : List ℕ). length l) e in
    let first = length-append (heading_line config ++ flat_map file_text files) (flat_map rec_line recs) in
    let second = length-append (heading_line config) (flat_map file_text files) in
    omega (arith, none, first, second)

-- the configuration, the files' lines and the journal of two machines are the same
abbrev AreAlike : Machine → Machine → Type 0
AreAlike m n = (m.config ≡ n.config) × (file_sizes m.files ≡ file_sizes n.files) × (m.journal ≡ n.journal)

-- neither text has passed `go`
both_unseen : (m n : Machine) (other : Stage) → m ≡ begin.machine → IsUnseen other n → [] ≡ report_at other n → AreAlike m n
both_unseen m n Start u v e = let same : m ≡ n = u ∙ sym v in subst (AreAlike m) same (refl, refl, refl)
both_unseen m n Settings u v e = let same : m ≡ n = u ∙ sym v in subst (AreAlike m) same (refl, refl, refl)
both_unseen m n Files u v e = let same : m ≡ n = u ∙ sym v in subst (AreAlike m) same (refl, refl, refl)
both_unseen m n Running u v e = absurd (some_report n.config (file_sizes n.files) n.journal (sym e))

-- Before `go` there is no report, and the machine is one; after it the report has a heading, and tells the machine.
alike : (m n : Machine) → (report m.config (file_sizes m.files) m.journal ≡ report n.config (file_sizes n.files) n.journal → AreAlike m n)
    → (st other : Stage) → IsUnseen st m → IsUnseen other n → report_at st m ≡ report_at other n → AreAlike m n
alike m n told Running Running u v e = told e
alike m n told Running Start u v e = absurd (some_report m.config (file_sizes m.files) m.journal e)
alike m n told Running Settings u v e = absurd (some_report m.config (file_sizes m.files) m.journal e)
alike m n told Running Files u v e = absurd (some_report m.config (file_sizes m.files) m.journal e)
alike m n told Start other u v e = both_unseen m n other u v e
alike m n told Settings other u v e = both_unseen m n other u v e
alike m n told Files other u v e = both_unseen m n other u v e

-- equal reports are of the same run
pub tells_all : ReportsTellAll → (text also : List ℕ) → report_of (whole text).0 ≡ report_of (whole also).0
    → (config_of text ≡ config_of also) × (file_sizes (files_of text) ≡ file_sizes (files_of also)) × (journal_of text ≡ journal_of also)
tells_all tells text also same =
    alike (machine_of text) (machine_of also)
    (tells (config_of text) (config_of also) (file_sizes (files_of text)) (file_sizes (files_of also)) (journal_of text) (journal_of also) (ranges text) (ranges also))
    (whole text).0.reader.stage (whole also).0.reader.stage (whole-comes text).unseen (whole-comes also).unseen same

-- ---- an audit of the report

-- it passes, where the machine began
passes-audit : ReportsPass → (text : List ℕ) → HaveWidths (journal_of text) → (whole text).0.reader.stage ≡ Running → length (report_of (whole text).0) ≤ 2 ^ 30
    → audited (report_of (whole text).0) ≡ Sound (length (journal_of text))
passes-audit passes text widths running small =
    let kept = whole-comes text in
    let is : report_of (whole text).0 ≡ run_report (config_of text) (files_of text) (machine_of text) = ap (λ (st : Stage). report_at st (machine_of text)) running in
    let run : IsRunOf (config_of text) (files_of text) (machine_of text) = record { usable = kept.checked; addable = kept.ranges.started; events = events_of text; formed = kept.ranges.formed; leads = kept.runs } in
    ap audited is ∙ passes (config_of text) (files_of text) (machine_of text) run widths (subst (λ (t : List ℕ). length t ≤ 2 ^ 30) is small)

audit-is : ReportsPass → (status : Status) (text : List ℕ) → TellsWidths status text → PassesAudit status text
audit-is passes Done text w = passes-audit passes text w
audit-is passes Usage text w = passes-audit passes text w
audit-is passes (Refused line why) text w = passes-audit passes text w
audit-is passes ReadFault text w = passes-audit passes text w
audit-is passes WriteFault text w = tt
audit-is passes NoMemory text w = tt
audit-is passes (Limit line what) text w = passes-audit passes text w

-- ---- the whole of a run

pub ran : ReportsTellAll → ReportsPass → (status : Status) (left left_now old new : Option (List ℕ)) → ReadsInput status left left_now old new → Ran status left left_now old new
ran tells passes status left left_now old new r = record {
  read = r.read;
  consumed = r.consumed;
  bounded = r.bounded;
  text = r.text;
  told = r.told;
  wrote = r.wrote;
  ended = r.ended;
  causes = caused r.text;
  config = config_of r.text;
  files = files_of r.text;
  events = events_of r.text;
  journal = journal_of r.text;
  are = (refl, refl, refl, refl);
  passed = passed-stands r.text;
  happened = is-happened r.text;
  tells_all = tells_all tells r.text;
  passes_audit = audit-is passes status r.text r.widths;
}
