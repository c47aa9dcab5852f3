-- What is written of lines that pass is what the lab tells of the trace that they are.
use Rattle.std.proofs.Common.{◌≡◌, ℕ, List, [], ◌∷◌, ◌++◌, Option, Some, None, Result, Ok, Err, refl, sym, ap, ◌∙◌, subst, append_assoc, append-nil}
use Rattle.lard_base.specs.Config.{config_check, range_check, set_key}
use Rattle.lard_base.specs.declared.config.Config.{Config}
use Rattle.lard_base.specs.declared.config.ConfigFault.{ConfigFault}
use Rattle.lard_base.specs.declared.config.Key.{Key}
use Rattle.lard_files.specs.declared.fault.FileFault.{FileFault}
use Rattle.lard_lab.specs.declared.event.LabEvent.{LabEvent}
use Rattle.lard_lab.specs.declared.event.LabFault.{LabFault}
use Rattle.lard_lab.specs.declared.policy.Policy.{Policy}
use Rattle.lard_lab.specs.declared.targets.Target.{Target}
use Rattle.lard_lab.specs.Lab as lab
use Rattle.lard_lab.specs.Lab.{State, fault_of, opened_with, lab_told, totals_text}
use Rattle.lard_lab.specs.Laws.{PassAll, lab_after_all, lab_with, line_in, told_all}
use Rattle.lard_lab.specs.Report.{File, lab_report}
use Rattle.lard_lab.specs.Targets.{target_check, fresh_target}
use Rattle.lard_lab.specs.Text.{lab_heading_line}
use Rattle.lard_lab.proofs.Beginning.{first-is}
use Rattle.lard_lab.proofs.Reported.{report-told}
use Rattle.lard_lab.proofs.Sizes.{fresh_all}
use Rattle.lard_schedule.specs.declared.reader.Reader.{Reader}
use Rattle.lard_schedule.specs.declared.reader.Stage.{Stage}
use Rattle.lard_schedule.specs.declared.reader.Stage.TheVariants.{Start, Settings, Files, Running}
use Rattle.lard_schedule.specs.Laws.{IsBefore}
use Rattle.lard_lab_run.specs.Causes.{MayStandInLab}
use Rattle.lard_lab_run.specs.Items.{lab_reader_after}
use Rattle.lard_lab_run.specs.Told.{IsSoFar, Trace, no_trace, lab_read_from, trace_of, lab_with_item}
use Rattle.lard_lab_run.specs.Trial.{LeadsInLab, LabProgress, lab_begin, lab_begun, lab_config_set, lab_counted, lab_event_gain, trace_filed, lab_followed, lab_gain, heading_gain, lab_item_gain, lab_moved, lab_taken}
use Rattle.lard_lab_run.specs.declared.end.LabEnd.{LabEnd}
use Rattle.lard_lab_run.specs.declared.item.Item.{Item}
use Rattle.lard_lab_run.specs.declared.item.Item.TheVariants as item
use Rattle.lard_lab_run.proofs.Passing.{Took, ok_is, never, passed-took, taken-read, took-gain, took-stands}

-- ---- a lab behind one event more

after-on : (s : State) (es : List LabEvent) (e : LabEvent) → lab_after_all s (es ++ e ∷ []) ≡ lab.lab_after (lab_after_all s es) e
after-on s [] e = refl
after-on s (d ∷ es) e = after-on (lab.lab_after s d) es e

told-on : (s : State) (es : List LabEvent) (e : LabEvent) → told_all s (es ++ e ∷ []) ≡ told_all s es ++ line_in (lab_told (lab_after_all s es) e)
told-on s [] e = append-nil (line_in (lab_told s e))
told-on s (d ∷ es) e = ap (λ (xs : List ℕ). line_in (lab_told s d) ++ xs) (told-on (lab.lab_after s d) es e) ∙ sym (append_assoc (line_in (lab_told s d)) (told_all (lab.lab_after s d) es) (line_in (lab_told (lab_after_all (lab.lab_after s d) es) e)))

pass-on : (s : State) (es : List LabEvent) (e : LabEvent) → PassAll s es → fault_of (lab_after_all s es) e ≡ None → PassAll s (es ++ e ∷ [])
pass-on s [] e all none = (none, tt)
pass-on s (d ∷ es) e all none = (all.0, pass-on (lab.lab_after s d) es e all.1 none)

fresh-on : (files : List File) (path : List ℕ) (size : ℕ) → fresh_all files ++ (path, fresh_target size) ∷ [] ≡ fresh_all (files ++ (path, size) ∷ [])
fresh-on [] path size = refl
fresh-on (f ∷ files) path size = ap (λ (ts : List (List ℕ × Target)). (f.0, fresh_target f.1) ∷ ts) (fresh-on files path size)

-- ---- what holds of a state and the trace that led to it

-- before `go` the files are those of the trace, and it has no event; behind it the lab is the one that its events lead to
abbrev Stage-is : Policy → Stage → Trace → LabProgress → List ℕ → Type 0
Stage-is policy Running t s written =
    (config_check t.config ≡ Ok tt) × PassAll (lab_with policy t.config t.files) t.events × (written ≡ lab_heading_line policy t.config ++ told_all (lab_with policy t.config t.files) t.events)
    × (s.lab ≡ lab_after_all (lab_with policy t.config t.files) t.events)
Stage-is policy Start t s written = (written ≡ []) × (t.events ≡ []) × (s.targets ≡ fresh_all t.files)
Stage-is policy Settings t s written = (written ≡ []) × (t.events ≡ []) × (s.targets ≡ fresh_all t.files)
Stage-is policy Files t s written = (written ≡ []) × (t.events ≡ []) × (s.targets ≡ fresh_all t.files)

record Keeps (policy : Policy) (t : Trace) (s : LabProgress) (written : List ℕ) : Type 0 where
  policy_is : s.policy ≡ policy
  config : s.config ≡ t.config
  stage : Stage-is policy s.reader.stage t s written

-- before `go`
abbrev Early : Trace → LabProgress → List ℕ → Type 0
Early t s written = (written ≡ []) × (t.events ≡ []) × (s.targets ≡ fresh_all t.files)

-- the state before `go`, in any of its stages
early : (policy : Policy) (t : Trace) (s : LabProgress) (written : List ℕ) (st : Stage) → IsBefore st → Stage-is policy st t s written → Early t s written
early policy t s written Start before h = absurd before
early policy t s written Settings before h = h
early policy t s written Files before h = h
early policy t s written Running before h = absurd before

module _ (policy : Policy) (t : Trace) (s u : LabProgress) (written : List ℕ) (k : Keeps policy t s written) where
  -- the next state, where it is known, and what was written by then
  keeps-as : (x : Item) (v : LabProgress) (more : List ℕ) → Keeps policy (lab_with_item t x) v (written ++ more) → ◌≡◌ {A = Result LabProgress LabEnd} (Ok v) (Ok u) → Keeps policy (lab_with_item t x) u (written ++ more)
  keeps-as x v more h e = subst (λ (w : LabProgress). Keeps policy (lab_with_item t x) w (written ++ more)) (ok_is v u e) h

  -- nothing more was written
  still : written ≡ [] → written ++ [] ≡ []
  still e = append-nil written ∙ e

  at : (st : Stage) → s.reader.stage ≡ st → Stage-is policy st t s written
  at st e = subst (λ (r : Stage). Stage-is policy r t s written) e k.stage

  -- a line is counted, and the reader goes on
  abbrev on : List ℕ → Item → LabProgress
  on line x = lab_followed (lab_counted s line) x

  header-keeps : (line : List ℕ) → s.reader.stage ≡ Start → ◌≡◌ {A = Result LabProgress LabEnd} (Ok (on line item.Header)) (Ok u) → Keeps policy t u (written ++ [])
  header-keeps line stage e =
      let h = at Start stage in
      keeps-as item.Header (on line item.Header) [] (record { policy_is = k.policy_is; config = k.config; stage = (still h.0, h.1, h.2) }) e

  set-keeps : (line : List ℕ) (key : Key) (value : ℕ) (r : Result (Unit {0}) ConfigFault) → s.reader.stage ≡ Settings → lab_config_set (on line (item.Set key value)) key value r ≡ Ok u
      → Keeps policy (lab_with_item t (item.Set key value)) u (written ++ [])
  set-keeps line key value (Err fault) stage e = absurd (never _ _ e)
  set-keeps line key value (Ok done) stage e =
      let h = at Settings stage in
      keeps-as (item.Set key value) _ [] (record {
        policy_is = k.policy_is;
        config = ap (λ (c : Config). set_key c key value) k.config;
        stage = subst (λ (st : Stage). Stage-is policy st (lab_with_item t (item.Set key value)) (record (on line (item.Set key value)) { config = set_key s.config key value }) (written ++ [])) (sym stage) (still h.0, h.1, h.2);
      }) e

  file-keeps : (line path : List ℕ) (size : ℕ) (r : Result (Unit {0}) FileFault) → IsBefore s.reader.stage → trace_filed (on line (item.File path size)) path size r ≡ Ok u
      → Keeps policy (lab_with_item t (item.File path size)) u (written ++ [])
  file-keeps line path size (Err fault) before e = absurd (never _ _ e)
  file-keeps line path size (Ok done) before e =
      let h = early policy t s written s.reader.stage before k.stage in
      keeps-as (item.File path size) _ [] (record {
        policy_is = k.policy_is;
        config = k.config;
        stage = (still h.0, h.1, ap (λ (ts : List (List ℕ × Target)). ts ++ (path, fresh_target size) ∷ []) h.2 ∙ fresh-on t.files path size);
      }) e

  -- the lab that begins is that of the trace's files
  opens : s.targets ≡ fresh_all t.files → opened_with s.policy s.config s.targets ≡ lab_with policy t.config t.files
  opens e =
      ap (λ (p : Policy). opened_with p s.config s.targets) k.policy_is ∙ ap (λ (c : Config). opened_with policy c s.targets) k.config ∙ ap (opened_with policy t.config) e
      ∙ sym (first-is policy t.config t.files)

  go-keeps : (line : List ℕ) (r : Result (Unit {0}) ConfigFault) → IsBefore s.reader.stage → config_check s.config ≡ r → lab_begun (on line item.Go) r ≡ Ok u
      → Keeps policy t u (written ++ heading_gain (on line item.Go) r)
  go-keeps line (Err fault) before c e = absurd (never _ _ e)
  go-keeps line (Ok done) before c e =
      let h = early policy t s written s.reader.stage before k.stage in
      let none : PassAll (lab_with policy t.config t.files) t.events = subst (PassAll (lab_with policy t.config t.files)) (sym h.1) tt in
      keeps-as item.Go _ (lab_heading_line s.policy s.config) (record {
        policy_is = k.policy_is;
        config = k.config;
        stage = (
          ap config_check (sym k.config) ∙ c,
          none,
          ap (λ (xs : List ℕ). xs ++ lab_heading_line s.policy s.config) h.0 ∙ ap (λ (p : Policy). lab_heading_line p s.config) k.policy_is ∙ ap (lab_heading_line policy) k.config
              ∙ sym (append-nil (lab_heading_line policy t.config)) ∙ ap (λ (es : List LabEvent). lab_heading_line policy t.config ++ told_all (lab_with policy t.config t.files) es) (sym h.1),
          opens h.2 ∙ ap (lab_after_all (lab_with policy t.config t.files)) (sym h.1),
        );
      }) e

  event-keeps : (line : List ℕ) (d : LabEvent) (f : Option LabFault) → s.reader.stage ≡ Running → fault_of s.lab d ≡ f → lab_moved (on line (item.Event d)) d f ≡ Ok u
      → Keeps policy (lab_with_item t (item.Event d)) u (written ++ lab_event_gain (on line (item.Event d)) d f)
  event-keeps line d (Some fault) stage c e = absurd (never _ _ e)
  event-keeps line d None stage c e =
      let h = at Running stage in
      let first : State = lab_with policy t.config t.files in
      keeps-as (item.Event d) _ (line_in (lab_told s.lab d)) (record {
        policy_is = k.policy_is;
        config = k.config;
        stage = subst (λ (st : Stage). Stage-is policy st (lab_with_item t (item.Event d)) (record (on line (item.Event d)) { lab = lab.lab_after s.lab d }) (written ++ line_in (lab_told s.lab d))) (sym stage) (
          h.0,
          pass-on first t.events d h.1 (ap (λ (l : State). fault_of l d) (sym h.3) ∙ c),
          ap (λ (xs : List ℕ). xs ++ line_in (lab_told s.lab d)) h.2 ∙ append_assoc (lab_heading_line policy t.config) (told_all first t.events) (line_in (lab_told s.lab d))
              ∙ ap (λ (l : State). lab_heading_line policy t.config ++ (told_all first t.events ++ line_in (lab_told l d))) h.3
              ∙ ap (λ (xs : List ℕ). lab_heading_line policy t.config ++ xs) (sym (told-on first t.events d)),
          ap (λ (l : State). lab.lab_after l d) h.3 ∙ sym (after-on first t.events d),
        );
      }) e

  taken-keeps : (line : List ℕ) (x : Item) → MayStandInLab s.reader x → lab_taken (on line x) x ≡ Ok u → Keeps policy (lab_with_item t x) u (written ++ lab_item_gain (on line x) x)
  taken-keeps line item.Header may e = header-keeps line may e
  taken-keeps line (item.Set key value) may e = set-keeps line key value (range_check key value) may.0 e
  taken-keeps line (item.File path size) may e = file-keeps line path size (target_check s.targets path size) may e
  taken-keeps line item.Go may e = go-keeps line (config_check s.config) may refl e
  taken-keeps line (item.Event d) may e = event-keeps line d (fault_of s.lab d) may refl e

  passed-keeps : (line : List ℕ) (o : Took s u line) → Keeps policy (lab_with_item t o.item) u (written ++ lab_gain s line)
  passed-keeps line o =
      subst (λ (xs : List ℕ). Keeps policy (lab_with_item t o.item) u (written ++ xs)) (sym (took-gain s u line o)) (taken-keeps line o.item (took-stands s u line o).1 o.is)

-- the reader goes on behind an item
reader-on : (s u : LabProgress) (line : List ℕ) (o : Took s u line) → u.reader ≡ lab_reader_after s.reader o.item
reader-on s u line o = (taken-read (lab_followed (lab_counted s line) o.item) u o.item o.is).reader

-- lines that lead on keep it
leads-keeps : (policy : Policy) (lines : List (List ℕ)) (t : Trace) (s u : LabProgress) (written rest : List ℕ) → Keeps policy t s written → LeadsInLab s lines rest u
    → Keeps policy (lab_read_from s.reader t lines) u (written ++ rest)
leads-keeps policy [] t s u written rest k l =
    subst (λ (xs : List ℕ). Keeps policy t u (written ++ xs)) (sym l.1) (subst (λ (xs : List ℕ). Keeps policy t u xs) (sym (append-nil written)) (subst (λ (v : LabProgress). Keeps policy t v written) l.0 k))
leads-keeps policy (line ∷ lines) t s u written rest k l =
    let o = passed-took s l.0 line l.2 in
    let next = leads-keeps policy lines (lab_with_item t o.item) l.0 u (written ++ lab_gain s line) l.1 (passed-keeps policy t s l.0 written k line o) l.4 in
    let step : lab_read_from s.reader t (line ∷ lines) ≡ lab_read_from l.0.reader (lab_with_item t o.item) lines =
    rw (o.stands, lab_read_from) (ap (λ (r : Reader). lab_read_from r (lab_with_item t o.item) lines) (sym (reader-on s l.0 line o))) in
    subst (λ (v : Trace). Keeps policy v u (written ++ rest)) (sym step)
    (subst (λ (xs : List ℕ). Keeps policy (lab_read_from l.0.reader (lab_with_item t o.item) lines) u xs) (append_assoc written (lab_gain s line) l.1 ∙ ap (λ (xs : List ℕ). written ++ xs) (sym l.3)) next)

begin-keeps : (policy : Policy) → Keeps policy no_trace (lab_begin policy) []
begin-keeps policy = record { policy_is = refl; config = refl; stage = (refl, refl, refl) }

all-keep : (policy : Policy) (lines : List (List ℕ)) (written : List ℕ) (s : LabProgress) → LeadsInLab (lab_begin policy) lines written s → Keeps policy (trace_of lines) s written
all-keep policy lines written s l = leads-keeps policy lines no_trace (lab_begin policy) s [] written (begin-keeps policy) l

so_far-of : (policy : Policy) (t : Trace) (s : LabProgress) (written : List ℕ) (st : Stage) → Stage-is policy st t s written → IsSoFar policy st t written
so_far-of policy t s written Start h = h.0
so_far-of policy t s written Settings h = h.0
so_far-of policy t s written Files h = h.0
so_far-of policy t s written Running h = (h.0, h.1, h.2)

pub told-so-far : (policy : Policy) (lines : List (List ℕ)) (written : List ℕ) (s : LabProgress) → LeadsInLab (lab_begin policy) lines written s → IsSoFar policy s.reader.stage (trace_of lines) written
told-so-far policy lines written s l = so_far-of policy (trace_of lines) s written s.reader.stage (all-keep policy lines written s l).stage

-- with the totals it is the report
pub told-report : (policy : Policy) (lines : List (List ℕ)) (written : List ℕ) (s : LabProgress) → LeadsInLab (lab_begin policy) lines written s → s.reader.stage ≡ Running
    → written ++ totals_text s.lab ≡ lab_report policy (trace_of lines).config (trace_of lines).files (trace_of lines).events
told-report policy lines written s l running =
    let t : Trace = trace_of lines in
    let first : State = lab_with policy t.config t.files in
    let h : Stage-is policy Running t s written = subst (λ (st : Stage). Stage-is policy st t s written) running (all-keep policy lines written s l).stage in
    ap (λ (xs : List ℕ). xs ++ totals_text s.lab) h.2
    ∙ ap (λ (x : State). lab_heading_line policy t.config ++ told_all first t.events ++ totals_text x) h.3 ∙ report-told policy t.config t.files t.events h.0 h.1
