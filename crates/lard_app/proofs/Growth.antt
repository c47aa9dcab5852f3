-- The report of a replay grows by what each line adds.
use Rattle.std.proofs.Common.{◌≡◌, ℕ, List, [], ◌++◌, length, drop, Bool, true, false, cond, Option, Some, None, Result, Ok, Err, refl, sym, ap, ◌∙◌, subst, append-nil}
use Rattle.std.specs.List.{flat_map}
use Rattle.lard_law_view.specs.Prelude.{ConfigFault, Event, FileFault, Key, Machine, add_check, config_check, file_text, heading_line, machine_start, range_check, report}
use Rattle.lard_settle.proofs.Runs.{GoesOn}
use Rattle.lard_journal.proofs.Growth.{report-append}
use Rattle.lard_schedule.specs.declared.item.Item.{Item}
use Rattle.lard_schedule.specs.declared.item.Item.TheVariants as item
use Rattle.lard_schedule.specs.declared.reader.Stage.{Stage}
use Rattle.lard_schedule.specs.declared.reader.Stage.TheVariants.{Start, Settings, Files, Running}
use Rattle.lard_schedule.specs.Laws.{IsBefore, MayStand}
use Rattle.lard_schedule.specs.Reader.{item_of}
use Rattle.lard_schedule.proofs.Lines.{line_spelled}
use Rattle.lard_settling.specs.Events.{event_step}
use Rattle.lard_settling.specs.Settling.{Stop}
use Rattle.lard_app.specs.declared.status.Status.{Status}
use Rattle.lard_app.specs.declared.status.Why.{Why}
use Rattle.lard_app.specs.Replay.{Progress, replay_begun, came_to, config_set, line_counted, event_gain, filed, followed, item_found, gain, halted, go_gain, is_past, item_gain, item_taken, judged, judged_gain, machine_behind, replay_moved, line_passed, report_at, report_of, file_sizes, taken_item}
use Rattle.lard_app.proofs.Passing.{judged_by, ok_is, passed-took, passed_by, took-fits, took-gain}
use Rattle.lard_app.proofs.Steps.{Grows, event-grows}
use Rattle.lard_app.proofs.Events.{event-came, event-goes}
use Rattle.lard_app.proofs.Halting.{halted_by}

-- ---- the report grows by what a line adds

-- nothing was written before `go`
before_none : (stage : Stage) (m : Machine) → IsBefore stage → report_at stage m ≡ []
before_none Start m b = absurd b
before_none Settings m b = refl
before_none Files m b = refl
before_none Running m b = absurd b

-- the report of a machine that goes on
event-reports : (s : Progress) (m : Machine) (e : Event) → s.reader.stage ≡ Running → GoesOn s.machine m → Grows s.machine m → report_at s.reader.stage m ≡ report_of s ++ event_gain s.machine m
event-reports s m e running on grows =
    ap (λ st. report_at st m) running ∙ ap (λ c. report c (file_sizes m.files) m.journal) on.config
    ∙ ap (λ fs. report s.machine.config (file_sizes fs) m.journal) on.files ∙ ap (report s.machine.config (file_sizes s.machine.files)) grows
    ∙ report-append s.machine.config (file_sizes s.machine.files) s.machine.journal (drop (length s.machine.journal) m.journal)
    ∙ ap (λ st. report_at st s.machine ++ event_gain s.machine m) (sym running)

module _ (s t : Progress) where
  set-grown : (key : Key) (value : ℕ) (r : Result (Unit {0}) ConfigFault) → config_set s key value r ≡ Ok t → report_of t ≡ report_of s ++ []
  set-grown key value (Ok u) e = ap report_of (sym (ok_is _ t e)) ∙ sym (append-nil (report_of s))
  set-grown key value (Err fault) e = cc

  -- the reader has passed the line
  filed-grown : (before : Stage) (path bytes : List ℕ) (r : Result (Unit {0}) FileFault) → s.reader.stage ≡ Files → IsBefore before → filed s path bytes r ≡ Ok t → report_of t ≡ report_at before s.machine ++ []
  filed-grown before path bytes (Ok u) at b e = ap report_of (sym (ok_is _ t e)) ∙ ap (λ st. report_at st s.machine) at ∙ ap (λ xs. xs ++ []) (sym (before_none before s.machine b))
  filed-grown before path bytes (Err fault) at b e = cc

  begun-grown : (before : Stage) (r : Result (Unit {0}) ConfigFault) → s.reader.stage ≡ Running → IsBefore before → s.listed ≡ flat_map file_text (file_sizes s.files) → replay_begun s r ≡ Ok t → report_of t ≡ report_at before s.machine ++ go_gain s r
  begun-grown before (Ok u) running b listed e =
      ap report_of (sym (ok_is _ t e)) ∙ ap (λ st. report_at st (machine_start s.config s.files)) running ∙ append-nil (heading_line s.config ++ flat_map file_text (file_sizes s.files)) ∙ ap (λ xs. heading_line s.config ++ xs) (sym listed)
      ∙ ap (λ xs. xs ++ (heading_line s.config ++ s.listed)) (sym (before_none before s.machine b))
  begun-grown before (Err fault) running b listed e = cc

  moved-grown : (e : Event) (r : Result Machine Stop) → s.reader.stage ≡ Running → event_step s.machine e ≡ r → replay_moved s r ≡ Ok t → report_of t ≡ report_of s ++ event_gain s.machine (came_to r)
  moved-grown e (Err stop) running is h = cc
  moved-grown e (Ok m) running is h = ap report_of (sym (ok_is _ t h)) ∙ event-reports s m e running (event-goes s.machine m e is) (subst (λ (x : Result Machine Stop). Grows s.machine (came_to x)) is (event-grows s.machine e))

-- what an item adds, where it may stand
item-grown : (s t : Progress) (x : Item) → s.listed ≡ flat_map file_text (file_sizes s.files) → MayStand s.reader x → taken_item (followed s x) x ≡ Ok t → report_of t ≡ report_of s ++ item_gain (followed s x) x
item-grown s t item.Header listed stands e = ap report_of (sym (ok_is _ t e)) ∙ ap (λ st. report_at st s.machine ++ []) (sym stands)
item-grown s t (item.Set key value) listed stands e = set-grown (followed s (item.Set key value)) t key value (range_check key value) e
item-grown s t (item.File path bytes) listed stands e = filed-grown (followed s (item.File path bytes)) t s.reader.stage path bytes (add_check s.files path (length bytes)) refl stands e
item-grown s t item.Go listed stands e = begun-grown (followed s item.Go) t s.reader.stage (config_check s.config) refl stands listed e
item-grown s t (item.Event d) listed stands e = moved-grown (followed s (item.Event d)) t d (event_step s.machine d) stands refl e

-- a line that is passed
pub passed-grown : (s t : Progress) (line : List ℕ) → s.listed ≡ flat_map file_text (file_sizes s.files) → line_passed s line ≡ Ok t → report_of t ≡ report_of s ++ gain s line
passed-grown s t line listed e =
    let k = passed-took s t line e in
    item-grown (line_counted s line) t k.item listed (took-fits s t line k).1 k.is ∙ ap (λ xs. report_of s ++ xs) (sym (took-gain s t line k))

-- ---- a line that ends the run adds what came of it

go-none : (s : Progress) (status : Status) (r : Result (Unit {0}) ConfigFault) → replay_begun s r ≡ Err status → go_gain s r ≡ []
go-none s status (Ok u) h = cc
go-none s status (Err fault) h = refl

-- no record came of an item that ends the run, or its machine goes on from there
item-halted : (s : Progress) (x : Item) (status : Status) → MayStand s.reader x → taken_item (followed s x) x ≡ Err status
    → report_at s.reader.stage (machine_behind s.machine (Ok x)) ≡ report_of s ++ item_gain (followed s x) x
item-halted s item.Header status stands h = cc
item-halted s (item.Set key value) status stands h = sym (append-nil (report_of s))
item-halted s (item.File path bytes) status stands h = sym (append-nil (report_of s))
item-halted s item.Go status stands h = sym (append-nil (report_of s)) ∙ ap (λ xs. report_of s ++ xs) (sym (go-none (followed s item.Go) status (config_check s.config) h))
item-halted s (item.Event e) status stands h = event-reports s (came_to (event_step s.machine e)) e stands (event-came s.machine e) (event-grows s.machine e)

pub halted-grown : (s : Progress) (line : List ℕ) (status : Status) → line_passed s line ≡ Err status → report_of (halted s line) ≡ report_of s ++ gain s line
unfolding gain
halted-grown s line status e = go (is_past s line) (item_of s.reader line) refl refl where
  go : (b : Bool) (x : Option Item) → is_past s line ≡ b → item_of s.reader line ≡ x
      → report_of (halted s line) ≡ report_of s ++ cond (is_past s line) [] (judged_gain (line_counted s line) (judged s.reader line))
  go true x p i =
      ap report_of (halted_by s line true (judged s.reader line) p refl) ∙ sym (append-nil (report_of s)) ∙ ap (λ b. report_of s ++ cond b [] (judged_gain (line_counted s line) (judged s.reader line))) (sym p)
  go false None p i =
      ap report_of (halted_by s line false (item_found None) p (judged_by s.reader line None i)) ∙ sym (append-nil (report_of s))
      ∙ ap (λ (j : Result Item Why). report_of s ++ judged_gain (line_counted s line) j) (sym (judged_by s.reader line None i))
      ∙ ap (λ b. report_of s ++ cond b [] (judged_gain (line_counted s line) (judged s.reader line))) (sym p)
  go false (Some x) p i =
      ap report_of (halted_by s line false (item_found (Some x)) p (judged_by s.reader line (Some x) i))
      ∙ item-halted (line_counted s line) x status (line_spelled s.reader line x i).1 (ap (item_taken (line_counted s line)) (sym (judged_by s.reader line (Some x) i)) ∙ sym (passed_by s line false p) ∙ e)
      ∙ ap (λ (j : Result Item Why). report_of s ++ judged_gain (line_counted s line) j) (sym (judged_by s.reader line (Some x) i))
      ∙ ap (λ b. report_of s ++ cond b [] (judged_gain (line_counted s line) (judged s.reader line))) (sym p)
