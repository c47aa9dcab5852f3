-- A line ends a replay with a status exactly where it gives its cause.
use Rattle.std.proofs.Common.{◌≡◌, ℕ, ◌+◌, ◌≤◌, ◌<◌, List, length, Bool, true, false, Option, Some, None, Result, Ok, Err, refl, sym, ap, ◌∙◌, subst, arith}
use Rattle.std.proofs.lemmas.Bool.Decides.{nat_tests}
use Rattle.std.specs.Prelude.{nat_lt}
use Rattle.lard_law_view.specs.Prelude.{ConfigFault, Event, FileFault, Key, MAX_INPUT_BYTES, Machine, StepFault, What, add_check, config_check, file_at, files_total, range_check}
use Rattle.lard_rules.specs.declared.fault.StepFault.TheVariants as fault
use Rattle.lard_settling.specs.Events.{event_step}
use Rattle.lard_settling.specs.Settling.{Stop}
use Rattle.lard_files.specs.declared.fault.FileFault.TheVariants as file_fault
use Rattle.lard_rules.specs.declared.fault.What.TheVariants as what
use Rattle.lard_schedule.specs.declared.item.Item.{Item}
use Rattle.lard_schedule.specs.declared.item.Item.TheVariants as item
use Rattle.lard_schedule.specs.Reader.{item_of}
use Rattle.lard_schedule.proofs.Lines.{line_read, line_spelled, none_is}
use Rattle.lard_app.specs.declared.status.Status.{Status}
use Rattle.lard_app.specs.declared.status.Status.TheVariants.{Done, Usage, Refused, ReadFault, WriteFault, NoMemory, Limit}
use Rattle.lard_app.specs.declared.status.Why.{Why}
use Rattle.lard_app.specs.declared.status.Why.TheVariants as why
use Rattle.lard_app.specs.Causes.{AddsNone, EndsLine, IsUnfit, MayNotAdd, ReachesLimit, RefusesLine, StandsThere, Tries}
use Rattle.lard_app.specs.Replay.{Progress, replay_begun, config_set, line_counted, ended_by, file_ends, filed, followed, item_found, is_past, item_taken, replay_moved, line_passed, taken_item}
use Rattle.lard_app.proofs.Blames.{Blames, event-blames, reaches-stop, unreached, untimely-stops}
use Rattle.lard_app.proofs.Knows.{Knows}
use Rattle.lard_app.proofs.Numbers.{check-fault, fault-check, fault-file, fault-range, file-fault, range-fault}
use Rattle.lard_app.proofs.Passing.{judged_by, never, passed_by}

-- ---- numbers

is_over : (r b n : ℕ) → r ≡ b → nat_lt MAX_INPUT_BYTES (r + n + 1) ≡ true → MAX_INPUT_BYTES < b + (n + 1)
is_over r b n e o = grind (arith, nat_tests, e, o)

over : (r b n : ℕ) → r ≡ b → MAX_INPUT_BYTES < b + (n + 1) → nat_lt MAX_INPUT_BYTES (r + n + 1) ≡ true
over r b n e o = grind (arith, nat_tests, e, o)

is_within : (r b n : ℕ) → r ≡ b → nat_lt MAX_INPUT_BYTES (r + n + 1) ≡ false → b + (n + 1) ≤ MAX_INPUT_BYTES
is_within r b n e o = grind (arith, nat_tests, e, o)

within : (r b n : ℕ) → r ≡ b → b + (n + 1) ≤ MAX_INPUT_BYTES → nat_lt MAX_INPUT_BYTES (r + n + 1) ≡ false
within r b n e o = grind (arith, nat_tests, e, o)

err_status : (x y : Status) → ◌≡◌ {A = Result Progress Status} (Err x) (Err y) → x ≡ y
err_status x y e = cc

module _ (n bytes : ℕ) (s : Progress) (k : Knows n bytes s) (line : List ℕ) where
  pub next_number : s.lines + 1 ≡ n + 1
  next_number = ap (λ m. m + 1) k.lines

  -- ---- why the line ended the run

  module _ (short : bytes + (length line + 1) ≤ MAX_INPUT_BYTES) (status : Status) where
    refused_here : (cause : Why) → RefusesLine s line cause → ◌≡◌ {A = Result Progress Status} (Err (Refused (s.lines + 1) cause)) (Err status) → EndsLine s n bytes line status
    refused_here cause r e = subst (EndsLine s n bytes line) (err_status (Refused (s.lines + 1) cause) status e) (next_number, short, r)

    limited : (w : What) (e : Event) → Tries s line e → ReachesLimit s.machine e w → EndsLine s n bytes line (Limit (s.lines + 1) w)
    limited what.Input e t r = absurd (unreached s.machine e r)
    limited _ e t r = (next_number, short, (e, t, r))

    limited_here : (w : What) (e : Event) → Tries s line e → ReachesLimit s.machine e w → ◌≡◌ {A = Result Progress Status} (Err (Limit (s.lines + 1) w)) (Err status) → EndsLine s n bytes line status
    limited_here w e t r h = subst (EndsLine s n bytes line) (err_status (Limit (s.lines + 1) w) status h) (limited w e t r)

    fault-ends : (e : Event) (f : StepFault) → Tries s line e → Blames s.machine e f → ◌≡◌ {A = Result Progress Status} (Err (ended_by (s.lines + 1) f)) (Err status) → EndsLine s n bytes line status
    fault-ends e (fault.Refused reason) t l is = refused_here (why.Untimely reason) (e, t, l.0 reason refl) is
    fault-ends e (fault.Limit w) t l is = limited_here w e t (l.1 w refl) is
    fault-ends e fault.NoMemory t l is = absurd (l.2 refl)

    moved-ends : (e : Event) (r : Result Machine Stop) → Tries s line e → event_step s.machine e ≡ r → replay_moved (followed (line_counted s line) (item.Event e)) r ≡ Err status → EndsLine s n bytes line status
    moved-ends e (Ok m) t is h = absurd (never _ _ (sym h))
    moved-ends e (Err stop) t is h = fault-ends e stop.1 t (event-blames s.machine k.keeps.written k.keeps.checked e stop is) h

    set-ends : (key : Key) (value : ℕ) (r : Result (Unit {0}) ConfigFault) → StandsThere s line (item.Set key value) → range_check key value ≡ r
        → config_set (followed (line_counted s line) (item.Set key value)) key value r ≡ Err status → EndsLine s n bytes line status
    set-ends key value (Ok u) stands c h = absurd (never _ _ (sym h))
    set-ends key value (Err fault) stands c h = refused_here (why.Config fault) (item.Set key value, stands, range-fault key value fault c) h

    file-ends : (path b : List ℕ) (f : FileFault) → StandsThere s line (item.File path b) → MayNotAdd (file_at s.files path) (length s.files) (files_total s.files) (length b) f
        → ◌≡◌ {A = Result Progress Status} (Err (file_ends (s.lines + 1) f)) (Err status) → EndsLine s n bytes line status
    file-ends path b file_fault.Repeated stands c h = refused_here (why.File file_fault.Repeated) (path, b, stands, c) h
    file-ends path b (file_fault.TooLong m) stands c h = refused_here (why.File (file_fault.TooLong m)) (path, b, stands, c) h
    file-ends path b (file_fault.TooMany m) stands c h = refused_here (why.File (file_fault.TooMany m)) (path, b, stands, c) h
    file-ends path b (file_fault.TooMuch m) stands c h = refused_here (why.File (file_fault.TooMuch m)) (path, b, stands, c) h
    file-ends path b file_fault.NoMemory stands c h = absurd c

    filed-ends : (path b : List ℕ) (r : Result (Unit {0}) FileFault) → StandsThere s line (item.File path b) → add_check s.files path (length b) ≡ r
        → filed (followed (line_counted s line) (item.File path b)) path b r ≡ Err status → EndsLine s n bytes line status
    filed-ends path b (Ok u) stands c h = absurd (never _ _ (sym h))
    filed-ends path b (Err f) stands c h = file-ends path b f stands (file-fault (file_at s.files path) (length s.files) (files_total s.files) (length b) f c) h

    begun-ends : (r : Result (Unit {0}) ConfigFault) → StandsThere s line item.Go → config_check s.config ≡ r → replay_begun (followed (line_counted s line) item.Go) r ≡ Err status → EndsLine s n bytes line status
    begun-ends (Ok u) stands c h = absurd (never _ _ (sym h))
    begun-ends (Err fault) stands c h = refused_here (why.Config fault) (item.Go, stands, check-fault s.config k.keeps.fits fault c) h

    item-ends : (x : Item) → StandsThere s line x → taken_item (followed (line_counted s line) x) x ≡ Err status → EndsLine s n bytes line status
    item-ends item.Header stands h = absurd (never _ _ (sym h))
    item-ends (item.Set key value) stands h = set-ends key value (range_check key value) stands refl h
    item-ends (item.File path b) stands h = filed-ends path b (add_check s.files path (length b)) stands refl h
    item-ends item.Go stands h = begun-ends (config_check s.config) stands refl h
    item-ends (item.Event e) stands h = moved-ends e (event_step s.machine e) stands refl h

    judged-ends : (x : Option Item) → item_of s.reader line ≡ x → item_taken (line_counted s line) (item_found x) ≡ Err status → EndsLine s n bytes line status
    judged-ends None i h = refused_here why.Syntax ((none_is s.reader line).0 i) h
    judged-ends (Some x) i h = item-ends x (line_spelled s.reader line x i) h

  pub line-ends : (status : Status) → line_passed s line ≡ Err status → EndsLine s n bytes line status
  line-ends status e = go (is_past s line) refl where
    go : (b : Bool) → is_past s line ≡ b → EndsLine s n bytes line status
    go true p = subst (EndsLine s n bytes line) (err_status (Limit (s.lines + 1) what.Input) status (sym (passed_by s line true p) ∙ e)) (next_number, is_over s.read bytes (length line) k.read p)
    go false p = judged-ends (is_within s.read bytes (length line) k.read p) status (item_of s.reader line) refl (sym (passed_by s line false p) ∙ e)

  -- ---- and back

  module _ (short : bytes + (length line + 1) ≤ MAX_INPUT_BYTES) where
    -- what a line leads to that is read as something
    read_by : (x : Option Item) → item_of s.reader line ≡ x → line_passed s line ≡ item_taken (line_counted s line) (item_found x)
    read_by x i = passed_by s line false (within s.read bytes (length line) k.read short) ∙ ap (item_taken (line_counted s line)) (judged_by s.reader line x i)

    stands_by : (x : Item) → StandsThere s line x → line_passed s line ≡ taken_item (followed (line_counted s line) x) x
    stands_by x t = read_by (Some x) (line_read s.reader line x t.0 t.1 t.2)

    stopped_by : (e : Event) (stop : Stop) → Tries s line e → event_step s.machine e ≡ Err stop → line_passed s line ≡ Err (ended_by (s.lines + 1) stop.1)
    stopped_by e stop t is = stands_by (item.Event e) t ∙ ap (replay_moved (followed (line_counted s line) (item.Event e))) is

    unfit-refused : (x : Item) (fault : ConfigFault) → StandsThere s line x → IsUnfit s.config x fault → line_passed s line ≡ Err (Refused (s.lines + 1) (why.Config fault))
    unfit-refused item.Header fault t u = absurd u
    unfit-refused (item.Set key value) fault t u = stands_by (item.Set key value) t ∙ ap (config_set (followed (line_counted s line) (item.Set key value)) key value) (fault-range key value u.1) ∙ ap (λ f. Err (Refused (s.lines + 1) (why.Config f))) (sym u.0)
    unfit-refused (item.File path bytes) fault t u = absurd u
    unfit-refused item.Go fault t u = stands_by item.Go t ∙ ap (replay_begun (followed (line_counted s line) item.Go)) (fault-check s.config k.keeps.fits fault u)
    unfit-refused (item.Event e) fault t u = absurd u

    file-refused : (f : FileFault) → AddsNone s line f → line_passed s line ≡ Err (file_ends (s.lines + 1) f)
    file-refused f u = stands_by (item.File u.0 u.1) u.2 ∙ ap (filed (followed (line_counted s line) (item.File u.0 u.1)) u.0 u.1) (fault-file (file_at s.files u.0) (length s.files) (files_total s.files) (length u.1) f u.3)

    refused : (cause : Why) → RefusesLine s line cause → line_passed s line ≡ Err (Refused (s.lines + 1) cause)
    refused why.Syntax u = read_by None ((none_is s.reader line).1 u)
    refused (why.Config fault) u = unfit-refused u.0 fault u.1 u.2
    refused (why.File file_fault.Repeated) u = file-refused file_fault.Repeated u
    refused (why.File (file_fault.TooLong m)) u = file-refused (file_fault.TooLong m) u
    refused (why.File (file_fault.TooMany m)) u = file-refused (file_fault.TooMany m) u
    refused (why.File (file_fault.TooMuch m)) u = file-refused (file_fault.TooMuch m) u
    refused (why.File file_fault.NoMemory) u = absurd u.3
    refused (why.Untimely reason) u =
        stopped_by u.0 (s.machine, fault.Refused reason) u.1 (untimely-stops s.machine k.keeps.written k.keeps.checked u.0 reason u.2)
    refused why.NoFile u = absurd u
    refused (why.NotOpen number) u = absurd u
    refused (why.Broken rule) u = absurd u

    reached : (w : What) (e : Event) → Tries s line e → ReachesLimit s.machine e w → line_passed s line ≡ Err (Limit (s.lines + 1) w)
    reached w e t r = let stop = reaches-stop s.machine k.keeps.written k.keeps.checked e w r in stopped_by e (stop.0, fault.Limit w) t stop.1

  numbered : (cause : ℕ → Status) (number : ℕ) → number ≡ n + 1 → line_passed s line ≡ Err (cause (s.lines + 1)) → line_passed s line ≡ Err (cause number)
  numbered cause number is e = e ∙ ap (λ m. Err (cause m)) (next_number ∙ sym is)

  pub ends-line : (status : Status) → EndsLine s n bytes line status → line_passed s line ≡ Err status
  ends-line (Limit number what.Input) u = numbered (λ m. Limit m what.Input) number u.0 (passed_by s line true (over s.read bytes (length line) k.read u.1))
  ends-line (Limit number what.Packets) u = numbered (λ m. Limit m what.Packets) number u.0 (reached u.1 what.Packets u.2.0 u.2.1 u.2.2)
  ends-line (Limit number what.PacketBytes) u = numbered (λ m. Limit m what.PacketBytes) number u.0 (reached u.1 what.PacketBytes u.2.0 u.2.1 u.2.2)
  ends-line (Limit number what.Records) u = numbered (λ m. Limit m what.Records) number u.0 (reached u.1 what.Records u.2.0 u.2.1 u.2.2)
  ends-line (Limit number what.Answers) u = numbered (λ m. Limit m what.Answers) number u.0 (reached u.1 what.Answers u.2.0 u.2.1 u.2.2)
  ends-line (Limit number what.Requests) u = numbered (λ m. Limit m what.Requests) number u.0 (reached u.1 what.Requests u.2.0 u.2.1 u.2.2)
  ends-line (Limit number what.Stream) u = numbered (λ m. Limit m what.Stream) number u.0 (reached u.1 what.Stream u.2.0 u.2.1 u.2.2)
  ends-line (Refused number cause) u = numbered (λ m. Refused m cause) number u.0 (refused u.1 cause u.2)
  ends-line Done u = absurd u
  ends-line Usage u = absurd u
  ends-line ReadFault u = absurd u
  ends-line WriteFault u = absurd u
  ends-line NoMemory u = absurd u
