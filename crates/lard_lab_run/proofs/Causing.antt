-- A line ends a lab by an end exactly where it gives its cause.
use Rattle.std.proofs.Common.{◌≡◌, ℕ, ◌+◌, ◌≤◌, ◌<◌, List, length, Bool, true, false, Option, Some, None, Result, Ok, Err, refl, sym, ap, ◌∙◌, subst, arith}
use Rattle.std.proofs.lemmas.Bool.Decides.{nat_tests}
use Rattle.std.specs.Prelude.{nat_lt}
use Rattle.lard_base.specs.declared.limits.TheConstants.{MAX_INPUT_BYTES}
use Rattle.lard_base.specs.Config.{AreKeysInRange, config_check, range_check}
use Rattle.lard_base.specs.declared.config.ConfigFault.{ConfigFault}
use Rattle.lard_base.specs.declared.config.Key.{Key}
use Rattle.lard_files.specs.declared.fault.FileFault.{FileFault}
use Rattle.lard_files.specs.declared.fault.FileFault.TheVariants as file_fault
use Rattle.lard_lab.specs.declared.event.LabEvent.{LabEvent}
use Rattle.lard_lab.specs.declared.event.LabEvent.TheVariants as event
use Rattle.lard_lab.specs.declared.event.LabFault.{LabFault}
use Rattle.lard_lab.specs.declared.event.LabFault.TheVariants as lab_fault
use Rattle.lard_lab.specs.declared.policy.Policy.{Policy}
use Rattle.lard_lab.specs.Lab.{fault_of}
use Rattle.lard_lab.specs.Targets.{target_check, target_at, targets_total}
use Rattle.lard_lab_run.specs.Causes.{AddsNoneInLab, EndsLabLine, IsLabUnfit, MayNotAddInLab, RefusesInLab, RequestsMore, StandsInLab}
use Rattle.lard_lab_run.specs.Items.{lab_item_of}
use Rattle.lard_lab_run.specs.Trial.{LabProgress, lab_begin, lab_begun, lab_config_set, lab_counted, lab_ended_by, lab_file_ends, trace_filed, lab_followed, lab_found, lab_is_past, lab_item_taken, lab_moved, lab_passed, lab_taken}
use Rattle.lard_lab_run.specs.declared.end.LabEnd.{LabEnd}
use Rattle.lard_lab_run.specs.declared.end.LabEnd.TheVariants.{Done, Refused, ReadFault, WriteFault, NoMemory, Limit}
use Rattle.lard_lab_run.specs.declared.end.LabLimit.TheVariants as limit
use Rattle.lard_lab_run.specs.declared.end.LabWhy.{LabWhy}
use Rattle.lard_lab_run.specs.declared.end.LabWhy.TheVariants as why
use Rattle.lard_lab_run.specs.declared.item.Item.{Item}
use Rattle.lard_lab_run.specs.declared.item.Item.TheVariants as item
use Rattle.lard_lab_run.proofs.Numbers.{IsRefused, check-fault, event-refused, fault-check, fault-file, fault-range, file-fault, range-fault, range_passed, refused-event, set_ranged, standard_ranged}
use Rattle.lard_lab_run.proofs.Passing.{judged_by, never, ok_is, passed-read, passed-took, passed_by}
use Rattle.lard_lab_run.proofs.Spelled.{line_read, line_spelled, none_is}

-- ---- what is known behind lines that passed

-- how many there were, of how many bytes, and that each number that they set is in its range
pub record Knows (n bytes : ℕ) (s : LabProgress) : Type 0 where
  pub lines : s.lines ≡ n
  pub read : s.read ≡ bytes
  pub small : s.read ≤ MAX_INPUT_BYTES
  pub ranged : AreKeysInRange s.config

pub begin-knows : (policy : Policy) → Knows 0 0 (lab_begin policy)
begin-knows policy = record { lines = refl; read = refl; small = omega arith; ranged = standard_ranged }

module _ (s t : LabProgress) (ranged : AreKeysInRange s.config) where
  ranged_as : (u : LabProgress) → AreKeysInRange u.config → ◌≡◌ {A = Result LabProgress LabEnd} (Ok u) (Ok t) → AreKeysInRange t.config
  ranged_as u h e = subst (λ (v : LabProgress). AreKeysInRange v.config) (ok_is u t e) h

  set-ranged : (key : Key) (value : ℕ) (r : Result (Unit {0}) ConfigFault) → range_check key value ≡ r → lab_config_set s key value r ≡ Ok t → AreKeysInRange t.config
  set-ranged key value (Ok u) c e = ranged_as _ (set_ranged s.config key value ranged (range_passed key value c)) e
  set-ranged key value (Err fault) c e = cc

  filed-ranged : (path : List ℕ) (size : ℕ) (r : Result (Unit {0}) FileFault) → trace_filed s path size r ≡ Ok t → AreKeysInRange t.config
  filed-ranged path size (Ok u) e = ranged_as _ ranged e
  filed-ranged path size (Err fault) e = cc

  begun-ranged : (r : Result (Unit {0}) ConfigFault) → lab_begun s r ≡ Ok t → AreKeysInRange t.config
  begun-ranged (Ok u) e = ranged_as _ ranged e
  begun-ranged (Err fault) e = cc

  moved-ranged : (d : LabEvent) (f : Option LabFault) → lab_moved s d f ≡ Ok t → AreKeysInRange t.config
  moved-ranged d None e = ranged_as _ ranged e
  moved-ranged d (Some fault) e = cc

  taken-ranged : (x : Item) → lab_taken s x ≡ Ok t → AreKeysInRange t.config
  taken-ranged item.Header e = ranged_as s ranged e
  taken-ranged (item.Set key value) e = set-ranged key value (range_check key value) refl e
  taken-ranged (item.File path size) e = filed-ranged path size (target_check s.targets path size) e
  taken-ranged item.Go e = begun-ranged (config_check s.config) e
  taken-ranged (item.Event d) e = moved-ranged d (fault_of s.lab d) e

line_bytes : (r b n : ℕ) → r ≡ b → r + n + 1 ≡ b + (n + 1)
line_bytes r b n e = omega (arith, e)

-- ---- numbers

is_over : (r b n : ℕ) → r ≡ b → nat_lt MAX_INPUT_BYTES (r + n + 1) ≡ true → MAX_INPUT_BYTES < b + (n + 1)
is_over r b n e o = grind (arith, nat_tests, e, o)

over : (r b n : ℕ) → r ≡ b → MAX_INPUT_BYTES < b + (n + 1) → nat_lt MAX_INPUT_BYTES (r + n + 1) ≡ true
over r b n e o = grind (arith, nat_tests, e, o)

is_within : (r b n : ℕ) → r ≡ b → nat_lt MAX_INPUT_BYTES (r + n + 1) ≡ false → b + (n + 1) ≤ MAX_INPUT_BYTES
is_within r b n e o = grind (arith, nat_tests, e, o)

within : (r b n : ℕ) → r ≡ b → b + (n + 1) ≤ MAX_INPUT_BYTES → nat_lt MAX_INPUT_BYTES (r + n + 1) ≡ false
within r b n e o = grind (arith, nat_tests, e, o)

pub passed-knows : (n bytes : ℕ) (s u : LabProgress) (line : List ℕ) → Knows n bytes s → lab_passed s line ≡ Ok u → Knows (n + 1) (bytes + (length line + 1)) u
passed-knows n bytes s u line k e =
    let counts = passed-read s u line e in
    let o = passed-took s u line e in
    let sum : u.read ≡ bytes + (length line + 1) = counts.1 ∙ line_bytes s.read bytes (length line) k.read in
    record {
      lines = counts.0 ∙ ap (λ m. m + 1) k.lines;
      read = sum;
      small = subst (λ m. m ≤ MAX_INPUT_BYTES) (sym sum) (is_within s.read bytes (length line) k.read o.within);
      ranged = taken-ranged (lab_followed (lab_counted s line) o.item) u k.ranged o.item o.is;
    }

err_end : (x y : LabEnd) → ◌≡◌ {A = Result LabProgress LabEnd} (Err x) (Err y) → x ≡ y
err_end x y e = cc

module _ (n bytes : ℕ) (s : LabProgress) (k : Knows n bytes s) (line : List ℕ) where
  pub next_number : s.lines + 1 ≡ n + 1
  next_number = ap (λ m. m + 1) k.lines

  -- ---- why the line ended the lab

  module _ (short : bytes + (length line + 1) ≤ MAX_INPUT_BYTES) (end : LabEnd) where
    refused_here : (cause : LabWhy) → RefusesInLab s line cause → ◌≡◌ {A = Result LabProgress LabEnd} (Err (Refused (s.lines + 1) cause)) (Err end) → EndsLabLine s n bytes line end
    refused_here cause r e = subst (EndsLabLine s n bytes line) (err_end (Refused (s.lines + 1) cause) end e) (next_number, short, r)

    set-ends : (key : Key) (value : ℕ) (r : Result (Unit {0}) ConfigFault) → StandsInLab s.reader line (item.Set key value) → range_check key value ≡ r
        → lab_config_set (lab_followed (lab_counted s line) (item.Set key value)) key value r ≡ Err end → EndsLabLine s n bytes line end
    set-ends key value (Ok u) stands c h = absurd (never _ _ (sym h))
    set-ends key value (Err fault) stands c h = refused_here (why.Config fault) (item.Set key value, stands, range-fault key value fault c) h

    file-ends : (path : List ℕ) (size : ℕ) (f : FileFault) → StandsInLab s.reader line (item.File path size) → MayNotAddInLab (target_at s.targets path) (length s.targets) (targets_total s.targets) size f
        → ◌≡◌ {A = Result LabProgress LabEnd} (Err (lab_file_ends (s.lines + 1) f)) (Err end) → EndsLabLine s n bytes line end
    file-ends path size file_fault.Repeated stands c h = refused_here (why.File file_fault.Repeated) (path, size, stands, c) h
    file-ends path size (file_fault.TooLong m) stands c h = absurd c
    file-ends path size (file_fault.TooMany m) stands c h = refused_here (why.File (file_fault.TooMany m)) (path, size, stands, c) h
    file-ends path size (file_fault.TooMuch m) stands c h = refused_here (why.File (file_fault.TooMuch m)) (path, size, stands, c) h
    file-ends path size file_fault.NoMemory stands c h = absurd c

    filed-ends : (path : List ℕ) (size : ℕ) (r : Result (Unit {0}) FileFault) → StandsInLab s.reader line (item.File path size) → target_check s.targets path size ≡ r
        → trace_filed (lab_followed (lab_counted s line) (item.File path size)) path size r ≡ Err end → EndsLabLine s n bytes line end
    filed-ends path size (Ok u) stands c h = absurd (never _ _ (sym h))
    filed-ends path size (Err f) stands c h = file-ends path size f stands (file-fault (target_at s.targets path) (length s.targets) (targets_total s.targets) size stands.2.1 f c) h

    begun-ends : (r : Result (Unit {0}) ConfigFault) → StandsInLab s.reader line item.Go → config_check s.config ≡ r → lab_begun (lab_followed (lab_counted s line) item.Go) r ≡ Err end → EndsLabLine s n bytes line end
    begun-ends (Ok u) stands c h = absurd (never _ _ (sym h))
    begun-ends (Err fault) stands c h = refused_here (why.Config fault) (item.Go, stands, check-fault s.config k.ranged fault c) h

    as-event : (d e : LabEvent) → StandsInLab s.reader line (item.Event d) → d ≡ e → StandsInLab s.reader line (item.Event e)
    as-event d e stands same = subst (λ (x : LabEvent). StandsInLab s.reader line (item.Event x)) same stands

    fault-ends : (d : LabEvent) (f : LabFault) → StandsInLab s.reader line (item.Event d) → IsRefused s.lab d f → ◌≡◌ {A = Result LabProgress LabEnd} (Err (lab_ended_by (s.lines + 1) f)) (Err end) → EndsLabLine s n bytes line end
    fault-ends d lab_fault.NoFile stands r h = refused_here why.NoFile (r.0, as-event d (event.Req r.0) stands r.1, r.2) h
    fault-ends d (lab_fault.NotOpen i) stands r h = refused_here (why.NotOpen i) (as-event d (event.Done i) stands r.0, r.1) h
    fault-ends d lab_fault.Limit stands r h = subst (EndsLabLine s n bytes line) (err_end (Limit (s.lines + 1) limit.Requests) end h) (next_number, short, (r.0, as-event d (event.Req r.0) stands r.1, r.2, r.3))
    fault-ends d lab_fault.NoMemory stands r h = absurd r

    moved-ends : (d : LabEvent) (f : Option LabFault) → StandsInLab s.reader line (item.Event d) → fault_of s.lab d ≡ f → lab_moved (lab_followed (lab_counted s line) (item.Event d)) d f ≡ Err end → EndsLabLine s n bytes line end
    moved-ends d None stands c h = absurd (never _ _ (sym h))
    moved-ends d (Some f) stands c h = fault-ends d f stands (event-refused s.lab d f c) h

    item-ends : (x : Item) → StandsInLab s.reader line x → lab_taken (lab_followed (lab_counted s line) x) x ≡ Err end → EndsLabLine s n bytes line end
    item-ends item.Header stands h = absurd (never _ _ (sym h))
    item-ends (item.Set key value) stands h = set-ends key value (range_check key value) stands refl h
    item-ends (item.File path size) stands h = filed-ends path size (target_check s.targets path size) stands refl h
    item-ends item.Go stands h = begun-ends (config_check s.config) stands refl h
    item-ends (item.Event d) stands h = moved-ends d (fault_of s.lab d) stands refl h

    judged-ends : (x : Option Item) → lab_item_of s.reader line ≡ x → lab_item_taken (lab_counted s line) (lab_found x) ≡ Err end → EndsLabLine s n bytes line end
    judged-ends None i h = refused_here why.Syntax ((none_is s.reader line).0 i) h
    judged-ends (Some x) i h = item-ends x (line_spelled s.reader line x i) h

  pub line-ends : (end : LabEnd) → lab_passed s line ≡ Err end → EndsLabLine s n bytes line end
  line-ends end e = go (lab_is_past s line) refl where
    go : (b : Bool) → lab_is_past s line ≡ b → EndsLabLine s n bytes line end
    go true p = subst (EndsLabLine s n bytes line) (err_end (Limit (s.lines + 1) limit.Input) end (sym (passed_by s line true p) ∙ e)) (next_number, is_over s.read bytes (length line) k.read p)
    go false p =
        judged-ends (is_within s.read bytes (length line) k.read p) end (lab_item_of s.reader line) refl (ap (lab_item_taken (lab_counted s line)) (sym (judged_by s.reader line (lab_item_of s.reader line) refl)) ∙ sym (passed_by s line false p) ∙ e)

  -- ---- and back

  module _ (short : bytes + (length line + 1) ≤ MAX_INPUT_BYTES) where
    -- what a line leads to that is read as something
    read_by : (x : Option Item) → lab_item_of s.reader line ≡ x → lab_passed s line ≡ lab_item_taken (lab_counted s line) (lab_found x)
    read_by x i = passed_by s line false (within s.read bytes (length line) k.read short) ∙ ap (lab_item_taken (lab_counted s line)) (judged_by s.reader line x i)

    stands_by : (x : Item) → StandsInLab s.reader line x → lab_passed s line ≡ lab_taken (lab_followed (lab_counted s line) x) x
    stands_by x t = read_by (Some x) (line_read s.reader line x t)

    stopped_by : (d : LabEvent) (f : LabFault) → StandsInLab s.reader line (item.Event d) → IsRefused s.lab d f → lab_passed s line ≡ Err (lab_ended_by (s.lines + 1) f)
    stopped_by d f t r = stands_by (item.Event d) t ∙ ap (lab_moved (lab_followed (lab_counted s line) (item.Event d)) d) (refused-event s.lab d f r)

    unfit-refused : (x : Item) (fault : ConfigFault) → StandsInLab s.reader line x → IsLabUnfit s.config x fault → lab_passed s line ≡ Err (Refused (s.lines + 1) (why.Config fault))
    unfit-refused item.Header fault t u = absurd u
    unfit-refused (item.Set key value) fault t u =
        stands_by (item.Set key value) t ∙ ap (lab_config_set (lab_followed (lab_counted s line) (item.Set key value)) key value) (fault-range key value t.1.2 u.1) ∙ ap (λ f. Err (Refused (s.lines + 1) (why.Config f))) (sym u.0)
    unfit-refused (item.File path size) fault t u = absurd u
    unfit-refused item.Go fault t u = stands_by item.Go t ∙ ap (lab_begun (lab_followed (lab_counted s line) item.Go)) (fault-check s.config k.ranged fault u)
    unfit-refused (item.Event d) fault t u = absurd u

    file-refused : (f : FileFault) → AddsNoneInLab s line f → lab_passed s line ≡ Err (lab_file_ends (s.lines + 1) f)
    file-refused f u =
        stands_by (item.File u.0 u.1) u.2 ∙ ap (trace_filed (lab_followed (lab_counted s line) (item.File u.0 u.1)) u.0 u.1) (fault-file (target_at s.targets u.0) (length s.targets) (targets_total s.targets) u.1 u.2.2.1 f u.3)

    refused : (cause : LabWhy) → RefusesInLab s line cause → lab_passed s line ≡ Err (Refused (s.lines + 1) cause)
    refused why.Syntax u = read_by None ((none_is s.reader line).1 u)
    refused (why.Config fault) u = unfit-refused u.0 fault u.1 u.2
    refused (why.File file_fault.Repeated) u = file-refused file_fault.Repeated u
    refused (why.File (file_fault.TooLong m)) u = absurd u.3
    refused (why.File (file_fault.TooMany m)) u = file-refused (file_fault.TooMany m) u
    refused (why.File (file_fault.TooMuch m)) u = file-refused (file_fault.TooMuch m) u
    refused (why.File file_fault.NoMemory) u = absurd u.3
    refused why.NoFile u = stopped_by (event.Req u.0) lab_fault.NoFile u.1 (u.0, refl, u.2)
    refused (why.NotOpen i) u = stopped_by (event.Done i) (lab_fault.NotOpen i) u.0 (refl, u.1)

    more : RequestsMore s line → lab_passed s line ≡ Err (Limit (s.lines + 1) limit.Requests)
    more u = stopped_by (event.Req u.0) lab_fault.Limit u.1 (u.0, refl, u.2, u.3)

  numbered : (cause : ℕ → LabEnd) (number : ℕ) → number ≡ n + 1 → lab_passed s line ≡ Err (cause (s.lines + 1)) → lab_passed s line ≡ Err (cause number)
  numbered cause number is e = e ∙ ap (λ m. Err (cause m)) (next_number ∙ sym is)

  pub ends-line : (end : LabEnd) → EndsLabLine s n bytes line end → lab_passed s line ≡ Err end
  ends-line (Limit number limit.Input) u = numbered (λ m. Limit m limit.Input) number u.0 (passed_by s line true (over s.read bytes (length line) k.read u.1))
  ends-line (Limit number limit.Requests) u = numbered (λ m. Limit m limit.Requests) number u.0 (more u.1 u.2)
  ends-line (Refused number cause) u = numbered (λ m. Refused m cause) number u.0 (refused u.1 cause u.2)
  ends-line Done u = absurd u
  ends-line ReadFault u = absurd u
  ends-line WriteFault u = absurd u
  ends-line NoMemory u = absurd u
