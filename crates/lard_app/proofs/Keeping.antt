-- What a replay keeps: its machine is one that the events of its lines have led to, and its numbers are bounded.
use Rattle.std.proofs.Common.{◌≡◌, inl, inr, ℕ, ◌+◌, ◌≤◌, List, [], ◌∷◌, ◌++◌, length, Bool, true, false, cond, Result, Ok, Err, refl, sym, ap, ◌∙◌, subst, append_assoc, append-nil, arith}
use Rattle.std.proofs.lemmas.Bool.Decides.{nat_tests}
use Rattle.std.specs.List.{flat_map}
use Rattle.std.specs.Prelude.{nat_lt}
use Rattle.lard_law_view.specs.Prelude.{AreKeysInRange as IsConfigRanged, Config, ConfigFault, Event, FileFault, IsConfigInRange, Key, MAX_INPUT_BYTES, Machine, add_check, config_check, file_text, is_in_range, machine_start, range_check, set_key, standard}
use Rattle.lard_base.specs.declared.config.ConfigFault.TheVariants.{Range}
use Rattle.lard_base.specs.declared.config.Key.TheVariants.{Nodes, Low, High, Age, Idle, Over, Miss, Cache, Stream}
use Rattle.lard_base.specs.declared.event.Event.TheVariants as event
use Rattle.lard_audit_run.specs.Reports.{MayBeAdded}
use Rattle.lard_laws.specs.Records.{IsRunFile, IsScheduled}
use Rattle.lard_report.specs.Formed.{IsEventFormed}
use Rattle.lard_settle.proofs.Runs.{GoesOn}
use Rattle.lard_history.proofs.Each.{Each, Each-append}
use Rattle.lard_lines.specs.Lines.{lines_of}
use Rattle.lard_schedule.proofs.Lines.{line_spelled}
use Rattle.lard_schedule.specs.declared.item.Item.{Item}
use Rattle.lard_schedule.specs.declared.item.Item.TheVariants as item
use Rattle.lard_schedule.specs.declared.reader.Stage.{Stage}
use Rattle.lard_schedule.specs.declared.reader.Stage.TheVariants.{Start, Settings, Files, Running}
use Rattle.lard_schedule.specs.Files.{is_file_path}
use Rattle.lard_schedule.specs.Laws.{IsBefore, MayStand, SpellsFile, SpellsItem}
use Rattle.lard_schedule.specs.Reader.{HasRange}
use Rattle.lard_settling.specs.Events.{GoesThrough, LeadsTo, MayCome, event_step}
use Rattle.lard_settling.specs.Settling.{Stop}
use Rattle.lard_settling.specs.Written.{IsWrittenOut}
use Rattle.lard_settling.proofs.Written.{written}
use Rattle.lard_app.specs.declared.status.Status.{Status}
use Rattle.lard_app.specs.Replay.{Progress, begin, replay_begun, begun_by, came_to, config_set, line_counted, event_listed, events_from, events_of, filed, followed, halted, is_past, judged, replay_moved, line_passed, replayed, file_sizes, taken_item, whole}
use Rattle.lard_app.proofs.Ranges.{HasRanges, config_checked, event-formed, event-given, file-given, file-told}
use Rattle.lard_app.proofs.Halting.{HadBegun, Leaves, line-leaves}
use Rattle.lard_app.proofs.Passing.{never, ok_is, passed-took, took-fits, took-judged}
use Rattle.lard_app.proofs.Steps.{may-come}
use Rattle.lard_app.proofs.Written.{event-written, goes-more}
use Rattle.lard_app.proofs.Events.{event-goes, event-left}

-- ---- what is kept

-- no event was passed before `go`
abbrev pub IsIdle : Stage → List Event → Type 0
IsIdle Start es = es ≡ []
IsIdle Settings es = es ≡ []
IsIdle Files es = es ≡ []
IsIdle Running es = Unit {0}

idle_before : (stage : Stage) (es : List Event) → IsIdle stage es → IsBefore stage → es ≡ []
idle_before Start es i b = absurd b
idle_before Settings es i b = i
idle_before Files es i b = i
idle_before Running es i b = absurd b

-- before `go` the machine is the one that nobody sees
abbrev pub IsUnseen : Stage → Machine → Type 0
IsUnseen Start m = m ≡ begin.machine
IsUnseen Settings m = m ≡ begin.machine
IsUnseen Files m = m ≡ begin.machine
IsUnseen Running m = Unit {0}

unseen_before : (stage : Stage) (m : Machine) → IsUnseen stage m → IsBefore stage → m ≡ begin.machine
unseen_before Start m u b = absurd b
unseen_before Settings m u b = u
unseen_before Files m u b = u
unseen_before Running m u b = absurd b

-- what holds of a replay that has passed these events
pub record Keeps (s : Progress) (es : List Event) : Type 0 where
  pub idle : IsIdle s.reader.stage es
  pub runs : GoesThrough (machine_start s.machine.config s.machine.files) es s.machine
  pub written : IsWrittenOut s.machine.config s.machine.files s.machine
  pub listed : s.listed ≡ flat_map file_text (file_sizes s.files)
  pub fits : IsConfigRanged s.config
  pub checked : config_check s.machine.config ≡ Ok tt
  pub ranges : HasRanges s.files s.machine es
  pub unseen : IsUnseen s.reader.stage s.machine
  pub lines : s.lines ≤ s.read
  pub read : s.read ≤ MAX_INPUT_BYTES

-- each number that no line set is in its range
standard_fits : IsConfigRanged standard
standard_fits Nodes = refl
standard_fits Low = refl
standard_fits High = refl
standard_fits Age = refl
standard_fits Idle = refl
standard_fits Over = refl
standard_fits Miss = refl
standard_fits Cache = refl
standard_fits Stream = refl

-- one that was set is, too, and the others are as they were
set_fits : (c : Config) (key : Key) (value : ℕ) → IsConfigRanged c → is_in_range key value ≡ true → IsConfigRanged (set_key c key value)
set_fits c Nodes value h e Nodes = e
set_fits c Nodes value h e other = h other
set_fits c Low value h e Low = e
set_fits c Low value h e other = h other
set_fits c High value h e High = e
set_fits c High value h e other = h other
set_fits c Age value h e Age = e
set_fits c Age value h e other = h other
set_fits c Idle value h e Idle = e
set_fits c Idle value h e other = h other
set_fits c Over value h e Over = e
set_fits c Over value h e other = h other
set_fits c Miss value h e Miss = e
set_fits c Miss value h e other = h other
set_fits c Cache value h e Cache = e
set_fits c Cache value h e other = h other
set_fits c Stream value h e Stream = e
set_fits c Stream value h e other = h other

-- a number that the check lets through is in its range
range_passed : (key : Key) (value : ℕ) → range_check key value ≡ Ok tt → is_in_range key value ≡ true
range_passed key value e = go (is_in_range key value) e where
  go : (b : Bool) → cond {A = Result (Unit {0}) ConfigFault} b (Ok tt) (Err (Range key value)) ≡ Ok tt → b ≡ true
  go true h = refl
  go false h = cc

pub begin-keeps : Keeps begin []
begin-keeps = record {
  idle = refl;
  runs = refl;
  written = (written standard []).begins;
  listed = refl;
  fits = standard_fits;
  checked = refl;
  ranges = record { files = tt; config = (omega arith, omega arith, omega arith, omega arith, omega arith, omega arith, omega arith, omega arith, omega arith); taken = tt; events = tt; told = tt; started = tt; formed = tt };
  unseen = refl;
  lines = omega arith;
  read = omega arith;
}

within_limit : (m : ℕ) → nat_lt MAX_INPUT_BYTES m ≡ false → m ≤ MAX_INPUT_BYTES
within_limit m e = grind (arith, nat_tests, e)

counted-keeps : (s : Progress) (line : List ℕ) (es : List Event) → is_past s line ≡ false → Keeps s es → Keeps (line_counted s line) es
counted-keeps s line es p k = record {
  idle = k.idle;
  runs = k.runs;
  written = k.written;
  listed = k.listed;
  fits = k.fits;
  checked = k.checked;
  ranges = k.ranges;
  unseen = k.unseen;
  lines = omega (arith, k.lines);
  read = within_limit (s.read + length line + 1) p;
}

-- one more file has one more line
listed_more : (files : List (List ℕ × List ℕ)) (path bytes : List ℕ) → flat_map file_text (file_sizes files) ++ file_text (path, length bytes) ≡ flat_map file_text (file_sizes (files ++ (path, bytes) ∷ []))
listed_more [] path bytes = sym (append-nil (file_text (path, length bytes)))
listed_more (f ∷ fs) path bytes = append_assoc (file_text (f.0, length f.1)) (flat_map file_text (file_sizes fs)) (file_text (path, length bytes)) ∙ ap (λ l. file_text (f.0, length f.1) ++ l) (listed_more fs path bytes)

module _ (s t : Progress) (es : List Event) (k : Keeps s es) where
  same_events : GoesThrough (machine_start s.machine.config s.machine.files) (es ++ []) s.machine
  same_events = subst (λ ds. GoesThrough (machine_start s.machine.config s.machine.files) ds s.machine) (sym (append-nil es)) k.runs

  same_ranges : HasRanges s.files s.machine (es ++ [])
  same_ranges = subst (HasRanges s.files s.machine) (sym (append-nil es)) k.ranges

  set-keeps : (key : Key) (value : ℕ) (r : Result (Unit {0}) ConfigFault) → range_check key value ≡ r → config_set (followed s (item.Set key value)) key value r ≡ Ok t → Keeps t (es ++ [])
  set-keeps key value (Err fault) c e = absurd (never _ t e)
  set-keeps key value (Ok u) c e = subst (λ (v : Progress). Keeps v (es ++ [])) (ok_is _ t e) (record {
    idle = subst (IsIdle s.reader.stage) (sym (append-nil es)) k.idle;
    runs = same_events;
    written = k.written;
    listed = k.listed;
    fits = set_fits s.config key value k.fits (range_passed key value c);
    checked = k.checked;
    ranges = same_ranges;
    unseen = k.unseen;
    lines = k.lines;
    read = k.read;
  })

  begun-keeps : (r : Result (Unit {0}) ConfigFault) → config_check s.config ≡ r → IsBefore s.reader.stage → replay_begun (followed s item.Go) r ≡ Ok t → Keeps t (es ++ [])
  begun-keeps (Err fault) c b e = absurd (never _ t e)
  begun-keeps (Ok u) c b e = subst (λ (v : Progress). Keeps v (es ++ [])) (ok_is _ t e) (record {
    idle = tt;
    listed = refl;
    runs = subst (λ ds. GoesThrough (machine_start s.config s.files) ds (machine_start s.config s.files)) (sym (append-nil es ∙ idle_before s.reader.stage es k.idle b)) refl;
    written = (written s.config s.files).begins;
    fits = k.fits;
    checked = c;
    ranges = record { files = tt; config = (config_checked s.config c).0; taken = k.ranges.files; events = same_ranges.events; told = tt; started = k.ranges.told; formed = same_ranges.formed };
    unseen = tt;
    lines = k.lines;
    read = k.read;
  })

  filed-keeps : (words : List (List ℕ)) (path bytes : List ℕ) (r : Result (Unit {0}) FileFault) → SpellsFile words path bytes → is_file_path path ≡ true → add_check s.files path (length bytes) ≡ r
      → IsBefore s.reader.stage → filed (followed s (item.File path bytes)) path bytes r ≡ Ok t → Keeps t (es ++ [])
  filed-keeps words path bytes (Err fault) spelled fits c b e = absurd (never _ t e)
  filed-keeps words path bytes (Ok u) spelled fits c b e = subst (λ (v : Progress). Keeps v (es ++ [])) (ok_is _ t e) (record {
    idle = append-nil es ∙ idle_before s.reader.stage es k.idle b;
    runs = same_events;
    written = k.written;
    listed = ap (λ l. l ++ file_text (path, length bytes)) k.listed ∙ listed_more s.files path bytes;
    fits = k.fits;
    checked = k.checked;
    ranges = record {
      files = Each-append IsRunFile s.files ((path, bytes) ∷ []) k.ranges.files (file-given s.files words path bytes spelled fits c, tt);
      config = k.ranges.config;
      taken = k.ranges.taken;
      events = same_ranges.events;
      told = file-told s.files path bytes k.ranges.told fits c;
      started = k.ranges.started;
      formed = same_ranges.formed;
    };
    unseen = unseen_before s.reader.stage s.machine k.unseen b;
    lines = k.lines;
    read = k.read;
  })

  moved-keeps : (e : Event) (r : Result Machine Stop) → s.reader.stage ≡ Running → IsScheduled e → IsEventFormed e → MayCome e → event_step s.machine e ≡ r → replay_moved (followed s (item.Event e)) r ≡ Ok t → Keeps t (es ++ e ∷ [])
  moved-keeps e (Err stop) running given formed may is h = absurd (never _ t h)
  moved-keeps e (Ok m) running given formed may is h =
      let kept : GoesOn s.machine m = event-goes s.machine m e is in
      let written_ : IsWrittenOut s.machine.config s.machine.files m = subst (λ (x : Result Machine Stop). IsWrittenOut s.machine.config s.machine.files (came_to x)) is (event-written s.machine.config s.machine.files s.machine e k.written may) in
      subst (λ (v : Progress). Keeps v (es ++ e ∷ [])) (ok_is _ t h) (record {
        idle = subst (λ st. IsIdle st (es ++ e ∷ [])) (sym running) tt;
        runs = subst (λ (c : Config). GoesThrough (machine_start c m.files) (es ++ e ∷ []) m) (sym kept.config)
            (subst (λ (fs : List (List ℕ × List ℕ)). GoesThrough (machine_start s.machine.config fs) (es ++ e ∷ []) m) (sym kept.files) (goes-more es (machine_start s.machine.config s.machine.files) s.machine m e k.runs may is));
        written = subst (λ (c : Config). IsWrittenOut c m.files m) (sym kept.config) (subst (λ (fs : List (List ℕ × List ℕ)). IsWrittenOut s.machine.config fs m) (sym kept.files) written_);
        listed = k.listed;
        fits = k.fits;
        checked = subst (λ (c : Config). config_check c ≡ Ok tt) (sym kept.config) k.checked;
        ranges = record {
          files = k.ranges.files;
          config = subst IsConfigInRange (sym kept.config) k.ranges.config;
          taken = subst (Each IsRunFile) (sym kept.files) k.ranges.taken;
          events = Each-append IsScheduled es (e ∷ []) k.ranges.events (given, tt);
          told = k.ranges.told;
          started = subst (λ (fs : List (List ℕ × List ℕ)). MayBeAdded [] (file_sizes fs)) (sym kept.files) k.ranges.started;
          formed = Each-append IsEventFormed es (e ∷ []) k.ranges.formed (formed, tt);
        };
        unseen = subst (λ st. IsUnseen st m) (sym running) tt;
        lines = k.lines;
        read = k.read;
      })

  item-keeps : (words : List (List ℕ)) (x : Item) → SpellsItem words x → MayStand s.reader x → HasRange x → taken_item (followed s x) x ≡ Ok t → Keeps t (es ++ event_listed (Ok x))
  item-keeps words item.Header spelled stands range e = subst (λ (v : Progress). Keeps v (es ++ [])) (ok_is _ t e) (record {
    idle = append-nil es ∙ subst (λ st. IsIdle st es) stands k.idle;
    runs = same_events;
    written = k.written;
    listed = k.listed;
    fits = k.fits;
    checked = k.checked;
    ranges = same_ranges;
    unseen = subst (λ st. IsUnseen st s.machine) stands k.unseen;
    lines = k.lines;
    read = k.read;
  })
  item-keeps words (item.Set key value) spelled stands range e = set-keeps key value (range_check key value) refl e
  item-keeps words (item.File path bytes) spelled stands range e = filed-keeps words path bytes (add_check s.files path (length bytes)) spelled range refl stands e
  item-keeps words item.Go spelled stands range e = begun-keeps (config_check s.config) refl stands e
  item-keeps words (item.Event d) spelled stands range e = moved-keeps d (event_step s.machine d) stands (event-given words d spelled range) (event-formed d range) (may-come d range) refl e

pub passed-keeps : (s t : Progress) (line : List ℕ) (es : List Event) → Keeps s es → line_passed s line ≡ Ok t → Keeps t (es ++ event_listed (judged s.reader line))
passed-keeps s t line es k e =
    let took = passed-took s t line e in
    let fits = took-fits s t line took in
    subst (λ j. Keeps t (es ++ event_listed j)) (sym (took-judged s t line took))
    (item-keeps (line_counted s line) t es (counted-keeps s line es took.within k) fits.0.0 took.item fits.0.2 fits.1 fits.2 took.is)

-- ---- where the run ended

-- what holds of a state to which a replay comes in the end
pub record Comes (s : Progress) (es : List Event) : Type 0 where
  pub runs : LeadsTo (machine_start s.machine.config s.machine.files) es s.machine
  pub written : IsWrittenOut s.machine.config s.machine.files s.machine
  pub checked : config_check s.machine.config ≡ Ok tt
  pub ranges : HasRanges s.files s.machine es
  pub unseen : IsUnseen s.reader.stage s.machine

keeps-comes : (s : Progress) (es : List Event) → Keeps s es → Comes s es
keeps-comes s es k = record { runs = inl k.runs; written = k.written; checked = k.checked; ranges = k.ranges; unseen = k.unseen }

begun-comes : (s : Progress) (es : List Event) (line : List ℕ) → Keeps s es → HadBegun s line → Comes (halted s line) (es ++ begun_by s line)
begun-comes s es line k b =
    let e : Event = event.Settle b.rounds in
    let n : Machine = b.stop.0 in
    let kept : GoesOn s.machine n = event-left s.machine e b.stop b.stops in
    let fits = line_spelled s.reader line (item.Event e) b.stands in
    let given : IsScheduled e = event-given fits.0.0 e fits.0.2 fits.2 in
    subst (λ (ds : List Event). Comes (halted s line) (es ++ ds)) (sym b.last) (subst (λ (t : Progress). Comes t (es ++ e ∷ [])) (sym b.left) (record {
      runs = subst (λ (c : Config). LeadsTo (machine_start c n.files) (es ++ e ∷ []) n) (sym kept.config)
          (subst (λ (fs : List (List ℕ × List ℕ)). LeadsTo (machine_start s.machine.config fs) (es ++ e ∷ []) n) (sym kept.files)
          (inr (record { before = es; rounds = b.rounds; are = refl; behind = s.machine; goes = k.runs; fault = b.stop.1; stops = b.stops; begun = b.longer })));
      written = subst (λ (c : Config). IsWrittenOut c n.files n) (sym kept.config) (subst (λ (fs : List (List ℕ × List ℕ)). IsWrittenOut s.machine.config fs n) (sym kept.files)
          (subst (λ (x : Result Machine Stop). IsWrittenOut s.machine.config s.machine.files (came_to x)) b.stops (event-written s.machine.config s.machine.files s.machine e k.written tt)));
      checked = subst (λ (c : Config). config_check c ≡ Ok tt) (sym kept.config) k.checked;
      ranges = record {
        files = k.ranges.files;
        config = subst IsConfigInRange (sym kept.config) k.ranges.config;
        taken = subst (Each IsRunFile) (sym kept.files) k.ranges.taken;
        events = Each-append IsScheduled es (e ∷ []) k.ranges.events (given, tt);
        told = k.ranges.told;
        started = subst (λ (fs : List (List ℕ × List ℕ)). MayBeAdded [] (file_sizes fs)) (sym kept.files) k.ranges.started;
        formed = Each-append IsEventFormed es (e ∷ []) k.ranges.formed (event-formed e fits.2, tt);
      };
      unseen = subst (λ st. IsUnseen st n) (sym fits.1) tt;
    }))

halted-comes : (s : Progress) (es : List Event) (line : List ℕ) (status : Status) → Keeps s es → line_passed s line ≡ Err status → Comes (halted s line) (es ++ begun_by s line)
halted-comes s es line status k is = go (line-leaves s line status is) where
  go : Leaves s line → Comes (halted s line) (es ++ begun_by s line)
  go (inl h) = subst (λ (ds : List Event). Comes (halted s line) (es ++ ds)) (sym h.1) (subst (λ (t : Progress). Comes t (es ++ [])) (sym h.0) (subst (Comes s) (sym (append-nil es)) (keeps-comes s es k)))
  go (inr b) = begun-comes s es line k b

replayed-comes : (s : Progress) (lines : List (List ℕ)) (es : List Event) → Keeps s es → Comes (replayed s lines).0 (es ++ events_from s lines)
replayed-comes s [] es k = subst (Comes s) (sym (append-nil es)) (keeps-comes s es k)
replayed-comes s (last ∷ []) es k = subst (Comes s) (sym (append-nil es)) (keeps-comes s es k)
replayed-comes s (line ∷ next ∷ more) es k = go (line_passed s line) refl (λ t ds j. replayed-comes t (next ∷ more) ds j) where
  go : (r : Result Progress Status) → line_passed s line ≡ r → ((t : Progress) (ds : List Event) → Keeps t ds → Comes (replayed t (next ∷ more)).0 (ds ++ events_from t (next ∷ more)))
      → Comes (replayed s (line ∷ next ∷ more)).0 (es ++ events_from s (line ∷ next ∷ more))
  go (Err status) e later = rw (e, replayed, events_from) (halted-comes s es line status k e)
  go (Ok t) e later = rw (e, replayed, events_from)
      (subst (Comes (replayed t (next ∷ more)).0) (append_assoc es (event_listed (judged s.reader line)) (events_from t (next ∷ more)))
      (later t (es ++ event_listed (judged s.reader line)) (passed-keeps s t line es k e)))

-- the machine of a text is that of the events that happened
pub whole-comes : (text : List ℕ) → Comes (whole text).0 (events_of text)
unfolding whole events_of
whole-comes text = replayed-comes begin (lines_of text) [] begin-keeps
