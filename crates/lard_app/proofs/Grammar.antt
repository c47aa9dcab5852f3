-- The lines that a replay passes are a schedule, which stands for its configuration, its files and its events.
use Rattle.std.proofs.Common.{◌≡◌, ◌≢◌, inl, inr, ℕ, ◌+◌, List, [], ◌∷◌, ◌++◌, length, Bool, true, false, cond, Some, Result, Ok, Err, refl, sym, ap, ◌∙◌, subst, append_assoc, append-nil}
use Rattle.std.specs.Prelude.{nat_lt}
use Rattle.lard_law_view.specs.Prelude.{ConfigFault, Event, FileFault, Key, MAX_INPUT_BYTES, Machine, add_check, config_check, range_check, set_key}
use Rattle.lard_base.specs.declared.event.Event.TheVariants as event
use Rattle.lard_settle.proofs.Runs.{GoesOn}
use Rattle.lard_grammar.proofs.Parts.{reads_on}
use Rattle.lard_grammar.proofs.Texts.{cut_again, front_joined, joined}
use Rattle.lard_grammar.proofs.Wholes.{found_is}
use Rattle.lard_grammar.specs.Schedule.{AreLines, Found, at_end, nothing_found, read_from, schedule_of, text_of, with_item}
use Rattle.lard_lines.specs.Lines.{is_feed, lines_of}
use Rattle.lard_rules.specs.declared.fault.What.TheVariants.{Input}
use Rattle.lard_schedule.proofs.Cuts.{first_part}
use Rattle.lard_schedule.specs.declared.item.Item.{Item}
use Rattle.lard_schedule.specs.declared.item.Item.TheVariants as item
use Rattle.lard_schedule.specs.declared.reader.Stage.{Stage}
use Rattle.lard_schedule.specs.declared.reader.Stage.TheVariants.{Start, Settings, Files, Running}
use Rattle.lard_schedule.specs.Laws.{IsBefore, MayStand}
use Rattle.lard_schedule.specs.Reader.{HasRange, reader_after}
use Rattle.lard_settling.specs.Events.{event_step}
use Rattle.lard_settling.specs.Settling.{Stop}
use Rattle.lard_app.specs.Causes.{Leads}
use Rattle.lard_app.specs.declared.status.Status.{Status}
use Rattle.lard_app.specs.declared.status.Status.TheVariants.{Done, Refused, Limit}
use Rattle.lard_app.specs.declared.status.Why.TheVariants.{Syntax}
use Rattle.lard_app.specs.Replay.{Progress, begin, replay_begun, begun_by, config_of, config_set, line_counted, ending, event_listed, events_from, events_of, filed, files_of, followed, halted, judged, replay_moved, line_passed, replayed, taken_item, whole}
use Rattle.lard_app.specs.Run.{EndsBehind, Passed}
use Rattle.lard_app.proofs.Events.{event-goes, event-left}
use Rattle.lard_app.proofs.Halting.{Leaves, line-leaves}
use Rattle.lard_app.proofs.Causes.{line-ends}
use Rattle.lard_app.proofs.Keeping.{Keeps, begin-keeps, passed-keeps}
use Rattle.lard_app.proofs.Passing.{ok_is, passed-took, took-fits, took-judged}

-- ---- a line that passes

-- what was found agrees with what the replay has
abbrev pub Agrees : Stage → Progress → Found → Type 0
Agrees Start s f = (f.config ≡ s.config) × (f.files ≡ s.files)
Agrees Settings s f = (f.config ≡ s.config) × (f.files ≡ s.files)
Agrees Files s f = (f.config ≡ s.config) × (f.files ≡ s.files)
Agrees Running s f = (f.config ≡ s.machine.config) × (f.files ≡ s.machine.files)

before_agrees : (stage : Stage) (s : Progress) (f : Found) → IsBefore stage → Agrees stage s f → (f.config ≡ s.config) × (f.files ≡ s.files)
before_agrees Start s f b a = absurd b
before_agrees Settings s f b a = a
before_agrees Files s f b a = a
before_agrees Running s f b a = absurd b

-- a line that is counted changes nothing of it
counted_agrees : (stage : Stage) (s : Progress) (f : Found) (line : List ℕ) → Agrees stage s f → Agrees stage (line_counted s line) f
counted_agrees Start s f line a = a
counted_agrees Settings s f line a = a
counted_agrees Files s f line a = a
counted_agrees Running s f line a = a

-- the reader is behind the item, and what was found with it agrees
abbrev Follows : Progress → Item → Found → Progress → Type 0
Follows s x f t = (t.reader ≡ reader_after s.reader x) × Agrees t.reader.stage t (with_item f x)

module _ (s t : Progress) (f : Found) where
  follows_as : (x : Item) (u : Progress) → ◌≡◌ {A = Result Progress Status} (Ok u) (Ok t) → Follows s x f u → Follows s x f t
  follows_as x u e h = subst (Follows s x f) (ok_is u t e) h

  set-follows : (key : Key) (value : ℕ) (r : Result (Unit {0}) ConfigFault) → s.reader.stage ≡ Settings → Agrees s.reader.stage s f → config_set (followed s (item.Set key value)) key value r ≡ Ok t → Follows s (item.Set key value) f t
  set-follows key value (Err fault) at a e = cc
  set-follows key value (Ok u) at a e =
      let here : Agrees Settings s f = subst (λ st. Agrees st s f) at a in
      let next : Agrees Settings (record (followed s (item.Set key value)) { config = set_key s.config key value }) (with_item f (item.Set key value)) = (ap (λ c. set_key c key value) here.0, here.1) in
      follows_as (item.Set key value) _ e (refl, subst (λ st. Agrees st (record (followed s (item.Set key value)) { config = set_key s.config key value }) (with_item f (item.Set key value))) (sym at) next)

  filed-follows : (path bytes : List ℕ) (r : Result (Unit {0}) FileFault) → IsBefore s.reader.stage → Agrees s.reader.stage s f → filed (followed s (item.File path bytes)) path bytes r ≡ Ok t → Follows s (item.File path bytes) f t
  filed-follows path bytes (Err fault) b a e = cc
  filed-follows path bytes (Ok u) b a e =
      let here = before_agrees s.reader.stage s f b a in
      follows_as (item.File path bytes) _ e (refl, (here.0, ap (λ fs. fs ++ (path, bytes) ∷ []) here.1))

  begun-follows : (r : Result (Unit {0}) ConfigFault) → IsBefore s.reader.stage → Agrees s.reader.stage s f → replay_begun (followed s item.Go) r ≡ Ok t → Follows s item.Go f t
  begun-follows (Err fault) b a e = cc
  begun-follows (Ok u) b a e = follows_as item.Go _ e (refl, before_agrees s.reader.stage s f b a)

  moved-follows : (e : Event) (r : Result Machine Stop) → event_step s.machine e ≡ r → s.reader.stage ≡ Running → Agrees s.reader.stage s f → replay_moved (followed s (item.Event e)) r ≡ Ok t → Follows s (item.Event e) f t
  moved-follows e (Err stop) is at a h = cc
  moved-follows e (Ok m) is at a h =
      let here : Agrees Running s f = subst (λ st. Agrees st s f) at a in
      let kept : GoesOn s.machine m = event-goes s.machine m e is in
      let next : Agrees Running (record (followed s (item.Event e)) { machine = m }) (with_item f (item.Event e)) = (here.0 ∙ sym kept.config, here.1 ∙ sym kept.files) in
      follows_as (item.Event e) _ h (refl, subst (λ st. Agrees st (record (followed s (item.Event e)) { machine = m }) (with_item f (item.Event e))) (sym at) next)

  item-follows : (x : Item) → MayStand s.reader x → HasRange x → Agrees s.reader.stage s f → taken_item (followed s x) x ≡ Ok t → Follows s x f t
  item-follows item.Header may range a e = follows_as item.Header _ e (refl, subst (λ st. Agrees st s f) may a)
  item-follows (item.Set key value) may range a e = set-follows key value (range_check key value) may.0 a e
  item-follows (item.File path bytes) may range a e = filed-follows path bytes (add_check s.files path (length bytes)) may a e
  item-follows item.Go may range a e = begun-follows (config_check s.config) may a e
  item-follows (item.Event d) may range a e = moved-follows d (event_step s.machine d) refl may a e

-- the events with those of one more item
events_more : (f : Found) (x : Item) → (with_item f x).events ≡ f.events ++ event_listed (Ok x)
events_more f item.Header = sym (append-nil f.events)
events_more f (item.Set key value) = sym (append-nil f.events)
events_more f (item.File path bytes) = sym (append-nil f.events)
events_more f item.Go = sym (append-nil f.events)
events_more f (item.Event e) = refl

-- ---- lines that pass

-- a line that ends the run changes neither the numbers nor the files
left-same : (s : Progress) (line : List ℕ) → Leaves s line → (s.machine.config ≡ (halted s line).machine.config) × (s.machine.files ≡ (halted s line).machine.files)
left-same s line (inl h) = (ap (λ (t : Progress). t.machine.config) (sym h.0), ap (λ (t : Progress). t.machine.files) (sym h.0))
left-same s line (inr b) =
    let on : GoesOn s.machine b.stop.0 = event-left s.machine (event.Settle b.rounds) b.stop b.stops in
    (sym on.config ∙ ap (λ (t : Progress). t.machine.config) (sym b.left), sym on.files ∙ ap (λ (t : Progress). t.machine.files) (sym b.left))

-- The first of the lines pass, and are read, and something is behind them: nothing but the end, where the replay is done.
record Stood (s : Progress) (f : Found) (lines : List (List ℕ)) : Type 0 where
  before : List (List ℕ)
  rest : List (List ℕ)
  are : lines ≡ before ++ rest
  some : rest ≢ []
  state : Progress
  leads : Leads s before state
  done : List Event
  last : List Event
  events : events_from s lines ≡ done ++ last
  ends : EndsBehind state rest (replayed s lines).0 last
  ended : (replayed s lines).1 ≡ Done → (rest ≡ [] ∷ []) × (last ≡ [])
  found : state.reader.stage ≡ Running
      → read_from s.reader f (before ++ [] ∷ []) ≡ Some (record { config = (replayed s lines).0.machine.config; files = (replayed s lines).0.machine.files; events = f.events ++ done })

-- nothing more is read
read_here : (s : Progress) (f : Found) → Agrees s.reader.stage s f → s.reader.stage ≡ Running → at_end s.reader.stage [] f ≡ Some (record { config = s.machine.config; files = s.machine.files; events = f.events ++ [] })
read_here s f a at =
    let here : Agrees Running s f = subst (λ st. Agrees st s f) at a in
    ap (λ st. at_end st [] f) at ∙ ap (λ c. Some (record f { config = c })) here.0 ∙ ap (λ fs. Some (record { config = s.machine.config; files = fs; events = f.events })) here.1
    ∙ ap (λ es. Some (record { config = s.machine.config; files = s.machine.files; events = es })) (sym (append-nil f.events))

ended_last : (s : Progress) (last : List ℕ) → ending s last ≡ Done → last ≡ []
ended_last s [] e = refl
ended_last s (b ∷ bs) e = go (nat_lt MAX_INPUT_BYTES (s.read + length (b ∷ bs))) e where
  go : (t : Bool) → cond t (Limit (s.lines + 1) Input) (Refused (s.lines + 1) Syntax) ≡ Done → b ∷ bs ≡ []
  go true h = cc
  go false h = cc

not_done : (s : Progress) (line : List ℕ) (status : Status) (es : List Event) → Keeps s es → line_passed s line ≡ Err status → status ≢ Done
not_done s line status es k e done = line-ends s.lines s.read s (record { lines = refl; read = refl; events = es; keeps = k }) line Done (e ∙ ap (λ (t : Status). Err t) done)

-- a line that is behind one is behind the end, too
some_end : (lines : List (List ℕ)) → lines ++ [] ∷ [] ≢ []
some_end [] e = cc
some_end (line ∷ lines) e = cc

stood : (s : Progress) (f : Found) (lines : List (List ℕ)) (es : List Event) → lines ≢ [] → Keeps s es → Agrees s.reader.stage s f → Stood s f lines
stood s f [] es some k a = absurd (some refl)
stood s f (last ∷ []) es some k a = record {
  before = [];
  rest = last ∷ [];
  are = refl;
  some = some;
  state = s;
  leads = refl;
  done = [];
  last = [];
  events = refl;
  ends = inl (refl, refl);
  ended = λ e. (ap (λ (l : List ℕ). l ∷ []) (ended_last s last e), refl);
  found = λ at. read_here s f a at;
}
stood s f (line ∷ next ∷ more) es some k a = go (line_passed s line) refl (λ t d ds j b. stood t d (next ∷ more) ds (λ e. cc) j b) where
  go : (r : Result Progress Status) → line_passed s line ≡ r → ((t : Progress) (d : Found) (ds : List Event) → Keeps t ds → Agrees t.reader.stage t d → Stood t d (next ∷ more)) → Stood s f (line ∷ next ∷ more)
  go (Err status) e later =
      let same = left-same s line (line-leaves s line status e) in
      record {
        before = [];
        rest = line ∷ next ∷ more;
        are = refl;
        some = some;
        state = s;
        leads = refl;
        done = [];
        last = begun_by s line;
        events = rw (e, events_from) refl;
        ends = rw (e, replayed) (inr (line, next ∷ more, status, refl, e, refl, refl));
        ended = rw (e, replayed) (λ done. absurd (not_done s line status es k e done));
        found = rw (e, replayed) (λ at. read_here s f a at ∙ ap (λ c. Some (record { config = c; files = s.machine.files; events = f.events ++ [] })) same.0
            ∙ ap (λ fs. Some (record { config = (halted s line).machine.config; files = fs; events = f.events ++ [] })) same.1);
      }
  go (Ok t) e later =
      let took = passed-took s t line e in
      let fits = took-fits s t line took in
      let step = item-follows (line_counted s line) t f took.item fits.1 fits.2 (counted_agrees s.reader.stage s f line a) took.is in
      let rest = later t (with_item f took.item) (es ++ event_listed (judged s.reader line)) (passed-keeps s t line es k e) step.1 in
      record {
        before = line ∷ rest.before;
        rest = rest.rest;
        are = ap (λ ls. line ∷ ls) rest.are;
        some = rest.some;
        state = rest.state;
        leads = (t, e, rest.leads);
        done = event_listed (judged s.reader line) ++ rest.done;
        last = rest.last;
        events = rw (e, events_from) (ap (λ ds. event_listed (judged s.reader line) ++ ds) rest.events ∙ sym (append_assoc (event_listed (judged s.reader line)) rest.done rest.last));
        ends = rw (e, replayed) rest.ends;
        ended = rw (e, replayed) rest.ended;
        found = rw (e, replayed) (λ at.
            reads_on s.reader f line (rest.before ++ [] ∷ []) took.item took.stands (some_end rest.before)
            ∙ ap (λ r. read_from r (with_item f took.item) (rest.before ++ [] ∷ [])) (sym step.0)
            ∙ rest.found at
            ∙ ap (λ ds. Some (record { config = (replayed t (next ∷ more)).0.machine.config; files = (replayed t (next ∷ more)).0.machine.files; events = ds }))
            (ap (λ ds. ds ++ rest.done) (events_more f took.item ∙ ap (λ j. f.events ++ event_listed j) (sym (took-judged s t line took)))
            ∙ append_assoc f.events (event_listed (judged s.reader line)) rest.done));
      }

-- ---- a text

scheduled : (text : List ℕ) (lines : List (List ℕ)) (f : Found) → lines_of text ≡ lines ++ [] ∷ [] → read_from begin.reader nothing_found (lines ++ [] ∷ []) ≡ Some f → schedule_of text ≡ Some f
unfolding schedule_of
scheduled text lines f cut e = ap (read_from begin.reader nothing_found) cut ∙ e

behind_none : (xs ys : List ℕ) → xs ++ ys ≡ xs → ys ≡ []
behind_none [] ys e = e
behind_none (x ∷ xs) ys e = behind_none xs ys (rest_same e) where
  rest_same : x ∷ (xs ++ ys) ≡ x ∷ xs → xs ++ ys ≡ xs
  rest_same f = cc

-- where one empty line is behind lines, nothing is
none_behind : (lines : List (List ℕ)) (text behind : List ℕ) → lines_of text ≡ lines ++ [] ∷ [] → AreLines lines → text ≡ text_of lines ++ behind → behind ≡ []
none_behind lines text behind cut are e = behind_none (text_of lines) behind (sym e ∙ (joined lines text cut).0)

pub passed-stands : (text : List ℕ) → Passed text (config_of text) (files_of text) (events_of text)
unfolding whole events_of
passed-stands text = go (stood begin nothing_found (lines_of text) [] some begin-keeps (refl, refl)) where
  some : lines_of text ≢ []
  some e = let first = first_part is_feed text in let both : first.0 ∷ first.1 ≡ [] = sym first.2 ∙ e in cc

  go : Stood begin nothing_found (lines_of text) → Passed text (config_of text) (files_of text) (events_of text)
  go st =
      let front = front_joined st.before st.rest text st.are st.some in
      record {
        lines = st.before;
        behind = front.0;
        cut = front.1;
        rest = st.rest;
        parts = st.are;
        state = st.state;
        leads = st.leads;
        done = st.done;
        last = st.last;
        are = st.events;
        ends = st.ends;
        schedule = λ at. found_is (text_of st.before) (record { config = config_of text; files = files_of text; events = st.done })
            (scheduled (text_of st.before) st.before (record { config = config_of text; files = files_of text; events = st.done }) (cut_again st.before front.2) (st.found at));
        all = λ done. (none_behind st.before text front.0 (st.are ∙ ap (λ ls. st.before ++ ls) (st.ended done).0) front.2 front.1, (st.ended done).1);
      }
