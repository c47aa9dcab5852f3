-- What the reader finds in the parts of a schedule, and that it finds these parts alone.
use Rattle.std.proofs.Common.{◌≡◌, ◌≢◌, ℕ, List, [], ◌∷◌, ◌++◌, true, false, Option, Some, None, refl, sym, ap, ◌∙◌, subst, append_assoc, append-nil}
use Rattle.lard_base.specs.declared.config.Key.{Key}
use Rattle.lard_base.specs.declared.config.Key.TheVariants as key
use Rattle.lard_base.specs.declared.event.Event.{Event}
use Rattle.lard_schedule.proofs.KeysSet.{has_other, has_set}
use Rattle.lard_schedule.proofs.Lines.{line_read, line_spelled}
use Rattle.lard_schedule.specs.declared.item.Item.{Item}
use Rattle.lard_schedule.specs.declared.item.Item.TheVariants as item
use Rattle.lard_schedule.specs.declared.keys.Keys.{Keys}
use Rattle.lard_schedule.specs.declared.reader.Reader.{Reader}
use Rattle.lard_schedule.specs.declared.reader.Stage.{Stage}
use Rattle.lard_schedule.specs.declared.reader.Stage.TheVariants.{Start, Settings, Files, Running}
use Rattle.lard_schedule.specs.Laws.{IsBefore, IsLineOf, MayStand}
use Rattle.lard_schedule.specs.Reader.{HasRange, reader_after, has_key, item_of, no_keys, with_key}
use Rattle.lard_grammar.specs.Schedule.{AreEvents, AreFiles, AreSettings, Found, IsNew, at_end, configured, read_from, with_item}

-- ---- a line that is read

-- what a line and those behind it give
abbrev pub go_on : Reader → Found → List (List ℕ) → Option Item → Option Found
go_on r f tail None = None
go_on r f tail (Some x) = read_from (reader_after r x) (with_item f x) tail

pub line_on : (r : Reader) (f : Found) (line next : List ℕ) (more : List (List ℕ)) (o : Option Item) → item_of r line ≡ o → read_from r f (line ∷ next ∷ more) ≡ go_on r f (next ∷ more) o
line_on r f line next more None e = rw (e, read_from) refl
line_on r f line next more (Some x) e = rw (e, read_from) refl

pub reads_on : (r : Reader) (f : Found) (line : List ℕ) (tail : List (List ℕ)) (x : Item) → item_of r line ≡ Some x → tail ≢ [] → read_from r f (line ∷ tail) ≡ read_from (reader_after r x) (with_item f x) tail
reads_on r f line [] x e some = absurd (some refl)
reads_on r f line (next ∷ more) x e some = line_on r f line next more (Some x) e

pub behind_some : (lines tail : List (List ℕ)) (line : List ℕ) → lines ++ line ∷ tail ≢ []
behind_some [] tail line e = cc
behind_some (first ∷ lines) tail line e = cc

-- stages
not_running : (s : Stage) → s ≡ Running → ¬ (IsBefore s)
not_running s e b = subst IsBefore e b

-- ---- events

pub record EventsIn (f g : Found) (lines : List (List ℕ)) : Type 0 where
  pub steps : List (List ℕ)
  pub events : List Event
  pub are : lines ≡ steps ++ [] ∷ []
  pub events_are : AreEvents steps events
  pub is : g ≡ record f { events = f.events ++ events }

ended_found : (s : Stage) (last : List ℕ) (f g : Found) → s ≡ Running → at_end s last f ≡ Some g → EventsIn f g (last ∷ [])
ended_found Running [] f g e h = record { steps = []; events = []; are = refl; events_are = tt; is = let same : f ≡ g = cc in sym same ∙ ap (λ es. record f { events = es }) (sym (append-nil f.events)) }
ended_found Running (b ∷ bs) f g e h = cc
ended_found Start last f g e h = cc
ended_found Settings last f g e h = cc
ended_found Files last f g e h = cc

pub events_found : (r : Reader) (f g : Found) (lines : List (List ℕ)) → r.stage ≡ Running → read_from r f lines ≡ Some g → EventsIn f g lines
events_found r f g [] at h = cc
events_found r f g (last ∷ []) at h = ended_found r.stage last f g at h
events_found r f g (line ∷ next ∷ more) at h = go (item_of r line) refl (sym (line_on r f line next more (item_of r line) refl) ∙ h) (λ q d a k. events_found q d g (next ∷ more) a k) where
  one : (x : Item) → IsLineOf line x → MayStand r x → HasRange x → read_from (reader_after r x) (with_item f x) (next ∷ more) ≡ Some g
      → ((q : Reader) (d : Found) → q.stage ≡ Running → read_from q d (next ∷ more) ≡ Some g → EventsIn d g (next ∷ more)) → EventsIn f g (line ∷ next ∷ more)
  one item.Header is may range k later = let both : Start ≡ Running = sym may ∙ at in cc
  one (item.Set key value) is may range k later = let both : Settings ≡ Running = sym may.0 ∙ at in cc
  one (item.File path bytes) is may range k later = absurd (not_running r.stage at may)
  one item.Go is may range k later = absurd (not_running r.stage at may)
  one (item.Event e) is may range k later =
      let rest = later r (with_item f (item.Event e)) at k in
      record {
        steps = line ∷ rest.steps;
        events = e ∷ rest.events;
        are = ap (λ ls. line ∷ ls) rest.are;
        events_are = (is, range, rest.events_are);
        is = rest.is ∙ ap (λ es. record f { events = es }) (append_assoc f.events (e ∷ []) rest.events);
      }

  go : (o : Option Item) → item_of r line ≡ o → go_on r f (next ∷ more) o ≡ Some g
      → ((q : Reader) (d : Found) → q.stage ≡ Running → read_from q d (next ∷ more) ≡ Some g → EventsIn d g (next ∷ more)) → EventsIn f g (line ∷ next ∷ more)
  go None e k later = cc
  go (Some x) e k later = let s = line_spelled r line x e in one x s.0 s.1 s.2 k later

pub events_read : (r : Reader) (f : Found) (steps : List (List ℕ)) (events : List Event) → r.stage ≡ Running → AreEvents steps events → read_from r f (steps ++ [] ∷ []) ≡ Some (record f { events = f.events ++ events })
events_read r f [] [] at are = ap (λ s. at_end s [] f) at ∙ ap (λ es. Some (record f { events = es })) (sym (append-nil f.events))
events_read r f [] (e ∷ events) at are = absurd are
events_read r f (line ∷ steps) [] at are = absurd are
events_read r f (line ∷ steps) (e ∷ events) at are =
    reads_on r f line (steps ++ [] ∷ []) (item.Event e) (line_read r line (item.Event e) are.0 at are.1) (behind_some steps [] [])
    ∙ events_read r (with_item f (item.Event e)) steps events at are.2 ∙ ap (λ es. Some (record f { events = es })) (append_assoc f.events (e ∷ []) events)

-- ---- files

pub record FilesIn (f g : Found) (lines : List (List ℕ)) : Type 0 where
  pub named : List (List ℕ)
  pub go : List ℕ
  pub steps : List (List ℕ)
  pub files : List (List ℕ × List ℕ)
  pub events : List Event
  pub are : lines ≡ named ++ go ∷ (steps ++ [] ∷ [])
  pub files_are : AreFiles named files
  pub goes : IsLineOf go item.Go
  pub events_are : AreEvents steps events
  pub is : g ≡ record { config = f.config; files = f.files ++ files; events = f.events ++ events }

-- behind `go`
gone : (r : Reader) (f g : Found) (line next : List ℕ) (more : List (List ℕ)) → IsLineOf line item.Go → read_from (reader_after r item.Go) f (next ∷ more) ≡ Some g → FilesIn f g (line ∷ next ∷ more)
gone r f g line next more is k =
    let rest = events_found (reader_after r item.Go) f g (next ∷ more) refl k in
    record {
      named = [];
      go = line;
      steps = rest.steps;
      files = [];
      events = rest.events;
      are = ap (λ ls. line ∷ ls) rest.are;
      files_are = tt;
      goes = is;
      events_are = rest.events_are;
      is = rest.is ∙ ap (λ fs. record { config = f.config; files = fs; events = f.events ++ rest.events }) (sym (append-nil f.files));
    }

-- a file, and what is behind it
filed : (f g : Found) (line : List ℕ) (tail : List (List ℕ)) (path bytes : List ℕ) → IsLineOf line (item.File path bytes) → HasRange (item.File path bytes) → FilesIn (with_item f (item.File path bytes)) g tail → FilesIn f g (line ∷ tail)
filed f g line tail path bytes is range rest = record {
  named = line ∷ rest.named;
  go = rest.go;
  steps = rest.steps;
  files = (path, bytes) ∷ rest.files;
  events = rest.events;
  are = ap (λ ls. line ∷ ls) rest.are;
  files_are = (is, range, rest.files_are);
  goes = rest.goes;
  events_are = rest.events_are;
  is = rest.is ∙ ap (λ fs. record { config = f.config; files = fs; events = f.events ++ rest.events }) (append_assoc f.files ((path, bytes) ∷ []) rest.files);
}

-- nothing ends before `go`
not_ended : (s : Stage) (last : List ℕ) (f g : Found) → s ≢ Running → ¬ (at_end s last f ≡ Some g)
not_ended Running last f g ne h = ne refl
not_ended Start last f g ne h = cc
not_ended Settings last f g ne h = cc
not_ended Files last f g ne h = cc

pub files_found : (r : Reader) (f g : Found) (lines : List (List ℕ)) → r.stage ≡ Files → read_from r f lines ≡ Some g → FilesIn f g lines
files_found r f g [] at h = cc
files_found r f g (last ∷ []) at h = absurd (not_ended r.stage last f g (λ e. let both : Files ≡ Running = sym at ∙ e in cc) h)
files_found r f g (line ∷ next ∷ more) at h = go (item_of r line) refl (sym (line_on r f line next more (item_of r line) refl) ∙ h) (λ q d a k. files_found q d g (next ∷ more) a k) where
  one : (x : Item) → IsLineOf line x → MayStand r x → HasRange x → read_from (reader_after r x) (with_item f x) (next ∷ more) ≡ Some g
      → ((q : Reader) (d : Found) → q.stage ≡ Files → read_from q d (next ∷ more) ≡ Some g → FilesIn d g (next ∷ more)) → FilesIn f g (line ∷ next ∷ more)
  one item.Header is may range k later = let both : Start ≡ Files = sym may ∙ at in cc
  one (item.Set key value) is may range k later = let both : Settings ≡ Files = sym may.0 ∙ at in cc
  one (item.File path bytes) is may range k later = filed f g line (next ∷ more) path bytes is range (later (reader_after r (item.File path bytes)) (with_item f (item.File path bytes)) refl k)
  one item.Go is may range k later = gone r f g line next more is k
  one (item.Event e) is may range k later = let both : Files ≡ Running = sym at ∙ may in cc

  go : (o : Option Item) → item_of r line ≡ o → go_on r f (next ∷ more) o ≡ Some g
      → ((q : Reader) (d : Found) → q.stage ≡ Files → read_from q d (next ∷ more) ≡ Some g → FilesIn d g (next ∷ more)) → FilesIn f g (line ∷ next ∷ more)
  go None e k later = cc
  go (Some x) e k later = let s = line_spelled r line x e in one x s.0 s.1 s.2 k later

pub files_read : (r : Reader) (f : Found) (named : List (List ℕ)) (go : List ℕ) (steps : List (List ℕ)) (files : List (List ℕ × List ℕ)) (events : List Event)
    → IsBefore r.stage → AreFiles named files → IsLineOf go item.Go → AreEvents steps events
    → read_from r f (named ++ go ∷ (steps ++ [] ∷ [])) ≡ Some (record { config = f.config; files = f.files ++ files; events = f.events ++ events })
files_read r f [] go steps [] events before are goes events_are =
    reads_on r f go (steps ++ [] ∷ []) item.Go (line_read r go item.Go goes before tt) (behind_some steps [] [])
    ∙ events_read (reader_after r item.Go) f steps events refl events_are ∙ ap (λ fs. Some (record { config = f.config; files = fs; events = f.events ++ events })) (sym (append-nil f.files))
files_read r f [] go steps (file ∷ files) events before are goes events_are = absurd are
files_read r f (line ∷ named) go steps [] events before are goes events_are = absurd are
files_read r f (line ∷ named) go steps (file ∷ files) events before are goes events_are =
    reads_on r f line (named ++ go ∷ (steps ++ [] ∷ [])) (item.File file.0 file.1) (line_read r line (item.File file.0 file.1) are.0 before are.1) (behind_some named (steps ++ [] ∷ []) go)
    ∙ files_read (reader_after r (item.File file.0 file.1)) (with_item f (item.File file.0 file.1)) named go steps files events tt are.2 goes events_are
    ∙ ap (λ fs. Some (record { config = f.config; files = fs; events = f.events ++ events })) (append_assoc f.files (file ∷ []) files)

-- ---- settings

-- the keys that were set are those of a list
abbrev pub AreSet : Keys → List Key → Type 0
AreSet set keys = (key : Key) → (has_key set key ≡ false → IsNew key keys) × (IsNew key keys → has_key set key ≡ false)

all_unset : (key : Key) → has_key no_keys key ≡ false
all_unset key.Nodes = refl
all_unset key.Low = refl
all_unset key.High = refl
all_unset key.Age = refl
all_unset key.Idle = refl
all_unset key.Over = refl
all_unset key.Miss = refl
all_unset key.Cache = refl
all_unset key.Stream = refl

pub none_set : AreSet no_keys []
none_set k = (λ e. tt, λ n. all_unset k)

one_more : (set : Keys) (keys : List Key) (key : Key) → AreSet set keys → AreSet (with_key set key) (key ∷ keys)
one_more set keys key h other = (new, unset) where
  differs : has_key (with_key set key) other ≡ false → other ≢ key
  differs e same = let there : has_key (with_key set key) other ≡ true = ap (has_key (with_key set key)) same ∙ has_set set key in let both : false ≡ true = sym e ∙ there in cc

  new : has_key (with_key set key) other ≡ false → IsNew other (key ∷ keys)
  new e = (differs e, (h other).0 (sym (has_other set key other (differs e)) ∙ e))

  unset : IsNew other (key ∷ keys) → has_key (with_key set key) other ≡ false
  unset n = has_other set key other n.0 ∙ (h other).1 n.1

pub record SettingsIn (keys : List Key) (f g : Found) (lines : List (List ℕ)) : Type 0 where
  pub settings : List (List ℕ)
  pub tail : List (List ℕ)
  pub sets : List (Key × ℕ)
  pub are : lines ≡ settings ++ tail
  pub sets_are : AreSettings keys settings sets
  pub rest : FilesIn (record f { config = configured f.config sets }) g tail

unset : (keys : List Key) (f g : Found) (lines : List (List ℕ)) → FilesIn f g lines → SettingsIn keys f g lines
unset keys f g lines rest = record { settings = []; tail = lines; sets = []; are = refl; sets_are = tt; rest = rest }

pub settings_found : (r : Reader) (keys : List Key) (f g : Found) (lines : List (List ℕ)) → r.stage ≡ Settings → AreSet r.keys keys → read_from r f lines ≡ Some g → SettingsIn keys f g lines
settings_found r keys f g [] at set h = cc
settings_found r keys f g (last ∷ []) at set h = absurd (not_ended r.stage last f g (λ e. let both : Settings ≡ Running = sym at ∙ e in cc) h)
settings_found r keys f g (line ∷ next ∷ more) at set h = go (item_of r line) refl (sym (line_on r f line next more (item_of r line) refl) ∙ h) (λ q ks d a s k. settings_found q ks d g (next ∷ more) a s k) where
  one : (x : Item) → IsLineOf line x → MayStand r x → HasRange x → read_from (reader_after r x) (with_item f x) (next ∷ more) ≡ Some g
      → ((q : Reader) (ks : List Key) (d : Found) → q.stage ≡ Settings → AreSet q.keys ks → read_from q d (next ∷ more) ≡ Some g → SettingsIn ks d g (next ∷ more)) → SettingsIn keys f g (line ∷ next ∷ more)
  one item.Header is may range k later = let both : Start ≡ Settings = sym may ∙ at in cc
  one (item.Set key value) is may range k later =
      let found = later (reader_after r (item.Set key value)) (key ∷ keys) (with_item f (item.Set key value)) at (one_more r.keys keys key set) k in
      record {
        settings = line ∷ found.settings;
        tail = found.tail;
        sets = (key, value) ∷ found.sets;
        are = ap (λ ls. line ∷ ls) found.are;
        sets_are = (is, range, (set key).0 may.1, found.sets_are);
        rest = found.rest;
      }
  one (item.File path bytes) is may range k later =
      unset keys f g (line ∷ next ∷ more) (filed f g line (next ∷ more) path bytes is range (files_found (reader_after r (item.File path bytes)) (with_item f (item.File path bytes)) g (next ∷ more) refl k))
  one item.Go is may range k later = unset keys f g (line ∷ next ∷ more) (gone r f g line next more is k)
  one (item.Event e) is may range k later = let both : Settings ≡ Running = sym at ∙ may in cc

  go : (o : Option Item) → item_of r line ≡ o → go_on r f (next ∷ more) o ≡ Some g
      → ((q : Reader) (ks : List Key) (d : Found) → q.stage ≡ Settings → AreSet q.keys ks → read_from q d (next ∷ more) ≡ Some g → SettingsIn ks d g (next ∷ more)) → SettingsIn keys f g (line ∷ next ∷ more)
  go None e k later = cc
  go (Some x) e k later = let s = line_spelled r line x e in one x s.0 s.1 s.2 k later

pub settings_read : (r : Reader) (keys : List Key) (f : Found) (settings : List (List ℕ)) (named : List (List ℕ)) (go : List ℕ) (steps : List (List ℕ)) (sets : List (Key × ℕ)) (files : List (List ℕ × List ℕ)) (events : List Event)
    → r.stage ≡ Settings → AreSet r.keys keys → AreSettings keys settings sets → AreFiles named files → IsLineOf go item.Go → AreEvents steps events
    → read_from r f (settings ++ named ++ go ∷ (steps ++ [] ∷ [])) ≡ Some (record { config = configured f.config sets; files = f.files ++ files; events = f.events ++ events })
settings_read r keys f [] named go steps [] files events at set are files_are goes events_are = files_read r f named go steps files events (subst IsBefore (sym at) tt) files_are goes events_are
settings_read r keys f [] named go steps (s ∷ sets) files events at set are files_are goes events_are = absurd are
settings_read r keys f (line ∷ settings) named go steps [] files events at set are files_are goes events_are = absurd are
settings_read r keys f (line ∷ settings) named go steps (s ∷ sets) files events at set are files_are goes events_are =
    reads_on r f line (settings ++ named ++ go ∷ (steps ++ [] ∷ [])) (item.Set s.0 s.1) (line_read r line (item.Set s.0 s.1) are.0 (at, (set s.0).1 are.2) are.1) (some_left settings)
    ∙ settings_read (reader_after r (item.Set s.0 s.1)) (s.0 ∷ keys) (with_item f (item.Set s.0 s.1)) settings named go steps sets files events at (one_more r.keys keys s.0 set) are.3 files_are goes events_are where
      some_left : (lines : List (List ℕ)) → lines ++ named ++ go ∷ (steps ++ [] ∷ []) ≢ []
      some_left [] e = behind_some named (steps ++ [] ∷ []) go e
      some_left (first ∷ lines) e = cc
