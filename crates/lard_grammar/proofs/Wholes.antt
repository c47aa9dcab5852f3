-- A whole text: what the reader finds in it, and that it is a schedule.
use Rattle.std.proofs.Common.{◌≡◌, ◌≢◌, ℕ, List, [], ◌∷◌, ◌++◌, Option, Some, None, refl, sym, ap, ◌∙◌, subst, append_assoc}
use Rattle.lard_base.specs.declared.config.Config.{Config}
use Rattle.lard_base.specs.declared.event.Event.{Event}
use Rattle.lard_lines.specs.Lines.{lines_of}
use Rattle.lard_schedule.proofs.Lines.{line_read, line_spelled}
use Rattle.lard_schedule.specs.declared.item.Item.{Item}
use Rattle.lard_schedule.specs.declared.item.Item.TheVariants as item
use Rattle.lard_schedule.specs.declared.reader.Stage.TheVariants.{Start, Settings, Running}
use Rattle.lard_schedule.specs.Laws.{IsLineOf, MayStand}
use Rattle.lard_schedule.specs.Reader.{reader_after, item_of, reader_start}
use Rattle.lard_grammar.specs.Schedule.{AreEvents, AreFiles, Found, IsSchedule, nothing_found, read_from, schedule_of, with_item}
use Rattle.lard_grammar.proofs.Parts.{behind_some, go_on, line_on, none_set, reads_on, settings_found, settings_read, SettingsIn}
use Rattle.lard_grammar.proofs.Texts.{cut_again, joined}

-- the lines of a schedule, and what comes after the last line feed
last_apart : (settings named steps : List (List ℕ)) (go : List ℕ) → (settings ++ named ++ go ∷ steps) ++ [] ∷ [] ≡ settings ++ named ++ go ∷ (steps ++ [] ∷ [])
last_apart settings named steps go = append_assoc (settings ++ named) (go ∷ steps) ([] ∷ [])

-- ---- what a schedule stands for is found

module _ (text : List ℕ) (config : Config) (files : List (List ℕ × List ℕ)) (events : List Event) (s : IsSchedule text config files events) where
  behind_first : s.settings ++ s.named ++ s.go ∷ (s.steps ++ [] ∷ []) ≢ []
  behind_first = go s.settings where
    go : (lines : List (List ℕ)) → lines ++ s.named ++ s.go ∷ (s.steps ++ [] ∷ []) ≢ []
    go [] e = behind_some s.named (s.steps ++ [] ∷ []) s.go e
    go (line ∷ lines) e = cc

  cut_lines : lines_of text ≡ s.first ∷ (s.settings ++ s.named ++ s.go ∷ (s.steps ++ [] ∷ []))
  cut_lines = ap lines_of s.is ∙ cut_again (s.first ∷ s.settings ++ s.named ++ s.go ∷ s.steps) s.lines ∙ ap (λ ls. s.first ∷ ls) (last_apart s.settings s.named s.steps s.go)

  pub is_found : schedule_of text ≡ Some (record { config = config; files = files; events = events })
  unfolding schedule_of
  is_found =
      ap (read_from reader_start nothing_found) cut_lines
      ∙ reads_on reader_start nothing_found s.first (s.settings ++ s.named ++ s.go ∷ (s.steps ++ [] ∷ [])) item.Header (line_read reader_start s.first item.Header s.heads refl tt) behind_first
      ∙ settings_read (reader_after reader_start item.Header) [] nothing_found s.settings s.named s.go s.steps s.sets files events refl none_set s.sets_are s.files_are s.goes s.events_are
      ∙ ap (λ c. Some (record { config = c; files = files; events = events })) (sym s.config_is)

-- ---- what is found is what a schedule stands for

found_first : (text : List ℕ) (f : Found) (line : List ℕ) (tail : List (List ℕ)) → lines_of text ≡ line ∷ tail → IsLineOf line item.Header → SettingsIn [] nothing_found f tail → IsSchedule text f.config f.files f.events
found_first text f line tail cut is set =
    let r = set.rest in
    let apart : lines_of text ≡ (line ∷ set.settings ++ r.named ++ r.go ∷ r.steps) ++ [] ∷ [] =
    cut ∙ ap (λ ls. line ∷ ls) (set.are ∙ ap (λ ls. set.settings ++ ls) r.are ∙ sym (append_assoc set.settings r.named (r.go ∷ (r.steps ++ [] ∷ []))) ∙ sym (last_apart set.settings r.named r.steps r.go)) in
    let made = joined (line ∷ set.settings ++ r.named ++ r.go ∷ r.steps) text apart in
    record {
      first = line;
      settings = set.settings;
      named = r.named;
      go = r.go;
      steps = r.steps;
      is = made.0;
      lines = made.1;
      heads = is;
      sets = set.sets;
      sets_are = set.sets_are;
      config_is = ap (λ (g : Found). g.config) r.is;
      files_are = subst (λ fs. AreFiles r.named fs) (sym (ap (λ (g : Found). g.files) r.is)) r.files_are;
      goes = r.goes;
      events_are = subst (λ es. AreEvents r.steps es) (sym (ap (λ (g : Found). g.events) r.is)) r.events_are;
    }

pub found_is : (text : List ℕ) (f : Found) → schedule_of text ≡ Some f → IsSchedule text f.config f.files f.events
unfolding schedule_of
found_is text f h = go (lines_of text) refl h where
  one : (x : Item) (line next : List ℕ) (more : List (List ℕ)) → lines_of text ≡ line ∷ next ∷ more → IsLineOf line x → MayStand reader_start x → read_from (reader_after reader_start x) (with_item nothing_found x) (next ∷ more) ≡ Some f → IsSchedule text f.config f.files f.events
  one item.Header line next more cut is may k = found_first text f line (next ∷ more) cut is (settings_found (reader_after reader_start item.Header) [] nothing_found f (next ∷ more) refl none_set k)
  one (item.Set key value) line next more cut is may k = let both : Start ≡ Settings = may.0 in cc
  one (item.File path bytes) line next more cut is may k = absurd may
  one item.Go line next more cut is may k = absurd may
  one (item.Event e) line next more cut is may k = let both : Start ≡ Running = may in cc

  read_first : (line next : List ℕ) (more : List (List ℕ)) → lines_of text ≡ line ∷ next ∷ more → (o : Option Item) → item_of reader_start line ≡ o → go_on reader_start nothing_found (next ∷ more) o ≡ Some f → IsSchedule text f.config f.files f.events
  read_first line next more cut None e k = cc
  read_first line next more cut (Some x) e k = let s = line_spelled reader_start line x e in one x line next more cut s.0 s.1 k

  go : (lines : List (List ℕ)) → lines_of text ≡ lines → read_from reader_start nothing_found lines ≡ Some f → IsSchedule text f.config f.files f.events
  go [] cut k = cc
  go (last ∷ []) cut k = cc
  go (line ∷ next ∷ more) cut k = read_first line next more cut (item_of reader_start line) refl (sym (line_on reader_start nothing_found line next more (item_of reader_start line) refl) ∙ k)

-- ---- a text stands for one thing alone

found_same : (f g : Found) → ◌≡◌ {A = Option Found} (Some f) (Some g) → f ≡ g
found_same f g e = cc

pub stands_for_one : (text : List ℕ) (config also : Config) (files others : List (List ℕ × List ℕ)) (events more : List Event) → IsSchedule text config files events → IsSchedule text also others more
    → (config ≡ also) × (files ≡ others) × (events ≡ more)
stands_for_one text config also files others events more s t =
    let both : ◌≡◌ {A = Option Found} (Some (record { config = config; files = files; events = events })) (Some (record { config = also; files = others; events = more })) = sym (is_found text config files events s) ∙ is_found text also others more t in
    let same = found_same (record { config = config; files = files; events = events }) (record { config = also; files = others; events = more }) both in
    (ap (λ (f : Found). f.config) same, ap (λ (f : Found). f.files) same, ap (λ (f : Found). f.events) same)
