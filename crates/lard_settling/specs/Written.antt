-- A journal with its settles written out: as if each of their inner steps had been an event of the schedule.
use Rattle.std.specs.Prelude.{◌≡◌, ℕ, ◌+◌, Bool, true, false, if◌then◌else◌, List, [], ◌∷◌, ◌++◌, Ok}
use Rattle.std.specs.List.{fold}
use Rattle.lard_law_view.specs.Prelude.{Config, Event, HasRule, IsReached, Machine, Rec, machine_start, machine_step}
use Rattle.lard_base.specs.declared.event.Event.TheVariants as event
use Rattle.lard_journal.specs.declared.rec.Rec.TheVariants as rec
use Rattle.lard_settling.specs.Steps.{inner_step, settle_begun, settle_closed}

-- ---- the journal

abbrev pub is_settle : Event → Bool
is_settle (event.Settle rounds) = true
is_settle _ = false

-- What a record stands for behind i steps: one that begins a step is the record of the next event, and what a settle tells of itself
-- is left out.
abbrev pub written_rec : ℕ → Rec → List Rec
written_rec i (rec.Event k e) = if is_settle e then [] else rec.Event (i + 1) e ∷ []
written_rec i (rec.Inner e) = rec.Event (i + 1) e ∷ []
written_rec i (rec.Settled rounds) = []
written_rec i (rec.Unsettled rounds left) = []
written_rec i r = r ∷ []

-- how many steps there are with one record more
abbrev pub steps_with : ℕ → Rec → ℕ
steps_with i (rec.Event k e) = if is_settle e then i else i + 1
steps_with i (rec.Inner e) = i + 1
steps_with i r = i

abbrev pub written_from : ℕ → List Rec → List Rec
written_from i [] = []
written_from i (r ∷ rs) = written_rec i r ++ written_from (steps_with i r) rs

-- a journal with its settles written out
abbrev pub written_out : List Rec → List Rec
written_out J = written_from 0 J

-- how many steps a journal has
abbrev pub steps_in : List Rec → ℕ
steps_in J = fold steps_with 0 J

-- ---- the machine

-- m, but that this is its journal, of so many events
abbrev pub told_as : Machine → List Rec → ℕ → Machine
told_as m J events = record m { journal = J; events = events }

-- A run without settles leads to a machine that differs from this one in nothing but how its journal is told: with its settles
-- written out it is the same.
pub record IsWrittenOut (config : Config) (files : List (List ℕ × List ℕ)) (m : Machine) : Type 0 where
  pub plain : Machine
  pub reached : IsReached config files plain
  pub same : m ≡ told_as plain m.journal m.events
  pub journal : plain.journal ≡ written_out m.journal
  pub events : plain.events ≡ steps_in m.journal

-- Of a run with these numbers and files: it begins so, and goes on so by each step, by each inner one, and by both ends of a settle.
pub record AreWrittenOut (config : Config) (files : List (List ℕ × List ℕ)) : Type 0 where
  pub begins : IsWrittenOut config files (machine_start config files)
  pub steps : (m n : Machine) (e : Event) → IsWrittenOut config files m → HasRule e → machine_step m e ≡ Ok n → IsWrittenOut config files n
  pub inner_steps : (m n : Machine) (e : Event) → IsWrittenOut config files m → HasRule e → inner_step m e ≡ Ok n → IsWrittenOut config files n
  pub settle : (m n : Machine) (rounds : ℕ) → IsWrittenOut config files m → settle_begun m rounds ≡ Ok n → IsWrittenOut config files n
  pub closes : (m : Machine) (rounds left : ℕ) → IsWrittenOut config files m → IsWrittenOut config files (settle_closed m rounds left)

abbrev pub SettlesAreWrittenOut : Type 0
SettlesAreWrittenOut = (config : Config) (files : List (List ℕ × List ℕ)) → AreWrittenOut config files
