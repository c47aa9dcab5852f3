-- That journals are sound.
use Rattle.std.specs.Prelude.{◌≡◌, ℕ, List, length, map, Ok}
use Rattle.lard_audit.specs.Sound.{IsSound}
use Rattle.lard_law_view.specs.Prelude.{Config, Event, IsReached, Machine, Rec, config_check, file_at, machine_start}
use Rattle.lard_laws.specs.Lawful.{IsLawful}
use Rattle.lard_settling.specs.Events.{LeadsTo}
use Rattle.lard_settling.specs.Order.{SettlesInOrder}
use Rattle.lard_settling.specs.Written.{written_out}

-- how long each file is, which is all that an audit knows of it
abbrev pub file_lengths : List (List ℕ × List ℕ) → List (List ℕ × ℕ)
file_lengths files = map (λ f. (f.0, length f.1)) files

-- A lawful journal keeps the rules of an audit.
abbrev pub LawfulIsSound : Type 0
LawfulIsSound = (config : Config) (files : List (List ℕ × List ℕ)) (J : List Rec) → IsLawful config (file_at files) J → IsSound config (file_lengths files) J

-- So does that of every run of the machine, with a configuration that may be used.
abbrev pub RunsAreSound : Type 0
RunsAreSound = (config : Config) (files : List (List ℕ × List ℕ)) (m : Machine) → config_check config ≡ Ok tt → IsReached config files m → IsSound config (file_lengths files) m.journal

-- And so does a journal whose settles stand in order, where it is lawful with them written out.
abbrev pub SettledIsSound : Type 0
SettledIsSound = (config : Config) (files : List (List ℕ × List ℕ)) (J : List Rec) → SettlesInOrder J → IsLawful config (file_at files) (written_out J) → IsSound config (file_lengths files) J

-- Such a journal is that of every run with settles, wherever it ended, also inside one.
abbrev pub SettledRunsAreSound : Type 0
SettledRunsAreSound =
    (config : Config) (files : List (List ℕ × List ℕ)) (es : List Event) (m : Machine) → config_check config ≡ Ok tt → LeadsTo (machine_start config files) es m → IsSound config (file_lengths files) m.journal
