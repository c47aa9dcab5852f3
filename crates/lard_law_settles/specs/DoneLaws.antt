-- Runs with settles: each one that leaves nothing leaves each connection complete or in the line, and all folds say the same of a journal
-- and of it with its settles written out.
use Rattle.std.specs.Prelude.{◌≡◌, ℕ, List, [], Ok}
use Rattle.lard_law_view.specs.Prelude.{Config, EachMay, Event, FilesAt, Machine, Rec, config_check, file_at, machine_start}
use Rattle.lard_law_settles.specs.Done.{MaySettle}
use Rattle.lard_law_settles.specs.DoneSame.{TellsTheSame}
use Rattle.lard_settling.specs.Events.{LeadsTo}
use Rattle.lard_settling.specs.Written.{written_out}

abbrev pub WrittenOutTellsTheSame : Type 0
WrittenOutTellsTheSame = (config : Config) (files : FilesAt) (J : List Rec) → TellsTheSame config files J (written_out J)

abbrev pub SettledRunsAreDone : Type 0
SettledRunsAreDone = (config : Config) (files : List (List ℕ × List ℕ)) (es : List Event) (m : Machine) → config_check config ≡ Ok tt → LeadsTo (machine_start config files) es m
    → EachMay (MaySettle config (file_at files)) [] m.journal
