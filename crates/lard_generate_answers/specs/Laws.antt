-- A generated schedule that is done counts all answers.
use Rattle.std.specs.Prelude.{◌≡◌, ℕ, ◌≤◌, ◌<◌, ◌^◌, List, [], ◌∷◌, ◌++◌, Ok}
use Rattle.lard_law_view.specs.Prelude.{Config, Machine, Rec, config_check, file_at, machine_start, room_of}
use Rattle.lard_generate.specs.Generated.{generated}
use Rattle.lard_journal.specs.declared.rec.Rec.TheVariants as rec
use Rattle.lard_settling.specs.Events.{GoesThrough}
use Rattle.lard_generate_answers.specs.Counted.{CountsAllAnswers}

-- Where all events of a generated schedule were done and its settle left nothing, in a cluster with room for more than its clients and a
-- stream limit of 2^28 bytes or more.
abbrev pub GeneratedRunsAnswerAll : Type 0
GeneratedRunsAnswerAll =
    (seed clients : ℕ) (config : Config) (m : Machine) (before : List Rec) (done : ℕ)
    → clients ≤ 2000 → config_check config ≡ Ok tt → clients < room_of config → 2 ^ 28 ≤ config.stream
    → GoesThrough (machine_start config (generated seed clients).files) (generated seed clients).events m → m.journal ≡ before ++ rec.Settled done ∷ []
    → CountsAllAnswers (file_at (generated seed clients).files) (generated seed clients).events clients m.journal
