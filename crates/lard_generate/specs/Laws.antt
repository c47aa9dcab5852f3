-- What holds of every generated schedule: a schedule's lines can spell it, and its answers have the bytes that are counted.
use Rattle.std.specs.Prelude.{◌≡◌, ℕ, ◌<◌, ◌≤◌, true, false, List, length, All, Some}
use Rattle.hex.specs.Hex.{IsBytes}
use Rattle.lard_base.specs.declared.event.Event.{Event}
use Rattle.lard_files.specs.Files.{file_at}
use Rattle.lard_request.specs.declared.verdict.Code.TheVariants.{Ok}
use Rattle.lard_response.specs.Response.{response}
use Rattle.lard_schedule.specs.Events.{IsInLineRange}
use Rattle.lard_schedule.specs.Files.{is_file_path}
use Rattle.lard_schedule.specs.Laws.{HasBytes}
use Rattle.lard_generate.specs.declared.action.Action.TheVariants.{Ask}
use Rattle.lard_generate.specs.Clients.{answer_bytes_of}
use Rattle.lard_generate.specs.Files.{generated_files, generated_path}
use Rattle.lard_generate.specs.Generated.{generated}

-- a line can have this event
abbrev pub IsSpelled : Event → Type 0
IsSpelled event = IsInLineRange event × HasBytes event

abbrev pub EventsAreSpelled : Type 0
EventsAreSpelled = (seed clients : ℕ) → clients ≤ 2000 → All IsSpelled (generated seed clients).events

-- a line can have this file: the path of a file, and bytes, 1 to 8,192 of them
abbrev pub IsSpelledFile : List ℕ × List ℕ → Type 0
IsSpelledFile (path, bytes) = (is_file_path path ≡ true) × (1 ≤ length bytes) × (length bytes ≤ 8192) × IsBytes bytes

abbrev pub FilesAreSpelled : Type 0
FilesAreSpelled = (seed clients : ℕ) → All IsSpelledFile (generated seed clients).files

-- what is counted for a request is the length of the response that carries the file at its path
abbrev pub AnswersAreCounted : Type 0
AnswersAreCounted =
    (sizes : List ℕ) (c file : ℕ) → file < 256
    → (bytes : List ℕ) × (file_at (generated_files sizes) (generated_path file) ≡ Some bytes) × (answer_bytes_of sizes (Ask c file) ≡ length (response Ok bytes false false))
