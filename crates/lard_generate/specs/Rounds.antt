-- What each action adds to the rounds.
use Rattle.std.specs.Prelude.{ℕ, ◌+◌, ◌*◌, ◌<◌, List}
use Rattle.lard_generate.specs.declared.action.Action.{Action}
use Rattle.lard_generate.specs.declared.action.Action.TheVariants.{Ask, Shut}
use Rattle.lard_generate.specs.Clients.{requests_written, bytes_written, answer_bytes_of}

-- the rounds that an action takes at most
abbrev pub action_cost : List ℕ → Action → ℕ
action_cost sizes action = 64 * requests_written action + 16 * (bytes_written action + answer_bytes_of sizes action)

-- an action asks for one of the files
abbrev pub AsksForFile : Action → Type 0
AsksForFile (Ask c file) = file < 256
AsksForFile (Shut c) = Unit {0}
