-- Parts of generated schedules that were worked out apart, by tools/generate-schedule.
use Rattle.std.specs.Prelude.{ℕ, List, [], ◌∷◌}
use Rattle.lard_base.specs.declared.event.Event.{Event}
use Rattle.lard_base.specs.declared.event.Event.TheVariants.{Deliver, Lose, Open, Settle, Shut, Write}
use Rattle.lard_generate.specs.Clients.{request_head}

-- one client that asks for these files
abbrev pub asks_for_files : List ℕ → List Event → List Event
asks_for_files [] events = events
asks_for_files (file ∷ files) events = Write 1 (request_head file) ∷ asks_for_files files events

-- seed 7, one client: it shuts
abbrev pub shutting : List Event
shutting = Open 1 824376515 369952237 65535 1460 ∷ asks_for_files (186 ∷ 187 ∷ 57 ∷ 66 ∷ 180 ∷ 22 ∷ 25 ∷ 199 ∷ 109 ∷ []) (Shut 1 ∷ Settle 824272 ∷ [])

-- seed 2, one client: its SYN comes twice
abbrev pub repeated : List Event
repeated = Open 1 1815363959 1753744652 65535 1460 ∷ asks_for_files (104 ∷ 36 ∷ 186 ∷ []) (Shut 1 ∷ Deliver 1 ∷ Deliver 1 ∷ Settle 234064 ∷ [])

-- seed 5, one client: it leaves its side open, and its SYN is lost
abbrev pub losing : List Event
losing = Open 1 2453088405 3552312602 65535 1460 ∷ asks_for_files (14 ∷ 195 ∷ 87 ∷ 238 ∷ []) (Lose 1 ∷ Settle 471120 ∷ [])
