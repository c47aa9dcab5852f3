-- What clients do in every run of the cluster's machine.
use Rattle.std.specs.Prelude.{◌≡◌, ℕ, List, Ok}
use Rattle.lard_law_view.specs.Prelude.{Config, IsReached, KeepsTables, Machine, TakesInOrder, WritesWhileOpen, config_check}

-- A client's state is a fold over its own events and the packets that it got, and behind each of these stand exactly the records
-- that its table gives from that state.
abbrev pub ClientsKeepTheirTables : Type 0
ClientsKeepTheirTables = (config : Config) (files : List (List ℕ × List ℕ)) (m : Machine) → IsReached config files m → KeepsTables m.journal

-- A client writes nothing once it was shut or aborted, or took the end of its stream.
abbrev pub WritersAreLawful : Type 0
WritersAreLawful = (config : Config) (files : List (List ℕ × List ℕ)) (m : Machine) → IsReached config files m → WritesWhileOpen m.journal

-- A client accepts what follows directly behind all that it accepted before, of the segment that it got.
abbrev pub ClientsTakeInOrder : Type 0
ClientsTakeInOrder = (config : Config) (files : List (List ℕ × List ℕ)) (m : Machine) → config_check config ≡ Ok tt → IsReached config files m → TakesInOrder m.journal
