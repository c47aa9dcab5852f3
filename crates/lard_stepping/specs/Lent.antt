-- A state of which one client is in hand, for the time of a rule.
use Rattle.std.specs.Prelude.{ℕ}
use Rattle.std.specs.FinMap as table
use Rattle.lard_client.specs.Control.{client_opened}
use Rattle.lard_rules.specs.declared.machine.Machine.{Machine}
use Rattle.lard_rules.specs.declared.places.Station.{Station}

-- the station that stands in for one that is in hand
abbrev pub stand_in : ℕ → Station
stand_in c = record { client = client_opened c 0 1 1; iss = 0 }

-- a client's station is in hand
abbrev pub without_client : Machine → ℕ → Machine
without_client m c = record m { clients = table.insert m.clients c (stand_in c) }
