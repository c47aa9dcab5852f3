-- When timers run in a run of the cluster's machine: as each place keeps them.
use Rattle.std.specs.Prelude.{◌≡◌, ℕ, Bool, false, Option}
use Rattle.lard_law_view.specs.Prelude.{ChangesInSteps, Client, Front, HasTimer, Machine, Node, Part, Place, Station, TimerKind, front_armed, is_running, node_armed, part_of, station_armed}
use Rattle.lard_base.specs.declared.place.TimerKind.TheVariants.{Tcp}
use Rattle.lard_laws.specs.StepsLaws.{Always}

-- a client has one timer, that of its end
abbrev pub client_armed : Option Station → TimerKind → Bool
client_armed station Tcp = station_armed station
client_armed station _ = false

-- the flag of a place's timer of this kind, where this is kept of a connection
abbrev pub armed_at : Place → Part → TimerKind → Bool
armed_at (Client d) p kind = client_armed p.station kind
armed_at Front p kind = front_armed p.front kind
armed_at (Node n) p kind = node_armed (p.nodes n) kind

-- What is told of the timers of connection c is what is kept: at its client, at the front end, and at each node.
abbrev pub RunsAsKept : Machine → ℕ → Type 0
RunsAsKept m c = (place : Place) → HasTimer place c → (kind : TimerKind) → is_running m.journal place c kind ≡ armed_at place (part_of m c) kind

-- so it is in every state that events lead to
abbrev pub TimersRunAsKept : Type 0
TimersRunAsKept = Always (λ m. (c : ℕ) → RunsAsKept m c)

-- A step has of each timer the record of its change and no other, behind all its other records.
abbrev pub TimersChangeInSteps : Type 0
TimersChangeInSteps = Always (λ m. ChangesInSteps m.journal)
