-- The machine of the cluster as one that goes on by rounds (`lard_rounds`), as far as a settle goes.
use Rattle.std.specs.Prelude.{◌≡◌, ℕ, true, List, ◌∷◌, length, filter, Option, Some, None, Ok}
use Rattle.lard_agenda.specs.Agenda.{agenda_of, due}
use Rattle.lard_agenda.specs.Laws.{is_on_way}
use Rattle.lard_base.specs.declared.event.Event.TheVariants as event
use Rattle.lard_law_view.specs.Prelude.{Has, HasTimer, IsConnNumber, Job, Machine, NodeState, Place, conn, file_at, job_at, machine_step, node_at}
use Rattle.lard_bound.specs.Chains.{job_chain}
use Rattle.lard_bound.specs.Nears.{JobNear}
use Rattle.lard_bound.specs.Progress.{spot_at}
use Rattle.lard_bound.specs.Spots.{Spot}
use Rattle.lard_bound.specs.Units.{Whole, machine_units}
use Rattle.lard_law_settles.specs.Course.{NearIn, chain_in}
use Rattle.lard_rounds.specs.Rounds.{Game}
use Rattle.lard_settling.specs.Settling.{is_own_seat, is_quiet}

-- a job, and the node at whose disk it waits
abbrev pub Task : Type 0
Task = ℕ × Job

abbrev pub TaskWaits : Machine → Task → Type 0
TaskWaits m t = (s : NodeState) × (node_at m.nodes t.0 ≡ Some s) × Has t.1 s.disk

-- the node completes its first job, and this is it
abbrev pub CompletesFirst : Machine → Task → Machine → Type 0
CompletesFirst m t n = (s : NodeState) × (node_at m.nodes t.0 ≡ Some s) × (job_at s.disk 1 ≡ Some t.1) × (machine_step m (event.Disk t.0 1) ≡ Ok n)

-- a timer of a place's own fires; and the first of those that are due at a place of its own
abbrev pub FiresAt : Machine → Machine → Type 0
FiresAt m n = (p : Place) × (c : ℕ) × HasTimer p c × (machine_step m (event.Timer p c) ≡ Ok n)

abbrev pub seats_due : Machine → List (Place × ℕ)
seats_due m = filter is_own_seat (due m.front.dispatch (agenda_of m.journal))

abbrev pub Begins : Machine → Machine → Type 0
Begins m n = (p : Place) × (c : ℕ) × (more : List (Place × ℕ)) × HasTimer p c × (seats_due m ≡ (p, c) ∷ more) × (machine_step m (event.Timer p c) ≡ Ok n)

abbrev pub JobNearOn : Machine → Task → ℕ → Option Spot → Type 0
JobNearOn m t d None = ⊥
JobNearOn m t d (Some spot) = JobNear (file_at m.files) spot t.0 d t.1

-- what is known of a state is given: `Good`; and so is what each client wrote before the settle
abbrev pub game : (ℕ → Whole) → (Machine → Type 0) → Game Machine Task
game all Good = record {
  on_way = λ m k. is_on_way m.journal k ≡ true;
  queued = TaskWaits;
  sent = λ m. length m.net;
  delivers = λ m k n. machine_step m (event.Deliver k) ≡ Ok n;
  completes = CompletesFirst;
  fires = FiresAt;
  begins = Begins;
  is_quiet = λ m. is_quiet m ≡ true;
  good = Good;
  units = machine_units all;
  chain = chain_in;
  job_chain = λ m t. job_chain;
  near = NearIn;
  job_near = λ m d t. JobNearOn m t d (spot_at (file_at m.files) (conn m t.1.c)) × IsConnNumber t.1.c;
}
