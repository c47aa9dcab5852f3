-- What Fetches and jobs ask for can be told, and goes where it is awaited: what the laws of connections say of it, in words of seats.
use Rattle.std.proofs.Common.{◌≡◌, ◌≢◌, ◌≤◌, ℕ, true, false, List, Some, Ok, refl, sym, subst}
use Rattle.std.specs.List.{find}
use Rattle.lard_law_view.specs.Prelude.{Config, Has, IsReached, Job, Machine, NodeState, config_check, conn, file_at, is_from, is_under, node_at, part_of, tale_at}
use Rattle.lard_base.specs.declared.place.TimerKind.TheVariants as kind
use Rattle.lard_bound.specs.Seats.{Staying, seat_of}
use Rattle.lard_law_connections.proofs.KeptRuns.{connections-are-kept}
use Rattle.lard_laws.proofs.OriginsFetches.{FetchesAreTold, fetches-are-told}
use Rattle.lard_laws.proofs.RecordsHolding.{Holds}
use Rattle.lard_laws.proofs.RecordsNamed.{AreNamed}
use Rattle.lard_law_settles.proofs.CourseFetching.{Fetches, IsHome}
use Rattle.lard_law_settles.proofs.KnownStaying.{seat-stay, stay-there}

-- the connection's row at the node that has it, and its stay
conn-part : (m : Machine) (q : ℕ) → (conn m q).part ≡ part_of m q
unfolding conn
conn-part m q = refl

module _ (config : Config) (files : List (List ℕ × List ℕ)) (checked : config_check config ≡ Ok tt) (m : Machine) (reached : IsReached config files m) (holds : Holds m) (named : AreNamed (file_at m.files)) (same : m.config ≡ config) (untouched : (q : ℕ) → (tale_at (conn m q)).touched ≡ false) where
  told : FetchesAreTold m
  told = fetches-are-told config files checked m reached holds named same untouched

  at-home : (q h e from r : ℕ) → IsHome (seat_of (part_of m q)) h e from r → IsHome (seat_of (conn m q).part) h e from r
  at-home q h e from r = subst (λ p. IsHome (seat_of p) h e from r) (sym (conn-part m q))

  goals : (q h e from r : ℕ) → IsHome (seat_of (part_of m q)) h e from r → (h ≢ from) × (1 ≤ from) × (from ≤ m.config.nodes)
  goals q h e from r home =
      let it : IsHome (seat_of (conn m q).part) h e from r = at-home q h e from r home in
      let here = seat-stay (conn m q).part it.told h e it.block it.staying it.seat in
      let stay = stay-there (file_at files) (conn m q).c h e it.block ((conn m q).part.nodes h) ((connections-are-kept config files m reached q).nodes h) here.0 in
      let goal = told.goals q h e from r it.block stay.0 (record { row = here.0; stay = stay.1 }) (subst (λ (s : Staying). is_from from e (find (is_under kind.Fetch r) s.fetches) ≡ true) here.1 it.wanted) in
      ((λ bad. goal.0 (sym bad)), goal.1.0, goal.1.1)

  origins : (i : ℕ) (s : NodeState) (job : Job) → node_at m.nodes i ≡ Some s → Has job s.disk → (h from r : ℕ) → IsHome (seat_of (part_of m job.c)) h job.epoch.0 from r → job.origin ≡ h
  origins i s job at has h from r home =
      let it : IsHome (seat_of (conn m job.c).part) h job.epoch.0 from r = at-home job.c h job.epoch.0 from r home in
      told.origins i s job at has h it.block (seat-stay (conn m job.c).part it.told h job.epoch.0 it.block it.staying it.seat).0

  pub fetches : Fetches m
  fetches = record { goals = goals; origins = origins; contents = told.contents; jobs = told.jobs }
