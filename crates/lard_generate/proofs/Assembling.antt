-- The parts of a schedule make the whole.
use Rattle.std.proofs.Common.{◌≡◌, ℕ, List, [], ◌∷◌, ◌++◌, map, sym, ap, ◌∙◌}
use Rattle.rand_pcg.specs.Lcg.{Lcg, started, increment_of}
use Rattle.rand_pcg.specs.Pcg.{multiplier_64}
use Rattle.lard_base.specs.declared.event.Event.{Event}
use Rattle.lard_base.specs.declared.event.Event.TheVariants.{Settle}
use Rattle.lard_generate.specs.declared.action.Action.{Action}
use Rattle.lard_generate.specs.declared.schedule.Schedule.{Schedule}
use Rattle.lard_generate.specs.Clients.{drawn_open, drawn_actions, drawn_fate, action_event, rounds}
use Rattle.lard_generate.specs.Draws.{each, seeded}
use Rattle.lard_generate.specs.Files.{drawn_size, generated_files}
use Rattle.lard_generate.specs.Generated.{generated}

-- the events, with those of actions and the rounds that all of it takes
abbrev pub events_of : ℕ → List ℕ → List Event → List Action → List Event → List Event
events_of clients sizes opens actions fates = opens ++ map action_event actions ++ fates ++ Settle (rounds clients sizes actions) ∷ []

abbrev pub schedule_of : ℕ → List ℕ → List Event → List Action → List Event → Schedule
schedule_of clients sizes opens actions fates = record { files = generated_files sizes; events = events_of clients sizes opens actions fates }

pub parts_are : (clients : ℕ) (sizes : List ℕ) (opens : List Event) (actions : List Action) (fates : List Event) (files : List (List ℕ × List ℕ)) (events : List Event)
    → files ≡ generated_files sizes → events ≡ events_of clients sizes opens actions fates
    → ◌≡◌ {A = Schedule} (record { files = files; events = events }) (schedule_of clients sizes opens actions fates)
parts_are clients sizes opens actions fates files events f e =
    ap (λ (xs : List (List ℕ × List ℕ)). record { files = xs; events = events }) f ∙ ap (λ (xs : List Event). record { files = generated_files sizes; events = xs }) e

-- What was drawn one after another from the seed makes the generated schedule.
pub assembled : (seed clients : ℕ) (f g h i j : Lcg) (sizes : List ℕ) (opens fates : List Event) (actions : List Action)
    → f ≡ started 64 multiplier_64 seed (increment_of 64 1)
    → each drawn_size 256 f ≡ (sizes, g) → each drawn_open clients g ≡ (opens, h) → each drawn_actions clients h ≡ (actions, i) → each drawn_fate clients i ≡ (fates, j)
    → schedule_of clients sizes opens actions fates ≡ generated seed clients
unfolding generated seeded
assembled seed clients f g h i j sizes opens fates actions s a b c d = let first : each drawn_size 256 (seeded seed) ≡ (sizes, g) = ap (each drawn_size 256) (sym s) ∙ a in rw (first, b, c, d)
