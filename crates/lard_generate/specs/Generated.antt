-- The generated schedule of a seed and a number of clients.
use Rattle.std.specs.Prelude.{ℕ, [], ◌∷◌, ◌++◌, map}
use Rattle.lard_base.specs.declared.event.Event.TheVariants.{Settle}
use Rattle.lard_generate.specs.declared.schedule.Schedule.{Schedule}
use Rattle.lard_generate.specs.Clients.{drawn_open, drawn_actions, drawn_fate, action_event, rounds}
use Rattle.lard_generate.specs.Draws.{each, seeded}
use Rattle.lard_generate.specs.Files.{drawn_size, generated_files}

-- The sizes of the files are drawn first; then every client opens, then every client asks and shuts, then SYNs are lost or
-- repeated; then all of it settles.
unfoldable pub generated : ℕ → ℕ → Schedule
generated seed clients =
    let sizes = each drawn_size 256 (seeded seed) in
    let opens = each drawn_open clients sizes.1 in
    let actions = each drawn_actions clients opens.1 in
    let fates = each drawn_fate clients actions.1 in
    record {
      files = generated_files sizes.0;
      events = opens.0 ++ map action_event actions.0 ++ fates.0 ++ Settle (rounds clients sizes.0 actions.0) ∷ [];
    }
