-- Runs with settles: few timers and jobs are left at any moment.
use Rattle.std.specs.Prelude.{◌≡◌, ◌<◌, ◌^◌, ℕ, List, Ok}
use Rattle.lard_law_view.specs.Prelude.{Config, Machine, config_check}
use Rattle.lard_settling.specs.Settling.{settle_left}
use Rattle.lard_settling.specs.Written.{IsWrittenOut}

-- In each state of a run, also inside a settle, fewer than 2^40 timers that are not stalled run and jobs wait, in all. So what a closing
-- record says is left is a number of 64 bits.
abbrev pub FewAreLeft : Type 0
FewAreLeft = (config : Config) (files : List (List ℕ × List ℕ)) (m : Machine) → config_check config ≡ Ok tt → IsWrittenOut config files m → settle_left m < 2 ^ 40
