-- The first choice, by whether somebody serves the target.
use Rattle.std.proofs.Common.{◌≡◌, ◌-◌, ℕ, Option, ap}
use Rattle.lard_base.specs.declared.config.Config.{Config}
use Rattle.lard_base.specs.declared.ids.Millis.{Millis}
use Rattle.lard_loads.specs.Tally.{Tally, least_of}
use Rattle.lard_policy.specs.First.{chosen, first_choice}

pub by_least : (t : Tally) (set : ℕ) (now last_mod : Millis) (cfg : Config) (n : Option ℕ) → least_of t set ≡ n → first_choice t set now last_mod cfg ≡ chosen t cfg set (now.0 - last_mod.0) n
unfolding first_choice
by_least t set now last_mod cfg n e = ap (chosen t cfg set (now.0 - last_mod.0)) e
