-- What holds of a desk between two events.
use Rattle.std.specs.Prelude.{◌≡◌, ℕ, ◌<◌, ◌≤◌, List, None, Ok, IfSome}
use Rattle.std.specs.FinMap as map
use Rattle.lard_base.specs.Config.{config_check}
use Rattle.lard_lab.specs.declared.targets.Target.{Target}
use Rattle.lard_lab.specs.Desk.{Desk}
use Rattle.lard_lab.specs.Targets.{target_at}

-- its server is a node that there is, and its set was not changed after this time
pub record IsTargetKept (nodes now : ℕ) (target : Target) : Type 0 where
  pub server : IfSome target.server (λ n. n ≤ nodes)
  pub modified : target.set.modified.0 ≤ now

-- so it is of each target
abbrev pub AreKept : ℕ → ℕ → List (List ℕ × Target) → Type 0
AreKept nodes now targets = (path : List ℕ) → IfSome (target_at targets path) (IsTargetKept nodes now)

pub record IsDeskSound (d : Desk) : Type 0 where
  pub usable : config_check d.config ≡ Ok tt
  pub nodes : d.loads.nodes ≡ d.config.nodes
  pub few : d.made ≤ 16384
  pub none : map.get d.loads.standings 0 ≡ None
  pub free : (i : ℕ) → d.made < i → map.get d.loads.standings i ≡ None
  pub kept : AreKept d.config.nodes d.time.0 d.targets
