-- What holds of each machine to which events led.
use Rattle.std.proofs.Common.{◌≡◌, ℕ, List, Result, Ok, sym, subst}
use Rattle.lard_law_view.specs.Prelude.{Config, Event, Machine, config_check}
use Rattle.lard_settle.proofs.Runs.{GoesOn}
use Rattle.lard_settling.specs.Events.{MayCome, event_step}
use Rattle.lard_settling.specs.Settling.{Stop}
use Rattle.lard_settling.specs.Written.{IsWrittenOut}
use Rattle.lard_app.specs.Replay.{came_to}
use Rattle.lard_app.proofs.Events.{event-goes}
use Rattle.lard_app.proofs.Written.{event-written}

-- what holds of a machine to which events led
pub record IsFit (m : Machine) : Type 0 where
  pub written : IsWrittenOut m.config m.files m
  pub checked : config_check m.config ≡ Ok tt

pub next-fit : (m n : Machine) (e : Event) → MayCome e → IsFit m → event_step m e ≡ Ok n → IsFit n
next-fit m n e may fit is =
    let on : GoesOn m n = event-goes m n e is in
    let there : IsWrittenOut m.config m.files n = subst (λ (x : Result Machine Stop). IsWrittenOut m.config m.files (came_to x)) is (event-written m.config m.files m e fit.written may) in
    record {
      written = subst (λ (c : Config). IsWrittenOut c n.files n) (sym on.config) (subst (λ (fs : List (List ℕ × List ℕ)). IsWrittenOut m.config fs n) (sym on.files) there);
      checked = subst (λ (c : Config). config_check c ≡ Ok tt) (sym on.config) fit.checked;
    }
