-- An event of a schedule is a settle, or does one step.
use Rattle.std.proofs.Common.{◌≡◌, ◌⊎◌, inl, inr, ℕ, false, [], Option, Some, None, Result, Ok, Err, refl, sym, ap, ◌∙◌}
use Rattle.lard_law_view.specs.Prelude.{Event, HasRule, Machine, StepFault, What, limit_reached, machine_step, passed, unless_limit}
use Rattle.lard_base.specs.declared.event.Event.TheVariants as event
use Rattle.lard_settling.specs.Events.{MayCome, event_step, stepped_from}
use Rattle.lard_settling.specs.Steps.{settle_begun}
use Rattle.lard_settling.specs.Written.{is_settle}

-- an event that is no settle does its step
pub plain-step : (m : Machine) (e : Event) → is_settle e ≡ false → event_step m e ≡ stepped_from m (machine_step m e)
unfolding event_step
plain-step m (event.Settle rounds) h = cc
plain-step m _ h = refl

-- a settle, or not
pub either-kind : (e : Event) → (is_settle e ≡ false) ⊎ ((rounds : ℕ) × (e ≡ event.Settle rounds))
either-kind (event.Settle rounds) = inr (rounds, refl)
either-kind _ = inl refl

pub plain-rule : (e : Event) → is_settle e ≡ false → MayCome e → HasRule e
plain-rule (event.Settle rounds) h r = cc
plain-rule _ h r = r

plain-ok : (m : Machine) (x : Result Machine StepFault) (n : Machine) → stepped_from m x ≡ Ok n → x ≡ Ok n
plain-ok m (Ok k) n is = let same : k ≡ n = cc in ap (λ (q : Machine). Ok q) same
plain-ok m (Err f) n is = cc

pub plain-done : (m n : Machine) (e : Event) → is_settle e ≡ false → event_step m e ≡ Ok n → machine_step m e ≡ Ok n
plain-done m n e nots is = plain-ok m (machine_step m e) n (sym (plain-step m e nots) ∙ is)

-- a settle that has begun has its record
pub begun-is : (m n : Machine) (rounds : ℕ) → settle_begun m rounds ≡ Ok n → passed m (event.Settle rounds) [] ≡ n
unfolding settle_begun
begun-is m n rounds = go (limit_reached m) where
  go : (o : Option What) → unless_limit o (Ok (passed m (event.Settle rounds) [])) ≡ Ok n → passed m (event.Settle rounds) [] ≡ n
  go None is = cc
  go (Some what) is = cc
