-- A run that ends otherwise than by a write fault leaves the sink's count of faults as it was.
use Rattle.std.proofs.Common.{◌≡◌, ℕ, refl, subst}
use Rattle.lard_law_view.specs.Prelude.{Rose}
use Rattle.lard_app.specs.declared.status.Status.{Status}
use Rattle.lard_app.specs.declared.status.Status.TheVariants.{Done, Usage, Refused, ReadFault, WriteFault, NoMemory, Limit}
use Rattle.lard_app.specs.Replay.{EndsCount}

module _ (before now : ℕ) (status : Status) (h : EndsCount before now status) where
  pub fault-rose : status ≡ WriteFault → Rose before now
  fault-rose e = subst (EndsCount before now) e h

  pub no_fault-same : ¬ (status ≡ WriteFault) → now ≡ before
  no_fault-same other = go status refl h where
    go : (s : Status) → status ≡ s → EndsCount before now s → now ≡ before
    go WriteFault e f = absurd (other e)
    go Done e f = f
    go Usage e f = f
    go (Refused line why) e f = f
    go ReadFault e f = f
    go NoMemory e f = f
    go (Limit line what) e f = f

-- what ends a run behind calls that left the count
pub counted-from : (first before now : ℕ) (status : Status) → before ≡ first → EndsCount before now status → EndsCount first now status
counted-from first before now status e h = subst (λ n. EndsCount n now status) e h
