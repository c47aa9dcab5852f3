-- The request that comes on is one entry of the batch, and no other changes.
use Rattle.std.proofs.Common.{◌≡◌, ℕ, zero, suc, ◌≤◌, ◌<◌, List, [], ◌∷◌, length, get_or, refl, ap, arith}
use Rattle.std.proofs.Math.ListN.{set}
use Rattle.lard_endpoint.specs.Control.{ControlBlock}
use Rattle.lard_rules.specs.declared.stay.Entry.{Entry}
use Rattle.lard_rules.specs.declared.stay.Progress.{Progress}
use Rattle.lard_rules.specs.Stay.{come_on}
use Rattle.lard_stay.specs.declared.work.Work.{Work}
use Rattle.lard_stay.specs.Work.{IsInHandSound}

module _ (f : Progress → Progress) where
  pub come-set : (es : List Entry) (at : ℕ) (d : Entry) → at < length es → set es at (record (get_or es at d) { progress = f (get_or es at d).progress }) ≡ come_on f at es
  come-set [] at d h = absurd (omega (arith, h))
  come-set (e ∷ es) zero d h = refl
  come-set (e ∷ es) (suc at) d h = ap (λ w. e ∷ w) (come-set es at d (omega (arith, h)))

  pub come-past : (es : List Entry) (at : ℕ) → length es ≤ at → es ≡ come_on f at es
  come-past [] at h = refl
  come-past (e ∷ es) zero h = absurd (omega (arith, h))
  come-past (e ∷ es) (suc at) h = ap (λ w. e ∷ w) (come-past es at (omega (arith, h)))

  pub come-length : (es : List Entry) (at : ℕ) → length (come_on f at es) ≡ length es
  come-length [] at = refl
  come-length (e ∷ es) zero = refl
  come-length (e ∷ es) (suc at) = ap suc (come-length es at)

-- what is in hand stays sound where the batch has as many requests as before
pub sound_came : (b : ControlBlock) (w : Work) (es : List Entry) → length es ≡ length w.batch → IsInHandSound b w → IsInHandSound b (record w { batch = es })
sound_came b w es e s = record {
  counted = s.counted;
  within = omega (arith, s.within, e);
  few = omega (arith, s.few, e);
  asks = omega (arith, s.asks, e);
  asked = s.asked;
  wants = s.wants;
}
