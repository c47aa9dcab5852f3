-- In an inner step no client opens, and none writes.
use Rattle.std.proofs.Common.{◌≡◌, ℕ, Bool, true, not, List, [], ◌∷◌, ◌++◌, Ok, refl, ap, ◌∙◌}
use Rattle.std.proofs.lemmas.Bool.{and_parts}
use Rattle.std.proofs.lemmas.List.Sums.{fold-append}
use Rattle.std.specs.List.{fold, list_all}
use Rattle.lard_law_view.specs.Prelude.{AreOwn, Event, IsStep, IsViewed, Machine, Rec, is_own, machine_step, touched_step, wrote_step}
use Rattle.lard_base.specs.declared.event.Event.TheVariants as event
use Rattle.lard_bound.specs.Bound.{opener_step}
use Rattle.lard_law_view.proofs.After.{IsAfter, step-after}
use Rattle.lard_journal.specs.declared.rec.Rec.TheVariants as rec
use Rattle.lard_law_settles.proofs.SettlesFiring.{IsInner, inner-rule}

-- A fold that an inner step does not change: it passes over events, packets that come, and all that is no event's own.
pub record PassesOver {A : Type 0} (step : A → Rec → A) : Type 0 where
  pub events : (a : A) (i : ℕ) (e : Event) → step a (rec.Event i e) ≡ a
  pub comes : (a : A) (k : ℕ) → step a (rec.Got k) ≡ a
  pub others : (a : A) (r : Rec) → not (is_own r) ≡ true → step a r ≡ a

module _ {A : Type 0} (step : A → Rec → A) (over : PassesOver step) where
  all-over : (a : A) (rs : List Rec) → list_all (λ r. not (is_own r)) rs ≡ true → fold step a rs ≡ a
  all-over a [] h = refl
  all-over a (r ∷ rs) h =
      let parts = and_parts (not (is_own r)) (list_all (λ q. not (is_own q)) rs) h in
      ap (λ b. fold step b rs) (over.others a r parts.0) ∙ all-over a rs parts.1

  none-own : (a : A) (own : List Rec) → own ≡ [] → fold step a own ≡ a
  none-own a own e = ap (fold step a) e

  own-over : (a : A) (e : Event) (own : List Rec) → IsInner e → AreOwn e own → fold step a own ≡ a
  own-over a (event.Take c) own inner are = none-own a own are
  own-over a (event.Deliver k) own inner are = ap (fold step a) are ∙ over.comes a k
  own-over a (event.Disk n j) own inner are = none-own a own are
  own-over a (event.Timer p c) own inner are = none-own a own are
  own-over a _ own inner are = absurd inner

  step-over : (a : A) (i : ℕ) (e : Event) (rows : List Rec) → IsInner e → IsStep i e rows → fold step a rows ≡ a
  step-over a i e rows inner s =
      ap (fold step a) s.is
      ∙ ap (λ b. fold step b (s.own ++ s.others)) (over.events a i e)
      ∙ fold-append step a s.own s.others
      ∙ ap (λ b. fold step b s.others) (own-over a e s.own inner s.own_are)
      ∙ all-over a s.others s.alone

  pub inner-over : (a : A) (m n : Machine) (e : Event) → IsViewed m → IsInner e → machine_step m e ≡ Ok n → fold step a n.journal ≡ fold step a m.journal
  inner-over a m n e view inner is =
      let after : IsAfter m e n = step-after m view e n (inner-rule e inner) is in
      ap (fold step a) after.is ∙ fold-append step a m.journal after.step ∙ step-over (fold step a m.journal) n.events e after.step inner after.follows

pub wrote-over : (c : ℕ) → PassesOver (wrote_step c)
wrote-over c = record { events = λ a i e. refl; comes = λ a k. refl; others = others } where
  others : (a : List ℕ) (r : Rec) → not (is_own r) ≡ true → wrote_step c a r ≡ a
  others a (rec.Wrote d bytes) h = cc
  others a _ h = refl

pub openers-over : PassesOver opener_step
openers-over = record { events = λ a i e. refl; comes = λ a k. refl; others = others } where
  others : (a : List ℕ) (r : Rec) → not (is_own r) ≡ true → opener_step a r ≡ a
  others a (rec.Opened c isn iss wnd mss) h = cc
  others a _ h = refl

pub touched-over : (c : ℕ) → PassesOver (touched_step c)
touched-over c = record { events = λ a i e. refl; comes = λ a k. refl; others = others } where
  others : (a : Bool) (r : Rec) → not (is_own r) ≡ true → touched_step c a r ≡ a
  others a (rec.Injected d) h = cc
  others a _ h = refl
