-- The records of a step behind its event are no marks of steps and settles.
use Rattle.std.proofs.Common.{◌≡◌, ℕ, ◌+◌, List, [], ◌∷◌, ◌++◌, length, false, Ok, refl, ap, ◌∙◌}
use Rattle.lard_law_view.specs.Prelude.{Event, HasRule, IsViewed, Machine, Out, Place, Rec, clocked, machine_step, machine_told, segments_sent, sent_records, told_rows}
use Rattle.lard_base.specs.declared.event.Event.TheVariants as event
use Rattle.lard_law_view.proofs.AnyShape.{AnyShape, IsAct, SomeGift, SomeNote, SomeTimer, some-noted, step-any}
use Rattle.lard_law_view.proofs.Saying.{GaveAt}
use Rattle.lard_law_view.proofs.Timers.{IsTimerAt}
use Rattle.lard_history.proofs.Each.{Each, Each-append, Each-weaker}
use Rattle.lard_journal.specs.declared.rec.Rec.TheVariants as rec
pub use Rattle.lard_settling.specs.Settling.{is_mark}
use Rattle.lard_law_view.proofs.OwnRecords.{behind}
use Rattle.lard_law_view.proofs.OfKinds.{of-gift, of-sents, of-timer}
use Rattle.lard_law_view.proofs.RecordKinds.{IsNote}

abbrev pub AreUnmarked : List Rec → Type 0
AreUnmarked rs = Each (λ r. is_mark r ≡ false) rs

abbrev IsUnmarked : Rec → Type 0
IsUnmarked r = is_mark r ≡ false

sents-unmarked : (k : ℕ) (place : Place) (ss : List (Place × List ℕ)) → AreUnmarked (sent_records k place ss)
sents-unmarked = of-sents IsUnmarked (λ k from to bytes. refl)

note-unmarked : (r : Rec) → IsNote r → IsUnmarked r
note-unmarked (rec.Event i e) h = absurd h
note-unmarked (rec.Inner e) h = absurd h
note-unmarked (rec.Settled rounds) h = absurd h
note-unmarked (rec.Unsettled rounds left) h = absurd h
note-unmarked _ h = refl

gave-unmarked : (place : Place) (c : ℕ) (r : Rec) → GaveAt place c r → IsUnmarked r
gave-unmarked = of-gift IsUnmarked (λ p d epoch. refl)

timer-unmarked : (place : Place) (c : ℕ) (r : Rec) → IsTimerAt place c r → IsUnmarked r
timer-unmarked = of-timer IsUnmarked (λ p d kind. (refl, refl))

own-unmarked : (e : Event) → AreUnmarked (behind e)
own-unmarked (event.Get c path) = tt
own-unmarked (event.Write c bytes) = tt
own-unmarked (event.Shut c) = tt
own-unmarked (event.Abort c) = tt
own-unmarked (event.Hold c) = tt
own-unmarked (event.Take c) = tt
own-unmarked (event.Timer p c) = tt
own-unmarked (event.Disk n j) = tt
own-unmarked (event.Drain n) = tt
own-unmarked (event.Clock ms) = tt
own-unmarked (event.Settle rounds) = tt
own-unmarked _ = (refl, tt)

-- ---- a step

-- behind the event of the step stand records that are no marks
pub record HasPlainRows (m : Machine) (e : Event) (n : Machine) : Type 0 where
  pub rows : List Rec
  pub are : n.journal ≡ m.journal ++ rec.Event (m.events + 1) e ∷ rows
  pub unmarked : AreUnmarked rows

module _ (m : Machine) where
  told-plain : (w : Machine) (e : Event) (place : Place) (o : Out) → IsAct m w e place o → HasPlainRows m e (machine_told w e (behind e) place o)
  unfolding machine_told
  told-plain w e place o act =
      let S : List Rec = sent_records (length w.net + 1) place o.segments in
      let M : List Rec = sent_records (length (segments_sent w place o) + 1) place o.messages in
      record {
        rows = behind e ++ o.notes ++ S ++ o.gave ++ M ++ o.timers;
        are = ap (λ (J : List Rec). J ++ told_rows w e (behind e) place o) act.put.journal ∙ ap (λ i. m.journal ++ rec.Event (i + 1) e ∷ (behind e ++ o.notes ++ S ++ o.gave ++ M ++ o.timers)) act.put.events;
        unmarked = Each-append IsUnmarked (behind e ++ o.notes ++ S ++ o.gave ++ M) o.timers
            (Each-append IsUnmarked (behind e ++ o.notes ++ S ++ o.gave) M
            (Each-append IsUnmarked (behind e ++ o.notes ++ S) o.gave
            (Each-append IsUnmarked (behind e ++ o.notes) S
            (Each-append IsUnmarked (behind e) o.notes (own-unmarked e) (Each-weaker (SomeNote place) IsUnmarked (λ r h. note-unmarked r (some-noted place r h)) o.notes act.notes))
            (sents-unmarked (length w.net + 1) place o.segments))
            (Each-weaker (SomeGift place) IsUnmarked (λ r h. gave-unmarked place h.0 r h.1) o.gave act.gave))
            (sents-unmarked (length (segments_sent w place o) + 1) place o.messages))
            (Each-weaker (SomeTimer place) IsUnmarked (λ r h. timer-unmarked place h.0 r h.1) o.timers act.timers);
      }

  any-plain : AnyShape m (λ e n. HasPlainRows m e n)
  unfolding clocked
  any-plain = record {
    acts = told-plain;
    nobody = λ k l at there. record { rows = rec.Got k ∷ []; are = refl; unmarked = (refl, tt) };
    loses = λ k l at there. record { rows = rec.Lost k ∷ []; are = refl; unmarked = (refl, tt) };
    clocks = λ ms. record { rows = rec.Clock (record { 0 = m.now + ms }) ∷ []; are = refl; unmarked = (refl, tt) };
  }

pub step-plain : (m : Machine) → IsViewed m → (e : Event) (n : Machine) → HasRule e → machine_step m e ≡ Ok n → HasPlainRows m e n
step-plain m view e n rule is = step-any m view (λ d k. HasPlainRows m d k) (any-plain m) e n rule is
