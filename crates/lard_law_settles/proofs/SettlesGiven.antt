-- What steps are recorded with: the record that begins them, and behind it others that begin no step and close no settle.
use Rattle.std.proofs.Common.{◌≡◌, ◌<◌, ℕ, ◌+◌, List, [], ◌∷◌, ◌++◌, length, Result, Ok, Err, refl, ap, ◌∙◌, subst}
use Rattle.lard_law_view.specs.Prelude.{Config, Event, HasRule, MAX_RECORDS, Machine, Rec, StepFault, bytes_in, happens, limit_reached, machine_step, passed, turned_at}
use Rattle.lard_base.specs.declared.event.Event.TheVariants as event
use Rattle.lard_journal.specs.declared.rec.Rec.TheVariants as rec
use Rattle.lard_journal.proofs.Turned.{turned_behind}
use Rattle.lard_settling.specs.Steps.{as_inner, inner_given, inner_step, settle_begun}
use Rattle.lard_settling.specs.Written.{IsWrittenOut}
use Rattle.lard_settling.proofs.Plain.{AreUnmarked}
use Rattle.lard_settling.proofs.Written.{Leads, few-records, step-leads, unless-ok}

-- Records that are no marks stand behind the event, which is one more.
pub record StepRows (m : Machine) (e : Event) (n : Machine) : Type 0 where
  pub rows : List Rec
  pub are : n.journal ≡ m.journal ++ rec.Event (m.events + 1) e ∷ rows
  pub unmarked : AreUnmarked rows
  pub events : n.events ≡ m.events + 1
  pub few : length m.journal < MAX_RECORDS

-- the same of an inner step, which is no event
pub record InnerRows (m : Machine) (e : Event) (n : Machine) : Type 0 where
  pub rows : List Rec
  pub are : n.journal ≡ m.journal ++ rec.Inner e ∷ rows
  pub unmarked : AreUnmarked rows
  pub events : n.events ≡ m.events

module _ (config : Config) (files : List (List ℕ × List ℕ)) where
  pub step-rows : (m n : Machine) (e : Event) → IsWrittenOut config files m → HasRule e → machine_step m e ≡ Ok n → StepRows m e n
  unfolding machine_step
  step-rows m n e w rule is =
      let on : Leads config files m e n = step-leads config files m n e w rule is in
      record {
        rows = on.rows;
        are = on.journal;
        unmarked = on.unmarked;
        events = on.events;
        few = few-records (length m.net) (bytes_in m.net) (length m.journal) m.answered (unless-ok (limit_reached m) (happens m e) n is).0;
      }

  pub inner-rows : (m n : Machine) (e : Event) → IsWrittenOut config files m → HasRule e → inner_step m e ≡ Ok n → InnerRows m e n
  unfolding inner_step
  inner-rows m n e w rule is = go (machine_step m e) refl is where
    go : (x : Result Machine StepFault) → machine_step m e ≡ x → inner_given m x ≡ Ok n → InnerRows m e n
    go (Err f) s made = cc
    go (Ok k) s made =
        let on : StepRows m e k = step-rows m k e w rule s in
        let same : as_inner m k ≡ n = cc in
        subst (InnerRows m e) same (record {
          rows = on.rows;
          are = ap (λ (J : List Rec). turned_at (length m.journal) J) on.are ∙ turned_behind m.journal (m.events + 1) e on.rows;
          unmarked = on.unmarked;
          events = refl;
        })

-- few records stand before a settle that has begun
pub begun-few : (m n : Machine) (rounds : ℕ) → settle_begun m rounds ≡ Ok n → length m.journal < MAX_RECORDS
unfolding settle_begun
begun-few m n rounds is = few-records (length m.net) (bytes_in m.net) (length m.journal) m.answered (unless-ok (limit_reached m) (Ok (passed m (event.Settle rounds) [])) n is).0
