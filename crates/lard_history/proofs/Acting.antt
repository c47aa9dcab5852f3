-- Who acts in a step: behind its event all records of the acting place may stand.
use Rattle.std.proofs.Common.{◌≡◌, ℕ, List, [], ◌∷◌, ◌++◌, true, false, cond, Option, Some, None, ⊎_elim, refl, sym, ap, ◌∙◌, nat_eq}
use Rattle.std.specs.Prelude.{◌⊎◌}
use Rattle.lard_base.specs.declared.event.Event.{Event}
use Rattle.lard_base.specs.declared.event.Event.TheVariants as event
use Rattle.lard_base.specs.declared.place.Place.{Place}
use Rattle.lard_history.specs.Journal.{acting, acting_at, acting_in, last_event_step, goal_of, goal_step, last_event}
use Rattle.lard_history.specs.Laws.{EachMay, MayAct, first_place}
use Rattle.lard_history.specs.Steps.{is_opening}
use Rattle.lard_history.proofs.Counts.{goal_of-append, last_event-append}
use Rattle.lard_history.proofs.Each.{Each}
use Rattle.lard_journal.specs.declared.rec.Rec.{Rec}
use Rattle.lard_journal.specs.declared.rec.Rec.TheVariants as rec

-- it names no place, or this
abbrev pub IsAt : Place → Rec → Type 0
IsAt p r = (first_place r ≡ None) ⊎ (first_place r ≡ Some p)

-- it sends no packet of this number
abbrev pub IsNot : ℕ → Rec → Type 0
IsNot k (rec.Sent j from to bytes) = nat_eq j k ≡ false
IsNot k _ = Unit {0}

-- nor does it begin a step
abbrev pub IsInside : ℕ → Rec → Type 0
IsInside k r = (is_opening r ≡ false) × IsNot k r

-- an event at which p acts, by packet k where one comes
pub record IsActing (J : List Rec) (e : Event) (p : Place) (k : ℕ) : Type 0 where
  pub acts : acting_in (J ++ rec.Event 0 e ∷ []) e ≡ Some p
  pub begins : (i : ℕ) → acting_in (J ++ rec.Event i e ∷ []) e ≡ acting_in (J ++ rec.Event 0 e ∷ []) e
  pub steady : (r : Rec) → IsNot k r → (past : List Rec) → acting_in (past ++ r ∷ []) e ≡ acting_in past e

-- an event that names who acts
pub named-acting : (J : List Rec) (e : Event) (p : Place) → ((K : List Rec) → acting_in K e ≡ Some p) → IsActing J e p 0
named-acting J e p acts = record {
  acts = acts (J ++ rec.Event 0 e ∷ []);
  begins = λ i. acts (J ++ rec.Event i e ∷ []) ∙ sym (acts (J ++ rec.Event 0 e ∷ []));
  steady = λ r n past. acts (past ++ r ∷ []) ∙ sym (acts past);
}

-- a packet that comes to p
pub comes-acting : (J : List Rec) (k : ℕ) (p : Place) → goal_of J k ≡ Some p → IsActing J (event.Deliver k) p k
comes-acting J k p to = record {
  acts = goal_of-append J (rec.Event 0 (event.Deliver k) ∷ []) k ∙ to;
  begins = λ i. goal_of-append J (rec.Event i (event.Deliver k) ∷ []) k ∙ sym (goal_of-append J (rec.Event 0 (event.Deliver k) ∷ []) k);
  steady = λ r n past. goal_of-append past (r ∷ []) k ∙ still r n (goal_of past k);
} where
  still : (r : Rec) → IsNot k r → (o : Option Place) → goal_step k o r ≡ o
  still (rec.Sent j from to bytes) n o = ap (λ b. cond b (Some to) o) n
  still _ n o = refl

-- ---- records behind the event

event-same : (past : List Rec) (r : Rec) → is_opening r ≡ false → last_event (past ++ r ∷ []) ≡ last_event past
event-same past r n = last_event-append past (r ∷ []) ∙ go r n where
  go : (r : Rec) → is_opening r ≡ false → last_event_step (last_event past) r ≡ last_event past
  go (rec.Event i e) n = let no : true ≡ false = n in absurd cc
  go (rec.Inner e) n = let no : true ≡ false = n in absurd cc
  go _ n = refl

at-acts : (p : Place) (past : List Rec) (r : Rec) → acting past ≡ Some p → IsAt p r → MayAct past r
at-acts p past r acts at q is = ⊎_elim
    (λ (none : first_place r ≡ None). let no : None ≡ Some q = sym none ∙ is in absurd cc)
    (λ (some : first_place r ≡ Some p). acts ∙ sym some ∙ is) at

-- a record that names no place may stand anywhere
pub placeless-acts : (past : List Rec) (r : Rec) → first_place r ≡ None → MayAct past r
placeless-acts past r none p is = let no : None ≡ Some p = sym none ∙ is in absurd cc

module _ (e : Event) (p : Place) (k : ℕ) (steady : (r : Rec) → IsNot k r → (past : List Rec) → acting_in (past ++ r ∷ []) e ≡ acting_in past e) where
  acts-on : (past rs : List Rec) → last_event past ≡ Some e → acting_in past e ≡ Some p → Each (IsAt p) rs → Each (IsInside k) rs → EachMay MayAct past rs
  acts-on past [] last acts at inside = tt
  acts-on past (r ∷ rs) last acts at inside =
      let last' : last_event (past ++ r ∷ []) ≡ Some e = event-same past r inside.0.0 ∙ last in
      let acts' : acting_in (past ++ r ∷ []) e ≡ Some p = steady r inside.0.1 past ∙ acts in
      (at-acts p past r (ap (acting_at past) last ∙ acts) at.0, acts-on (past ++ r ∷ []) rs last' acts' at.1 inside.1)

-- the event, and behind it records of the acting place, of which none sends its packet
pub acting-lawful : (J : List Rec) (i : ℕ) (e : Event) (p : Place) (k : ℕ) (rest : List Rec) → IsActing J e p k → Each (IsAt p) rest → Each (IsInside k) rest
    → EachMay MayAct J (rec.Event i e ∷ rest)
acting-lawful J i e p k rest acting at inside = (
  placeless-acts J (rec.Event i e) refl,
  acts-on e p k acting.steady (J ++ rec.Event i e ∷ []) rest (last_event-append J (rec.Event i e ∷ [])) (acting.begins i ∙ acting.acts) at inside,
)
