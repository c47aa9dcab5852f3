-- The records of a place's timers are of its connection, and there are none where nothing changed.
use Rattle.std.proofs.Common.{◌≡◌, ℕ, Bool, true, false, List, [], ◌∷◌, ◌++◌, Some, refl, ap}
use Rattle.std.specs.List.{flat_map}
use Rattle.lard_law_view.specs.Prelude.{Client, Front, Node, Part, Place, Rec, TimerKind, front_armed, kind_change, node_armed, plain, station_armed, timer_kinds, timer_rows, whose}
use Rattle.lard_base.specs.declared.place.TimerKind.TheVariants.{Tcp}
use Rattle.lard_law_view.proofs.Saying.{IsStill}
use Rattle.lard_history.proofs.Each.{Each, Each-append, Each-weaker}
use Rattle.lard_history.proofs.Seeing.{AreOf}
use Rattle.lard_journal.specs.declared.rec.Rec.TheVariants as rec

-- a timer of the place for connection c was armed or cleared
abbrev pub IsTimerAt : Place → ℕ → Rec → Type 0
IsTimerAt place c (rec.Armed p d kind) = (p ≡ place) × (d ≡ c)
IsTimerAt place c (rec.Cleared p d kind) = (p ≡ place) × (d ≡ c)
IsTimerAt place c _ = ⊥

one-is : (place : Place) (c : ℕ) (kind : TimerKind) (was is : Bool) → Each (IsTimerAt place c) (kind_change place c kind was is)
one-is place c kind false false = tt
one-is place c kind false true = ((refl, refl), tt)
one-is place c kind true false = ((refl, refl), tt)
one-is place c kind true true = tt

one-same : (place : Place) (c : ℕ) (kind : TimerKind) (b : Bool) → kind_change place c kind b b ≡ []
one-same place c kind true = refl
one-same place c kind false = refl

module _ (place : Place) (c : ℕ) (was is : TimerKind → Bool) where
  -- the records of kinds of timers that changed
  abbrev changes : List TimerKind → List Rec
  changes kinds = flat_map (λ kind. kind_change place c kind (was kind) (is kind)) kinds

  changes-are : (kinds : List TimerKind) → Each (IsTimerAt place c) (changes kinds)
  changes-are [] = tt
  changes-are (kind ∷ kinds) = Each-append (IsTimerAt place c) (kind_change place c kind (was kind) (is kind)) (changes kinds) (one-is place c kind (was kind) (is kind)) (changes-are kinds)

none-changes : (place : Place) (c : ℕ) (was : TimerKind → Bool) (kinds : List TimerKind) → changes place c was was kinds ≡ []
none-changes place c was [] = refl
none-changes place c was (kind ∷ kinds) = λ i. one-same place c kind (was kind) i ++ none-changes place c was kinds i

-- ---- of any place

pub timer_rows-are : (place : Place) (c : ℕ) (p q : Part) → Each (IsTimerAt place c) (timer_rows place c p q)
unfolding timer_rows
timer_rows-are (Client d) c p q = one-is (Client d) c Tcp (station_armed p.station) (station_armed q.station)
timer_rows-are Front c p q = changes-are Front c (front_armed p.front) (front_armed q.front) timer_kinds
timer_rows-are (Node n) c p q = changes-are (Node n) c (node_armed (p.nodes n)) (node_armed (q.nodes n)) timer_kinds

pub timer_rows-same : (place : Place) (c : ℕ) (p : Part) → timer_rows place c p p ≡ []
unfolding timer_rows
timer_rows-same (Client d) c p = one-same (Client d) c Tcp (station_armed p.station)
timer_rows-same Front c p = none-changes Front c (front_armed p.front) timer_kinds
timer_rows-same (Node n) c p = none-changes (Node n) c (node_armed (p.nodes n)) timer_kinds

timer-of : (place : Place) (c : ℕ) (r : Rec) → IsTimerAt place c r → (whose r ≡ Some c) × (plain r ≡ r)
timer-of place c (rec.Armed p d kind) h = (ap Some h.1, refl)
timer-of place c (rec.Cleared p d kind) h = (ap Some h.1, refl)
timer-of place c _ h = absurd h

pub timer_rows-of : (place : Place) (c : ℕ) (p q : Part) → AreOf c (timer_rows place c p q)
timer_rows-of place c p q = Each-weaker (IsTimerAt place c) (λ r. (whose r ≡ Some c) × (plain r ≡ r)) (timer-of place c) (timer_rows place c p q) (timer_rows-are place c p q)

-- a timer's record begins no step, and tells of no packet
pub timer-still : (place : Place) (c : ℕ) (r : Rec) → IsTimerAt place c r → IsStill r
timer-still place c (rec.Armed p d kind) h = (refl, λ net. refl)
timer-still place c (rec.Cleared p d kind) h = (refl, λ net. refl)
timer-still place c _ h = absurd h

pub timer_rows-still : (place : Place) (c : ℕ) (p q : Part) → Each IsStill (timer_rows place c p q)
timer_rows-still place c p q = Each-weaker (IsTimerAt place c) IsStill (timer-still place c) (timer_rows place c p q) (timer_rows-are place c p q)
