-- Lists of events, and that all of them have a rule.
use Rattle.std.proofs.Common.{◌≡◌, ℕ, suc, ◌+◌, rules, Bool, true, false, cond, List, [], ◌∷◌, map, filter, Result, Ok, Err, IfOk, refl, sym, ap, subst}
use Rattle.std.specs.List.{AllByRecursion}
use Rattle.lard_base.specs.declared.event.Event.{Event}
use Rattle.lard_base.specs.declared.event.Event.TheVariants as event
use Rattle.lard_base.specs.declared.place.Place.{Place}
use Rattle.lard_base.specs.declared.place.Place.TheVariants as place
use Rattle.lard_rules.specs.Bounds.{HasRule}
use Rattle.lard_rules.specs.declared.machine.Machine.{Machine}
use Rattle.lard_settling.specs.Settling.{is_own_seat, is_own_at}
use Rattle.lard_settling.specs.Left.{jobs_at, jobs_from}

abbrev pub AreRuled : List Event → Type 0
AreRuled = AllByRecursion HasRule

pub takes-ruled : (cs : List ℕ) → AreRuled (map event.Take cs)
takes-ruled [] = tt
takes-ruled (c ∷ cs) = (tt, takes-ruled cs)

pub deliveries-ruled : (ks : List ℕ) → AreRuled (map event.Deliver ks)
deliveries-ruled [] = tt
deliveries-ruled (k ∷ ks) = (tt, deliveries-ruled ks)

-- a timer that is a place's own has a rule
own-ruled : (p : Place) (c : ℕ) → is_own_at p c ≡ true → HasRule (event.Timer p c)
own-ruled place.Front c own = tt
own-ruled (place.Node n) c own = tt
own-ruled (place.Client d) c own = search (rules, own)

abbrev pub timers : List (Place × ℕ) → List Event
timers seats = map (λ (seat : Place × ℕ). event.Timer seat.0 seat.1) seats

pub firings-ruled : (seats : List (Place × ℕ)) → AreRuled (timers (filter is_own_seat seats))
firings-ruled [] = tt
firings-ruled (seat ∷ seats) = go (firings-ruled seats) (is_own_seat seat) refl where
  go : AreRuled (timers (filter is_own_seat seats)) → (b : Bool) → is_own_seat seat ≡ b → AreRuled (timers (cond b (seat ∷ filter is_own_seat seats) (filter is_own_seat seats)))
  go later true own = (own-ruled seat.0 seat.1 own, later)
  go later false own = later

pub ruled-result : {E : Type 0} (result : Result (List Event) E) (fs : List Event) → IfOk result (λ es. es ≡ fs) → AreRuled fs → IfOk result AreRuled
ruled-result (Ok es) fs same h = subst AreRuled (sym same) h
ruled-result (Err e) fs same h = tt

-- ---- jobs

pub jobs-next : (m : Machine) (n more k : ℕ) → more ≡ suc k → jobs_from m n more ≡ jobs_at m n + jobs_from m (n + 1) k
jobs-next m n more k is = ap (jobs_from m n) is
