-- Which events may come; and no event takes a record back.
use Rattle.std.proofs.Common.{◌≡◌, ◌+◌, ◌≤◌, List, ◌++◌, length, drop, None, Ok, refl, sym, ap, ◌∙◌, arith, length-append}
use Rattle.std.proofs.lemmas.Bool.Decides.{nat_tests}
use Rattle.std.proofs.Math.Seq.{drop-append_seam}
use Rattle.lard_law_view.specs.Prelude.{Event, HasRule, Machine, Rec, machine_step}
use Rattle.lard_base.specs.declared.event.Event.TheVariants as event
use Rattle.lard_base.specs.declared.place.Place.TheVariants as place
use Rattle.lard_settle.proofs.Runs.{GoesOn, step-goes-on}
use Rattle.lard_schedule.specs.Events.{IsInLineRange}
use Rattle.lard_settling.specs.Events.{MayCome, event_step}
use Rattle.lard_app.specs.Replay.{came_to}
use Rattle.lard_app.specs.Seen.{rounds_of}
use Rattle.lard_app.proofs.Events.{event-came}

-- an event that a line can have has a rule, if it is no settle
pub ruled : (e : Event) → rounds_of e ≡ None → IsInLineRange e → HasRule e
ruled (event.Open c isn iss wnd mss) m r = (r.3.0, r.4.0, r.4.1, omega (arith, r.3.1), r.1, r.2, (r.0.0, r.0.1))
ruled (event.Get c path) m r = tt
ruled (event.Write c bytes) m r = tt
ruled (event.Shut c) m r = tt
ruled (event.Abort c) m r = tt
ruled (event.Hold c) m r = tt
ruled (event.Take c) m r = tt
ruled (event.Deliver k) m r = tt
ruled (event.Lose k) m r = tt
ruled (event.Timer place.Front c) m r = tt
ruled (event.Timer (place.Client d) c) m r = let same = r.2 in grind (arith, nat_tests, same)
ruled (event.Timer (place.Node n) c) m r = tt
ruled (event.Disk n j) m r = tt
ruled (event.Drain n) m r = tt
ruled (event.Clock ms) m r = tt
ruled (event.Settle rounds) m r = cc
ruled (event.Inject c bytes) m r = (r.1.0, r.1.1)

-- an event that a line can have may come
pub may-come : (e : Event) → IsInLineRange e → MayCome e
may-come (event.Open c isn iss wnd mss) r = ruled (event.Open c isn iss wnd mss) refl r
may-come (event.Get c path) r = tt
may-come (event.Write c bytes) r = tt
may-come (event.Shut c) r = tt
may-come (event.Abort c) r = tt
may-come (event.Hold c) r = tt
may-come (event.Take c) r = tt
may-come (event.Deliver k) r = tt
may-come (event.Lose k) r = tt
may-come (event.Timer p c) r = ruled (event.Timer p c) refl r
may-come (event.Disk n j) r = tt
may-come (event.Drain n) r = tt
may-come (event.Clock ms) r = tt
may-come (event.Settle rounds) r = tt
may-come (event.Inject c bytes) r = ruled (event.Inject c bytes) refl r

-- the journal is the old one with some records after it
abbrev pub Grows : Machine → Machine → Type 0
Grows old new = new.journal ≡ old.journal ++ drop (length old.journal) new.journal

with_more : (J rs : List Rec) → J ++ rs ≡ J ++ drop (length J) (J ++ rs)
with_more J rs = ap (λ xs. J ++ xs) (sym (drop-append_seam J rs))

goes-grows : (m t : Machine) → GoesOn m t → Grows m t
goes-grows m t on = on.journal ∙ with_more m.journal on.more ∙ ap (λ (J : List Rec). m.journal ++ drop (length m.journal) J) (sym on.journal)

-- a step that is done
pub step-grows : (m t : Machine) (e : Event) → machine_step m e ≡ Ok t → Grows m t
step-grows m t e is = goes-grows m t (step-goes-on m t e is)

-- an event, done or not
pub event-grows : (m : Machine) (e : Event) → Grows m (came_to (event_step m e))
event-grows m e = goes-grows m (came_to (event_step m e)) (event-came m e)

-- so the journal is no shorter
pub grows-longer : (m t : Machine) → Grows m t → length m.journal ≤ length t.journal
grows-longer m t g =
    let longer : length t.journal ≡ length m.journal + length (drop (length m.journal) t.journal) = ap length g ∙ length-append m.journal (drop (length m.journal) t.journal) in
    omega (arith, longer)
