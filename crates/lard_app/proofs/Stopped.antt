-- What comes of an event, a step or a settle, done or not, and what was written of it.
use Rattle.std.proofs.Common.{◌≡◌, ◌≢◌, ℕ, ◌≤◌, List, [], length, drop, Option, Some, Result, Ok, Err, OnOk, refl, sym, ap, subst}
use Rattle.std.proofs.KnownBytes.{Appends-nil}
use Rattle.std.specs.List.{flat_map}
use Rattle.lard_agenda.specs.Agenda.{IsAgendaOf}
use Rattle.lard_agenda.specs.Laws.{AgendasGoOn}
use Rattle.lard_agenda.specs.declared.agenda.Agenda.{Agenda}
use Rattle.lard_law_view.specs.Prelude.{Event, Machine, StepFault, Steps, WrotePrefix, machine_step, rec_line}
use Rattle.lard_base.specs.declared.event.Event.TheVariants as event
use Rattle.lard_rules.specs.declared.fault.StepFault.TheVariants as fault
use Rattle.lard_settling.specs.Events.{event_step, settled_to}
use Rattle.lard_settling.specs.Settling.{Stop, settled}
use Rattle.lard_app.specs.declared.status.Status.{Status}
use Rattle.lard_app.specs.Generate.{Happens}
use Rattle.lard_app.specs.Replay.{PassesLine, Progress, came_to, ended_by, event_gain}
use Rattle.lard_app.specs.Seen.{DoesEvent, StopsAtLine, rounds_of}
use Rattle.lard_app.proofs.Steps.{Grows, event-grows, grows-longer, step-grows}

-- ---- kinds of events

pub settles-as : (m : Machine) (e : Event) (rounds : ℕ) → rounds_of e ≡ Some rounds → event_step m e ≡ settled_to (settled m rounds)
unfolding event_step
settles-as m (event.Settle r) rounds is = let same : r ≡ rounds = cc in ap (λ n. settled_to (settled m n)) same
settles-as m (event.Open c isn iss wnd mss) rounds is = cc
settles-as m (event.Get c path) rounds is = cc
settles-as m (event.Write c bytes) rounds is = cc
settles-as m (event.Shut c) rounds is = cc
settles-as m (event.Abort c) rounds is = cc
settles-as m (event.Hold c) rounds is = cc
settles-as m (event.Take c) rounds is = cc
settles-as m (event.Deliver k) rounds is = cc
settles-as m (event.Lose k) rounds is = cc
settles-as m (event.Timer p c) rounds is = cc
settles-as m (event.Disk n j) rounds is = cc
settles-as m (event.Drain n) rounds is = cc
settles-as m (event.Clock ms) rounds is = cc
settles-as m (event.Inject c bytes) rounds is = cc

-- ---- what came of an event was written

-- ---- what comes of an event, done or not

-- an agenda of the journal is one of it still
pub step-agenda : (a : Agenda) (m n : Machine) (e : Event) (r : Result (Unit {0}) StepFault) → AgendasGoOn → IsAgendaOf a m.journal → Steps (machine_step m e) m n r → OnOk r (IsAgendaOf a n.journal)
step-agenda a m n e (Ok done) on is h = subst (IsAgendaOf a) (sym (step-grows m n e h)) (on a m.journal (drop (length m.journal) n.journal) is)
step-agenda a m n e (Err f) on is h = tt

-- where it was not done, and not for want of memory, so far it came
pub event-stopped : (given : Result Machine Stop) (n : Machine) (f : StepFault) → f ≢ fault.NoMemory → Happens given n (Err f) → given ≡ Err (n, f)
event-stopped given n fault.NoMemory some h = absurd (some refl)
event-stopped given n (fault.Refused reason) some h = h
event-stopped given n (fault.Limit what) some h = h

-- what was written then
pub stops-does : (s t : Progress) (n : Machine) (given : Result Machine Stop) (old new : Option (List ℕ)) (f : StepFault) (status : Status) (from : ℕ) → from ≡ length s.machine.journal
    → Happens given n (Err f) → StopsAtLine f s.lines (flat_map rec_line (drop from n.journal)) old new status → DoesEvent given s old new t (Err status)
stops-does s t n given old new f status from at done stops = go f done stops where
  same : (g : StepFault) → given ≡ Err (n, g) → ((u : Progress) → PassesLine (Err (ended_by s.lines g)) (flat_map rec_line (drop from n.journal)) old new u (Err status)) → DoesEvent given s old new t (Err status)
  same g e h = subst (λ (x : Result Machine Stop). DoesEvent x s old new t (Err status)) (sym e)
      (subst (λ i. PassesLine (Err (ended_by s.lines g)) (flat_map rec_line (drop i n.journal)) old new t (Err status)) at (h t))

  go : (g : StepFault) → Happens given n (Err g) → StopsAtLine g s.lines (flat_map rec_line (drop from n.journal)) old new status → DoesEvent given s old new t (Err status)
  go fault.NoMemory d h = subst (λ (x : Status). DoesEvent given s old new t (Err x)) (sym h.0) (subst (λ (b : Option (List ℕ)). WrotePrefix old b (event_gain s.machine (came_to given))) (sym h.1) (record { front = []; rest = _; is = refl; written = Appends-nil old }))
  go (fault.Refused reason) d h = same (fault.Refused reason) d h
  go (fault.Limit what) d h = same (fault.Limit what) d h

-- ---- a journal that is no shorter

pub event-longer : (m n : Machine) (e : Event) → event_step m e ≡ Ok n → length m.journal ≤ length n.journal
event-longer m n e is = grows-longer m n (subst (λ (x : Result Machine Stop). Grows m (came_to x)) is (event-grows m e))

pub stopped-longer : (m n : Machine) (e : Event) (f : StepFault) → f ≢ fault.NoMemory → Happens (event_step m e) n (Err f) → length m.journal ≤ length n.journal
stopped-longer m n e f some h = grows-longer m n (subst (λ (x : Result Machine Stop). Grows m (came_to x)) (event-stopped (event_step m e) n f some h) (event-grows m e))
