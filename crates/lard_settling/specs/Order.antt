-- Which steps belong to which settle, in words of the journal alone: what may stand behind what.
use Rattle.std.specs.Prelude.{◌≡◌, ◌≤◌, ℕ, List, [], ◌∷◌, Option, Some, None, IsSome}
use Rattle.lard_law_view.specs.Prelude.{Event, Rec}
use Rattle.lard_base.specs.declared.event.Event.TheVariants as event
use Rattle.lard_journal.specs.declared.rec.Rec.TheVariants as rec

-- ---- where a journal is

-- Behind a record a journal is at no step, in the step of an event of the schedule, behind the event of a settle of so many rounds, or in
-- an inner step of that settle.
pub data Phase : Type 0 where
  Nothing : Phase
  Outside : Phase
  Begun : (rounds : ℕ) → Phase
  Inside : (rounds : ℕ) → Phase

-- an event of the schedule begins its step, or a settle
abbrev pub phase_at : Event → Phase
phase_at (event.Settle rounds) = Begun rounds
phase_at _ = Outside

-- one more inner step of the settle that is open
abbrev pub further : Phase → Phase
further (Begun rounds) = Inside rounds
further (Inside rounds) = Inside rounds
further Outside = Outside
further Nothing = Nothing

-- a record more: one that begins a step or closes a settle leads on, and all else stands in the step that it was told in
abbrev pub phase_step : Phase → Rec → Phase
phase_step p (rec.Event i e) = phase_at e
phase_step p (rec.Inner e) = further p
phase_step p (rec.Settled done) = Nothing
phase_step p (rec.Unsettled done left) = Nothing
phase_step p _ = p

-- for how many rounds the settle is that is open, where one is
abbrev pub open_settle : Phase → Option ℕ
open_settle Nothing = None
open_settle Outside = None
open_settle (Begun rounds) = Some rounds
open_settle (Inside rounds) = Some rounds

-- ---- what may stand there

-- In an inner step a client takes, a packet is delivered, the first job of a node is completed, or timers fire.
abbrev pub MayBeInner : Event → Type 0
MayBeInner (event.Take c) = Unit {0}
MayBeInner (event.Deliver k) = Unit {0}
MayBeInner (event.Disk n j) = j ≡ 1
MayBeInner (event.Timer p c) = Unit {0}
MayBeInner _ = ⊥

-- what is told in a step stands in one
abbrev pub IsInStep : Phase → Type 0
IsInStep Nothing = ⊥
IsInStep Outside = Unit {0}
IsInStep (Begun rounds) = ⊥
IsInStep (Inside rounds) = Unit {0}

-- An event of the schedule stands where no settle is open, and an inner step where one is. A settle that is open is closed: nothing was
-- left after at most as many rounds as its event names, or something after exactly so many.
abbrev pub MayStandInPhase : Phase → Rec → Type 0
MayStandInPhase p (rec.Event i e) = open_settle p ≡ None
MayStandInPhase p (rec.Inner e) = IsSome (open_settle p) × MayBeInner e
MayStandInPhase p (rec.Settled done) = (rounds : ℕ) × (open_settle p ≡ Some rounds) × (done ≤ rounds)
MayStandInPhase p (rec.Unsettled done left) = (open_settle p ≡ Some done) × (1 ≤ left)
MayStandInPhase p _ = IsInStep p

-- each record may stand where it does, from a phase on
abbrev pub AllStand : Phase → List Rec → Type 0
AllStand p [] = Unit {0}
AllStand p (r ∷ rs) = MayStandInPhase p r × AllStand (phase_step p r) rs

-- Settles stand in order: between the event of a settle and the one record that closes it stand its inner steps, with what was told in
-- them, and no other event of the schedule. Outside of settles stands no inner step and no closing record. The last settle may be open.
abbrev pub SettlesInOrder : List Rec → Type 0
SettlesInOrder J = AllStand Nothing J
