-- Where only timers are left, the first of them sends what is near, or a unit goes.
use Rattle.std.proofs.Common.{◌≡◌, ◌<◌, ◌≤◌, ℕ, zero, suc, ◌^◌, Bool, true, false, List, [], ◌∷◌, ◌++◌, length, Option, Some, None, inl, inr, ⊎_elim, refl, sym, ap, ◌∙◌, subst, arith}
use Rattle.std.specs.Prelude.{◌⊎◌}
use Rattle.std.proofs.lemmas.Bool.{both_ways, cases_lt}
use Rattle.std.proofs.lemmas.Option.{slice_get_within}
use Rattle.std.specs.List.{AllByRecursion}
use Rattle.lard_agenda.specs.Agenda.{seat}
use Rattle.lard_agenda.specs.Laws.{NamesSeat}
use Rattle.lard_law_view.specs.Prelude.{Client, Conn, ControlBlock, Event, Front, HasTimer, IsConnNumber, Machine, Move, Node, NodeState, Place, Row, TimerKind, conn, front_armed, is_running, kept_at, line_waits, node_armed, node_at, part_of, station_armed}
use Rattle.lard_base.specs.declared.event.Event.TheVariants as event
use Rattle.lard_base.specs.declared.place.TimerKind.TheVariants as kind
use Rattle.lard_bound.specs.Seats.{Waiting, seat_of}
use Rattle.lard_bound.specs.Units.{Whole, machine_units}
use Rattle.lard_laws.specs.StepsTimers.{RunsAsKept}
use Rattle.lard_law_settles.specs.CourseGame.{game, seats_due}
use Rattle.lard_law_settles.proofs.CourseDelivering.{near-new, still}
use Rattle.lard_law_settles.proofs.CourseFirsts.{first-due, no-sooner}
use Rattle.lard_law_settles.proofs.CourseGoing.{IsPlain}
use Rattle.lard_law_settles.proofs.CourseLasting.{moves}
use Rattle.lard_law_view.proofs.Steps.{shown}
use Rattle.lard_law_settles.proofs.CourseOwing.{IsFirst, IsStep}
use Rattle.lard_history.proofs.Seeing.{one-mine}
use Rattle.lard_journal.specs.declared.rec.Rec.TheVariants as rec
use Rattle.lard_rounds.specs.Rounds.{Nearer}

-- What is known of timers within a settle: they run as each place keeps them, their records name seats, there are no more nodes than have
-- seats, and one that waits is in the line.
pub record Timers (m : Machine) : Type 0 where
  pub kept : (c : ℕ) → RunsAsKept m c
  pub seats : AllByRecursion NamesSeat m.journal
  pub few : m.config.nodes ≤ 64
  pub nodes : length m.nodes ≡ m.config.nodes
  pub line : (c : ℕ) (b : ControlBlock) (count : ℕ) → seat_of (part_of m c) ≡ Waiting b count → line_waits m.front.dispatch.books.line c ≡ true

off-if : (b : Bool) → (b ≡ true → ⊥) → b ≡ false
off-if true h = absurd (h refl)
off-if false h = refl

no-sooner-front : (i c : ℕ) → 1 ≤ i → seat (Node i) c ≤ seat Front c → ⊥
no-sooner-front i c some h = omega (arith, some, h)

no-sooner-client-front : (d c : ℕ) → 1 ≤ d → seat (Client d) c ≤ seat Front c → ⊥
no-sooner-client-front d c some h = omega (arith, some, h)

no-sooner-client-node : (d i c : ℕ) → 1 ≤ d → i ≤ 64 → seat (Client d) c ≤ seat (Node i) c → ⊥
no-sooner-client-node d i c some few h = omega (arith, some, few, h)

-- a node that keeps something is there
there-within : (nodes : List NodeState) (i : ℕ) (s : NodeState) → node_at nodes i ≡ Some s → (1 ≤ i) × (i ≤ length nodes)
there-within nodes zero s e = absurd (let bad : None ≡ Some s = e in cc)
there-within nodes (suc i) s e = let low = slice_get_within nodes i s e in (omega arith, omega (arith, low))

module _ (m : Machine) (t : Timers m) (c : ℕ) where
  front-kept : (kind : TimerKind) → is_running m.journal Front c kind ≡ front_armed (part_of m c).front kind
  front-kept kind = t.kept c Front tt kind

  node-kept_ : (i : ℕ) (kind : TimerKind) → is_running m.journal (Node i) c kind ≡ node_armed ((part_of m c).nodes i) kind
  node-kept_ i kind = t.kept c (Node i) tt kind

  nothing-armed : (kind : TimerKind) → node_armed (kept_at c None) kind ≡ false
  nothing-armed kind.Tcp = refl
  nothing-armed _ = refl

  module _ (p : Place) (more : List (Place × ℕ)) (due_ : seats_due m ≡ (p, c) ∷ more) (low : c < 2 ^ 16) where
    -- no timer of the front end runs for it, where the first is at another place
    front-off : (seat p c ≤ seat Front c → ⊥) → (kind : TimerKind) → front_armed (part_of m c).front kind ≡ false
    front-off later kind = off-if (front_armed (part_of m c).front kind)
        (λ on. later (no-sooner m.front.dispatch m.journal t.seats p c more due_ Front c kind (tt, low) refl (front-kept kind ∙ on) refl))

    node-off : ((i : ℕ) → 1 ≤ i → i ≤ 64 → seat p c ≤ seat (Node i) c → ⊥) → (i : ℕ) (kind : TimerKind) → node_armed ((part_of m c).nodes i) kind ≡ false
    unfolding part_of
    node-off later i kind = go (node_at m.nodes i) refl where
      go : (o : Option NodeState) → node_at m.nodes i ≡ o → node_armed (kept_at c (node_at m.nodes i)) kind ≡ false
      go None at = ap (λ o. node_armed (kept_at c o) kind) at ∙ nothing-armed kind
      go (Some s) at =
          let within = there-within m.nodes i s at in
          let some : 1 ≤ i = within.0 in
          let all : i ≤ length m.nodes = within.1 in
          let few : i ≤ 64 = (let a = t.nodes in let b = t.few in omega (arith, a, b, all)) in
          off-if (node_armed (kept_at c (node_at m.nodes i)) kind)
          (λ on. later i some few (no-sooner m.front.dispatch m.journal t.seats p c more due_ (Node i) c kind ((some, few), low) refl (node-kept_ i kind ∙ on) refl))

  is-first : (p : Place) (more : List (Place × ℕ)) → HasTimer p c → seats_due m ≡ (p, c) ∷ more → IsFirst (part_of m c) p
  is-first Front more has due_ =
      let d = first-due m.front.dispatch m.journal t.seats Front c more due_ in
      (d.1.0, sym (front-kept d.1.0) ∙ d.1.1)
  is-first (Node i) more has due_ =
      let d = first-due m.front.dispatch m.journal t.seats (Node i) c more due_ in
      (d.1.0, sym (node-kept_ i d.1.0) ∙ d.1.1, front-off (Node i) more due_ d.0.1 (no-sooner-front i c d.0.0.0))
  is-first (Client e) more has due_ =
      let d = first-due m.front.dispatch m.journal t.seats (Client e) c more due_ in (
        client-on e d.1.0 has d.1.1,
        front-off (Client e) more due_ d.0.1 (no-sooner-client-front e c d.0.0),
        node-off (Client e) more due_ d.0.1 (λ i some few. no-sooner-client-node e i c d.0.0 few),
        λ b count waits_. both_ways (line_waits m.front.dispatch.books.line c) d.2 (t.line c b count waits_),
      )
    where
      client-on : (e : ℕ) (kind : TimerKind) → HasTimer (Client e) c → is_running m.journal (Client e) c kind ≡ true → station_armed (part_of m c).station ≡ true
      client-on e kind.Tcp has run = sym (t.kept c (Client e) has kind.Tcp) ∙ run
      client-on e kind.Offer has run = absurd (both_ways false refl (sym (t.kept c (Client e) has kind.Offer) ∙ run))
      client-on e kind.Ask has run = absurd (both_ways false refl (sym (t.kept c (Client e) has kind.Ask) ∙ run))
      client-on e kind.Fetch has run = absurd (both_ways false refl (sym (t.kept c (Client e) has kind.Fetch) ∙ run))
      client-on e kind.Ended has run = absurd (both_ways false refl (sym (t.kept c (Client e) has kind.Ended) ∙ run))
      client-on e kind.Give has run = absurd (both_ways false refl (sym (t.kept c (Client e) has kind.Give) ∙ run))

-- ---- the step

module _ (Given : Conn → Type 0) (Came : Conn → Move → Type 0) (Good : Machine → Type 0) (all : ℕ → Whole) (m n : Machine) (p : Place) (c : ℕ) (s : IsStep Given Came all m n (event.Timer p c)) (plain : IsPlain m n)
    (t : Timers m) (more : List (Place × ℕ)) (has : HasTimer p c) (due_ : seats_due m ≡ (p, c) ∷ more) where
  abbrev e : Event
  e = event.Timer p c

  its-shown : shown m e c ≡ Row (rec.Event 0 e) ∷ []
  its-shown = ap (λ l. l ++ []) (one-mine c (Some c) (Row (rec.Event 0 e)) refl)

  named : (conn m c).c ≡ c
  unfolding conn
  named = refl

  first-here : IsFirst (conn m c).part p
  unfolding conn
  first-here = is-first m t c p more has due_

  pub begins-near : (machine_units all n < machine_units all m) ⊎ Nearer (game all Good) n 0 3
  begins-near = ⊎_elim
      (λ (falls : machine_units all n < machine_units all m). inl falls)
      (λ (up : machine_units all m ≤ machine_units all n).
      let h = moves Given Came all m n e s c (Row (rec.Event 0 e)) its-shown in
      let number : IsConnNumber c = subst IsConnNumber named h.shown.number in
      let heads : h.move.heads ≡ Row (rec.Event 0 (event.Timer p (conn m c).c)) ∷ [] =
      h.shown.heads ∙ ap (λ (q : ℕ). shown m e q) named ∙ its-shown ∙ ap (λ (q : ℕ). Row (rec.Event 0 (event.Timer p q)) ∷ []) (sym named) in
      let near = h.leads.fires p heads first-here (still Given Came Good all m n e s plain up c number h) in
      let x = near-new Given Came Good all m n e s plain c number h 3 near in
      let late = x.is_new in
      inr (record { number = x.number; is_new = omega (arith, late); waits = x.waits; leads = x.leads }))
      (cases_lt (machine_units all n) (machine_units all m))
