-- Each timer that runs is its place's own, so that where none fires none is due; and each packet that is on its way was sent.
use Rattle.std.proofs.Common.{◌≡◌, ◌≤◌, ℕ, ◌-◌, ◌==◌, nat_eq, Bool, true, false, cond, not, List, [], ◌∷◌, filter, Some, None, length, refl, sym, ap, ◌∙◌, arith}
use Rattle.std.specs.Prelude.{slice_get}
use Rattle.std.proofs.lemmas.Option.{slice_get_within}
use Rattle.std.specs.FinMap.{FinMap, entries, values}
use Rattle.std.specs.Ordering.{nat_cmp}
use Rattle.lard_agenda.specs.Agenda.{agenda_of, due, free_of, is_stalled, no_seats, rests}
use Rattle.lard_agenda.specs.Laws.{is_on_way}
use Rattle.lard_agenda.specs.declared.kinds.Running.{Running}
use Rattle.lard_law_view.specs.Prelude.{Client, Config, Front, HasTimer, IsReached, Machine, Node, Packet, Place, Rec, packet_at}
use Rattle.lard_laws.proofs.StepsLinking.{reached-linked}
use Rattle.lard_law_settles.specs.CourseGame.{seats_due}
use Rattle.lard_history.proofs.Each.{Each, Each-weaker}
use Rattle.lard_history.proofs.Seeing.{same_number}
use Rattle.lard_journal.specs.declared.rec.Rec.TheVariants as rec
use Rattle.lard_law_settles.proofs.SettlesFiring.{IsTimed, OfTimer, agenda-timed, each-filter, each-map, entries-each}
use Rattle.lard_law_settles.proofs.SettlesKeeping.{HasPacket}
use Rattle.lard_law_settles.proofs.SettlesPackets.{on-way-there}
use Rattle.lard_law_settles.proofs.SettlesSeats.{AreNamed, IsNamed, named-always}
use Rattle.lard_settling.specs.Settling.{is_own_seat, is_own_at}

-- ---- timers

abbrev Own : Place × ℕ → Type 0
Own seat = HasTimer seat.0 seat.1

named-timer : (r : Rec) → IsNamed r → OfTimer HasTimer r
named-timer (rec.Armed p c kind) h = h.0
named-timer (rec.Cleared p c kind) h = h.0
named-timer _ h = tt

own-is : (p : Place) (c : ℕ) → HasTimer p c → is_own_at p c ≡ true
own-is Front c h = refl
own-is (Node n) c h = refl
own-is (Client d) c h = ap (λ i. nat_eq i c) h ∙ same_number c

own-none : (seats : List (Place × ℕ)) → Each Own seats → filter is_own_seat seats ≡ [] → no_seats seats ≡ true
own-none [] all none = refl
own-none (s ∷ seats) all none =
    let own : is_own_seat s ≡ true = own-is s.0 s.1 all.0 in
    let some : s ∷ filter is_own_seat seats ≡ [] = sym (ap (λ b. cond b (s ∷ filter is_own_seat seats) (filter is_own_seat seats)) own) ∙ none in absurd cc

module _ (config : Config) (files : List (List ℕ × List ℕ)) (m : Machine) (r : IsReached config files m) where
  all-own : Each Own (due m.front.dispatch (agenda_of m.journal))
  all-own =
      let Is : Running → Type 0 = λ r. IsTimed HasTimer r in
      let running : FinMap nat_cmp Running = (agenda_of m.journal).running in
      let named : AreNamed m.journal = named-always config files m r in
      let timers : Each (OfTimer HasTimer) m.journal = Each-weaker IsNamed (OfTimer HasTimer) named-timer m.journal named in
      let kept = entries-each (λ at x. IsTimed HasTimer x) running (agenda-timed HasTimer m.journal timers) in
      let each : Each Is (values running) = each-map (λ (e : ℕ × Running). Is e.1) Is (λ (e : ℕ × Running). e.1) (λ e h. h) (entries running) kept in
      let free : Each Is (free_of m.front.dispatch (values running)) = each-filter Is (λ x. not (is_stalled m.front.dispatch x)) (values running) each in
      each-map Is Own (λ (x : Running). (x.place, x.c)) (λ x h. h) (free_of m.front.dispatch (values running)) free

  -- where no seat is due that is its place's own, none is
  pub due-owned : seats_due m ≡ [] → rests m.front.dispatch (agenda_of m.journal) ≡ true
  due-owned none = own-none (due m.front.dispatch (agenda_of m.journal)) all-own none

  -- ---- packets

  packet-known : (net : List Packet) (k : ℕ) (p : Packet) → packet_at net k ≡ Some p → k ≤ length net
  packet-known net k p = go (k == 0) where
    go : (b : Bool) → cond b None (slice_get net (k - 1)) ≡ Some p → k ≤ length net
    go true e = let no : None ≡ Some p = e in absurd cc
    go false e = let within = slice_get_within net (k - 1) p e in omega (arith, within)

  pub way-there : (k : ℕ) → is_on_way m.journal k ≡ true → HasPacket m.net k
  way-there k on = let linked = reached-linked config files m r in on-way-there k m.journal m.net linked.each linked.is on

  pub way-known : (k : ℕ) → is_on_way m.journal k ≡ true → k ≤ length m.net
  way-known k on = let p = way-there k on in packet-known m.net k p.0 p.1
