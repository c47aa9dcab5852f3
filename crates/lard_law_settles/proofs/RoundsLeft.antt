-- Where something is to be done, something is left: a seat at which a timer is kept has one that runs.
use Rattle.std.proofs.Common.{◌≡◌, ◌≤◌, ℕ, ◌==◌, not, Bool, true, false, List, [], ◌∷◌, map, refl, arith}
use Rattle.std.proofs.lemmas.Bool.Decides.{nat_tests}
use Rattle.std.specs.FinMap.{entries, values}
use Rattle.lard_agenda.proofs.Kept.{nothing_idle}
use Rattle.lard_agenda.specs.Agenda.{agenda_of, firing, is_stalled, kinds_in, no_seats, rests, timers_left}
use Rattle.lard_agenda.specs.Kinds.{how_many, is_none}
use Rattle.lard_agenda.specs.declared.kinds.Kinds.{Kinds}
use Rattle.lard_agenda.specs.declared.kinds.Running.{Running}
use Rattle.lard_law_view.specs.Prelude.{Machine}
use Rattle.lard_history.proofs.Each.{Each}
use Rattle.lard_law_settles.proofs.SettlesFiring.{each-filter, each-map, entries-each}
use Rattle.lard_settling.specs.Settling.{is_quiet, jobs_left, settle_left}

-- a timer runs
abbrev IsRunning : Running → Type 0
IsRunning r = is_none r.kinds ≡ false

some-kind : (k : Kinds) → is_none k ≡ false → 1 ≤ how_many k
some-kind k some = grind (arith, some)

some-kinds : (rs : List Running) → Each IsRunning rs → no_seats (map (λ r. (r.place, r.c)) rs) ≡ false → 1 ≤ kinds_in rs
some-kinds [] all some = cc
some-kinds (r ∷ rs) all some = let one = some-kind r.kinds all.0 in omega (arith, one)

pub left-quiet : (m : Machine) → is_quiet m ≡ false → settle_left m ≡ 0 → ⊥
left-quiet m busy none = go (rests m.front.dispatch (agenda_of m.journal)) refl where
  timers : timers_left m.front.dispatch (agenda_of m.journal) ≡ 0
  timers = omega (arith, none)

  jobs : jobs_left m ≡ 0
  jobs = omega (arith, none)

  running : Each IsRunning (firing m.front.dispatch (agenda_of m.journal))
  running = each-filter IsRunning (λ r. not (is_stalled m.front.dispatch r)) (values (agenda_of m.journal).running)
      (each-map (λ (e : ℕ × Running). IsRunning e.1) IsRunning (λ (e : ℕ × Running). e.1) (λ e h. h) (entries (agenda_of m.journal).running)
      (entries-each (λ at r. IsRunning r) (agenda_of m.journal).running (λ at r is. (nothing_idle m.journal at r is).1)))

  go : (b : Bool) → rests m.front.dispatch (agenda_of m.journal) ≡ b → ⊥
  go true quiet = let none_left : (jobs_left m == 0) ≡ true = grind (arith, nat_tests, jobs) in cc
  go false quiet = let some = some-kinds (firing m.front.dispatch (agenda_of m.journal)) running quiet in absurd (omega (arith, some, timers))
