-- A settle with as many rounds as its journal's bound ends with nothing left, where each step of its rounds owes what rounds ask for.
use Rattle.std.proofs.Common.{◌≡◌, ◌≤◌, ℕ, suc, ◌+◌, ◌*◌, ◌-◌, true, List, Result, Ok, Err, refl, sym, ap, ◌∙◌, subst, arith}
use Rattle.lard_law_view.specs.Prelude.{Config, Machine, StepFault, file_at, which_leave}
use Rattle.lard_bound.proofs.Paying.{enough}
use Rattle.lard_bound.specs.Bound.{settling_bound}
use Rattle.lard_bound.specs.Units.{Whole, machine_units}
use Rattle.lard_law_settles.specs.CourseGame.{game}
use Rattle.lard_rounds.proofs.Ripening.{ripe-rests}
use Rattle.lard_rounds.specs.Rounds.{Owes, Round, Rounds}
use Rattle.lard_law_settles.proofs.EnoughAgendas.{closing-quiet, same-quiet}
use Rattle.lard_law_settles.proofs.EnoughBeside.{Beside, Is, all-beside}
use Rattle.lard_law_settles.proofs.EnoughRounds.{rounds-are}
use Rattle.lard_law_settles.proofs.EnoughSums.{AreModest, units-few, wholes}
use Rattle.lard_law_settles.proofs.SettlesFiring.{take-inner}
use Rattle.lard_law_settles.proofs.SettlesInside.{quiet-left}
use Rattle.lard_settling.specs.declared.settled.Settled.{Settled}
use Rattle.lard_settling.specs.declared.settled.Settled.TheVariants.{Quiet}
use Rattle.lard_settling.specs.Settling.{Stop, all_inner, settle_answer, closed_by, is_quiet, settle_left, rounds_from, settled, settled_from, takes}
use Rattle.lard_settling.specs.Steps.{settle_begun}
use Rattle.lard_settling.proofs.Written.{written}

-- nothing was left, after some rounds, and that is the answer
abbrev pub EndsQuiet : Machine → Settled → Type 0
EndsQuiet n s = (is_quiet n ≡ true) × (done : ℕ) × (s ≡ Quiet done)

module _ (config : Config) (files : List (List ℕ × List ℕ)) (m : Machine) (w : Is config files m) (rounds : ℕ) where
  -- what each client wrote before the settle
  abbrev pub all : ℕ → Whole
  all = wholes (file_at files) (which_leave m) m.journal

  -- What is owed: steps as rounds ask for where all that is on its way is as two rounds leave it; what holds where the clients took, and
  -- two rounds behind that; and how much may be left then.
  pub record SettlesBy (Begun Between Good : Machine → Type 0) : Type 0 where
    pub owes : Owes (game all Good) 5 3
    pub begins : (n t : Machine) (v : Is config files n) → settle_begun m rounds ≡ Ok n → (b : Beside config files n v (takes n) t) → Begun b.is.plain
    pub first : (p q : Machine) → Begun p → Round (game all Good) p q → Between q
    pub second : (p q : Machine) → Between p → Round (game all Good) p q → Good q
    pub modest : (p : Machine) → Good p → AreModest (file_at files) (which_leave m) m.journal p

  module _ (Begun Between Good : Machine → Type 0) (h : SettlesBy Begun Between Good) (paid : settling_bound (file_at files) m.journal ≤ rounds) where
    -- two rounds behind the takes few units are left
    few-left : (r : ℕ) → suc (suc r) ≡ rounds → (p : Machine) → Good p → (5 + 1 + 3) * (machine_units all p + 1) ≤ r
    few-left r is p good =
        let few = units-few (file_at files) (which_leave m) m.journal p (h.modest p good) in
        let pays : 9 * (machine_units all p + 1) + 2 ≤ settling_bound (file_at files) m.journal = enough _ _ _ (machine_units all p) few in
        omega (arith, is, pays, paid)

    comes-quiet : (r : ℕ) → suc (suc r) ≡ rounds → (p q : Machine) → Begun p → Rounds (game all Good) (suc (suc r)) p q → is_quiet q ≡ true
    comes-quiet r is p q begun on = ripe-rests (game all Good) 5 3 h.owes Begun Between r h.first
        (λ a b between round. let good = h.second a b between round in (good, few-left r is b good)) p q begun on

    -- there are two
    two-more : (r : ℕ) × (suc (suc r) ≡ rounds)
    two-more = let a = paid in (rounds - 2, omega (arith, a))

    rounds-quiet : (t n : Machine) (v : Is config files t) (done : ℕ) → Begun v.plain → rounds_from rounds 0 t ≡ Ok (n, done) → is_quiet n ≡ true
    rounds-quiet t n v done begun is =
        let on = rounds-are config files all Good rounds 0 t v n done is in
        let two = two-more in
        let quiet : is_quiet on.0.plain ≡ true = comes-quiet two.0 two.1 v.plain on.0.plain begun (subst (λ (r : ℕ). Rounds (game all Good) r v.plain on.0.plain) (sym two.1) on.1) in
        same-quiet config files n on.0 ∙ quiet

    abbrev Closes : Result (Machine × Settled) Stop → Type 0
    Closes (Ok (n, s)) = EndsQuiet n s
    Closes (Err stop) = Unit {0}

    closed-quiet : (t : Machine) (v : Is config files t) → Begun v.plain → (x : Result (Machine × ℕ) Stop) → rounds_from rounds 0 t ≡ x → Closes (closed_by x)
    closed-quiet t v begun (Err stop) is = tt
    closed-quiet t v begun (Ok (n, done)) is =
        let quiet = rounds-quiet t n v done begun is in
        (closing-quiet n done (settle_left n) ∙ quiet, done, ap (settle_answer done) (quiet-left n quiet))

    from-quiet : (n : Machine) (v : Is config files n) → settle_begun m rounds ≡ Ok n → Closes (settled_from n rounds)
    from-quiet n v began = go (all_inner n (takes n)) refl where
      go : (x : Result Machine Stop) → all_inner n (takes n) ≡ x → Closes (elim x as (λ r. Result (Machine × Settled) Stop) [ Err stop ↦ Err stop | Ok t ↦ closed_by (rounds_from rounds 0 t) ])
      go (Err stop) is = tt
      go (Ok t) is =
          let b : Beside config files n v (takes n) t = all-beside config files (takes n) n t v (take-inner _) is in
          closed-quiet t b.is (h.begins n t v began b) (rounds_from rounds 0 t) refl

    settle-quiet : Closes (settled m rounds)
    unfolding settled
    settle-quiet = go (settle_begun m rounds) refl where
      go : (x : Result Machine StepFault) → settle_begun m rounds ≡ x → Closes (elim x as (λ r. Result (Machine × Settled) Stop) [ Err fault ↦ Err (m, fault) | Ok n ↦ settled_from n rounds ])
      go (Err fault) is = tt
      go (Ok n) is = from-quiet n ((written config files).settle m n rounds w is) is

    pub settled-quiet : (n : Machine) (s : Settled) → settled m rounds ≡ Ok (n, s) → EndsQuiet n s
    settled-quiet n s is = subst Closes is settle-quiet
