-- A generated run that is done ended its settle with nothing left to do.
use Rattle.std.proofs.Common.{◌≡◌, ℕ, zero, suc, List, [], ◌∷◌, ◌++◌, Result, Ok, Err, refl, sym, ap, ◌∙◌, subst}
use Rattle.lard_law_view.specs.Prelude.{Event, Machine, StepFault}
use Rattle.lard_base.specs.declared.event.Event.TheVariants as event
use Rattle.lard_laws.specs.Records.{IsRunFile, IsScheduled}
use Rattle.lard_generate.specs.Generated.{generated}
use Rattle.lard_generate_bound.specs.Laws.{before_settle, generated_rounds}
use Rattle.lard_generate_bound.proofs.Reaching.{reach-the-bound, settles-last}
use Rattle.lard_history.proofs.Each.{Each}
use Rattle.lard_law_view.proofs.ByteLists.{each-all}
use Rattle.lard_settle.proofs.Enough.{settles-end-quiet}
use Rattle.lard_law_settles.proofs.Firing.{each-parts}
use Rattle.lard_settling.specs.declared.settled.Settled.{Settled}
use Rattle.lard_settling.specs.declared.settled.Settled.TheVariants.{Quiet}
use Rattle.lard_settling.specs.Events.{GoesThrough, MayCome, event_step, settled_to}
use Rattle.lard_settling.specs.Settling.{Stop, all_inner, settle_answer, closed_by, settle_left, rounds_from, settled, settled_from, takes}
use Rattle.lard_settling.specs.Steps.{settle_begun, settle_closed}
use Rattle.lard_app.specs.Generate.{EndsSettled, run_begins, large}
use Rattle.lard_app.proofs.Stopped.{settles-as}

-- ---- the last event

-- the last of some events was done behind all others
last-apart : (es : List Event) (e : Event) (m n : Machine) → GoesThrough m (es ++ e ∷ []) n → (k : Machine) × GoesThrough m es k × MayCome e × (event_step k e ≡ Ok n)
last-apart [] e m n g = (m, refl, g.1, g.2 ∙ ap (λ (k : Machine). Ok k) (sym g.3))
last-apart (d ∷ es) e m n g = let more = last-apart es e g.0 n g.3 in (more.0, (g.0, g.1, g.2, more.1), more.2, more.3)

-- a settle that leads on came to its end
comes-to : (x : Result (Machine × Settled) Stop) (n : Machine) → settled_to x ≡ Ok n → (s : Settled) × (x ≡ Ok (n, s))
comes-to (Ok (k, s)) n is = let same : k ≡ n = cc in (s, ap (λ (m : Machine). Ok (m, s)) same)
comes-to (Err stop) n is = cc

-- ---- how a settle is closed

-- where it ends with nothing left to do, its record says so, as the last
abbrev Closes : Result (Machine × Settled) Stop → Type 0
Closes (Ok (n, s)) = (done : ℕ) → s ≡ Quiet done → EndsSettled n.journal
Closes (Err stop) = Unit {0}

closing-ends : (m : Machine) (done remaining : ℕ) → Closes (Ok (settle_closed m done remaining, settle_answer done remaining))
closing-ends m done zero rounds is = (m.journal, done, refl)
closing-ends m done (suc remaining) rounds is = cc

closed-ends : (x : Result (Machine × ℕ) Stop) → Closes (closed_by x)
closed-ends (Err stop) = tt
closed-ends (Ok (n, done)) = closing-ends n done (settle_left n)

from-ends : (m : Machine) (rounds : ℕ) → Closes (settled_from m rounds)
from-ends m rounds = go (all_inner m (takes m)) where
  go : (x : Result Machine Stop) → Closes (elim x as (λ r. Result (Machine × Settled) Stop) [ Err stop ↦ Err stop | Ok n ↦ closed_by (rounds_from rounds 0 n) ])
  go (Err stop) = tt
  go (Ok n) = closed-ends (rounds_from rounds 0 n)

settled-ends : (m : Machine) (rounds : ℕ) → Closes (settled m rounds)
unfolding settled
settled-ends m rounds = go (settle_begun m rounds) where
  go : (x : Result Machine StepFault) → Closes (elim x as (λ r. Result (Machine × Settled) Stop) [ Err fault ↦ Err (m, fault) | Ok n ↦ settled_from n rounds ])
  go (Err fault) = tt
  go (Ok n) = from-ends n rounds

-- ---- a generated run

-- Its rounds reach the bound of the journal, so the settle leaves nothing.
pub ends-settled : (seed clients : ℕ) → Each IsRunFile (generated seed clients).files → Each IsScheduled (generated seed clients).events
    → (n : Machine) → GoesThrough (run_begins (generated seed clients)) (generated seed clients).events n → EndsSettled n.journal
ends-settled seed clients files given n goes =
    let es : List Event = before_settle seed clients in
    let rounds : ℕ = generated_rounds seed clients in
    let apart = last-apart es (event.Settle rounds) (run_begins (generated seed clients)) n (subst (λ (all : List Event). GoesThrough (run_begins (generated seed clients)) all n) (settles-last seed clients) goes) in
    let m : Machine = apart.0 in
    let before : Each IsScheduled es = (each-parts IsScheduled es (event.Settle rounds ∷ []) (subst (Each IsScheduled) (settles-last seed clients) given)).0 in
    let reaches = reach-the-bound seed clients large m apart.1 in
    let comes = comes-to (settled m rounds) n (sym (settles-as m (event.Settle rounds) rounds refl) ∙ apart.3) in
    let quiet = settles-end-quiet m rounds n comes.0 comes.1 large (generated seed clients).files refl (each-all IsRunFile (generated seed clients).files files) es (each-all IsScheduled es before) apart.1 reaches.1 reaches.0 in
    subst Closes comes.1 (settled-ends m rounds) quiet.0 quiet.1
