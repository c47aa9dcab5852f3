use Rattle.std.proofs.Common.{◌≡◌, ℕ, ◌+◌, List, true, false, None, Some, ap, subst, ⊎_elim, arith}
use Rattle.std.specs.Prelude.{slice_index}
use Rattle.lard_law_view.specs.Prelude.{own, spelled_message}
use Rattle.lard_message.specs.declared.message.Body.TheVariants as body
use Rattle.lard_rules.specs.Node.{message}
use Rattle.lard_refusals.specs.Packets.{ask_with_a_queue, second_ask}
use Rattle.lard_refusals.proofs.asks.asks_refuses.Goals as goal

pub returns-clause-job_behind_the_ask : goal.returns-clause-job_behind_the_ask
returns-clause-job_behind_the_ask c h = let e : true ≡ false = h.0.jobs_first.0 in cc

-- the last byte of the queue says three
not-three : (k size : ℕ) (paths : List (List ℕ)) → ask_with_a_queue ≡ message 1 2 (body.Ask (k + 1) 0 size paths) → ⊥
unfolding spelled_message
not-three k size paths e = let last : ◌≡◌ {A = ℕ} 3 0 = ap (λ (bytes : List ℕ). slice_index bytes 17) e in omega arith

pub returns-clause-queue_overstated : goal.returns-clause-queue_overstated
unfolding own
returns-clause-queue_overstated c h =
    ⊎_elim (λ again. let e : None ≡ Some ask_with_a_queue = again.0 in cc)
    (λ next. let n = next.0 in not-three n.0 n.1 n.2 n.4) (h.0.asks 1 1 2)

-- the last byte of the number says two
not-two : (size : ℕ) (paths : List (List ℕ)) → second_ask ≡ message 1 2 (body.Ask 1 0 size paths) → ⊥
unfolding spelled_message
not-two size paths e = let last : ◌≡◌ {A = ℕ} 2 1 = ap (λ (bytes : List ℕ). slice_index bytes 13) e in omega arith

pub returns-clause-asks_from_two : goal.returns-clause-asks_from_two
unfolding own
returns-clause-asks_from_two c h =
    ⊎_elim (λ again. let e : None ≡ Some second_ask = again.0 in cc)
    (λ next. let n = next.0 in not-two n.1 n.2 (subst (λ (k : ℕ). second_ask ≡ message 1 2 (body.Ask (k + 1) 0 n.1 n.2)) n.3 n.4)) (h.0.asks 1 1 2)
