-- The rounds so far and those of the next action are within the whole.
use Rattle.std.proofs.Common.{◌≡◌, ℕ, ◌+◌, ◌*◌, ◌≤◌, List, length, take, sym, ap, ◌∙◌, arith}
use Rattle.std.specs.Prelude.{sum_by}
use Rattle.std.proofs.lemmas.List.Sums.{sum_by_more_le}
use Rattle.std.proofs.lemmas.List.{take_all}
use Rattle.lard_generate.specs.declared.action.Action.{Action}
use Rattle.lard_generate.specs.Clients.{rounds}
use Rattle.lard_generate.specs.Rounds.{action_cost}
use Rattle.lard_generate.proofs.Costs.{rounds_by_cost}
use Rattle.lard_generate.proofs.rounds.rounds.Goals as goal

pub overflow_add-total-in-loop-action : goal.overflow_add-total-in-loop-action
overflow_add-total-in-loop-action c =
    let sizes = c.args.sizes.now in
    let actions = c.args.actions.now in
    let within = sum_by_more_le (action_cost sizes) actions c.loop-action.action-index c.action-item.result (omega arith) in
    let item = ap (action_cost sizes) c.action-item.is in
    omega (arith, within, item, c.cost-total.ensures, c.loop-action.invariant, rounds_by_cost c.args.clients sizes actions, c.requires.fits)

-- behind the last action it is the whole
whole : (n : ℕ) (clients i : ℕ) (sizes : List ℕ) (actions : List Action) → n ≡ 128 * (clients + 1) + sum_by (action_cost sizes) (take i actions) → length actions ≤ i
    → n ≡ rounds clients sizes actions
whole n clients i sizes actions e over = e ∙ ap (λ xs. 128 * (clients + 1) + sum_by (action_cost sizes) xs) (take_all i actions over) ∙ sym (rounds_by_cost clients sizes actions)

pub overflow_cast-result : goal.overflow_cast-result
overflow_cast-result c =
    omega (arith, c.requires.fits, whole c.loop-action.total c.args.clients c.loop-action.action-index c.args.sizes.now c.args.actions.now c.loop-action.invariant (omega arith))

pub returns : goal.returns
returns c = whole c.loop-action.total c.args.clients c.loop-action.action-index c.args.sizes.now c.args.actions.now c.loop-action.invariant (omega arith)
