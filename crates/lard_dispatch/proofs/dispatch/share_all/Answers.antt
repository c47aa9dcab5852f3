-- One more path is assigned.
use Rattle.std.proofs.Common.{◌≡◌, ℕ, ◌+◌, ◌<◌, List, length, get_or, sym, subst, ◌∙◌, ap, arith}
use Rattle.lard_loads.specs.Tally.{Tally, shared}
use Rattle.lard_costs.specs.declared.later.LaterChoice.{LaterChoice}
use Rattle.lard_dispatch.specs.Calls.{joined, later_choice_at, unlined}
use Rattle.lard_dispatch.specs.Sound.{IsNode}
use Rattle.lard_dispatch.proofs.Servers.{Sets}
use Rattle.lard_dispatch.proofs.Sharing.{IsSharing, next-path}
use Rattle.lard_dispatch.proofs.dispatch.share_all.Goals as goal

pub loop-path-preserved : goal.loop-path-preserved
loop-path-preserved c =
    let node : IsNode c.args.loads.now.nodes c.args.ask.now.home = (omega (arith, c.number-number.ensures.value, c.number-number.ensures.range), c.requires.at_node) in
    let count : length c.as_slice-path-items.result.now ≡ length c.args.ask.now.paths = ap length c.as_slice-path-items.ensures in
    let lt : c.loop-path.path-index < length c.args.ask.now.paths = omega (arith, count) in
    let at : c.path-item.result ≡ get_or c.args.ask.now.paths c.loop-path.path-index c.path-item.result =
    c.path-item.is ∙ ap (λ (ps : List (List ℕ)). get_or ps c.loop-path.path-index c.path-item.result) c.as_slice-path-items.ensures in
    let made : c.share-choice.result ≡ later_choice_at c.args.config.now (unlined c.loop-path.loads c.loop-path.sets) c.args.ask.now c.path-item.result =
    c.share-choice.ensures.choice ∙ ap (later_choice_at c.args.config.now (unlined c.loop-path.loads c.loop-path.sets) c.args.ask.now) c.as_slice-path.ensures in
    let next = next-path c.args.config.now c.args.ask.now c.args.now c.args.loads.now c.args.sets.now c.args.choices.now.items c.loop-path.path-index c.loop-path.loads c.loop-path.sets
    c.loop-path.choices.items c.path-item.result c.share-choice.result c.loop-path.invariant.0 node lt at made in
    let into : c.join.new.sets ≡ joined c.loop-path.sets c.path-item.result c.share-choice.result.add c.args.now =
    c.join.ensures ∙ ap (λ (p : List ℕ). joined c.loop-path.sets p c.share-choice.result.add c.args.now) c.as_slice-path.ensures in (
      subst (λ (t : Tally). IsSharing c.args.config.now c.args.ask.now c.args.now c.args.loads.now c.args.sets.now c.args.choices.now.items (c.loop-path.path-index + 1) t c.join.new.sets c.push_reserved.new.self.items) (sym c.share-choice.ensures.loads)
          (subst (λ (s : Sets). IsSharing c.args.config.now c.args.ask.now c.args.now c.args.loads.now c.args.sets.now c.args.choices.now.items (c.loop-path.path-index + 1) (shared c.loop-path.loads c.args.ask.now.c c.share-choice.result.node c.args.ask.now.size) s c.push_reserved.new.self.items) (sym into)
          (subst (λ (cs : List LaterChoice). IsSharing c.args.config.now c.args.ask.now c.args.now c.args.loads.now c.args.sets.now c.args.choices.now.items (c.loop-path.path-index + 1) (shared c.loop-path.loads c.args.ask.now.c c.share-choice.result.node c.args.ask.now.size) (joined c.loop-path.sets c.path-item.result c.share-choice.result.add c.args.now) cs) (sym c.push_reserved.ensures.items) next)),
      omega (arith, lt, c.push_reserved.ensures.len, c.push_reserved.ensures.capacity, c.loop-path.invariant.1),
    )
