-- One node more, or one that stops; after the last all did.
use Rattle.std.proofs.Common.{◌<◌, ◌≤◌, ◌-◌, ◌+◌, ◌∙◌, ℕ, Result, Err, arith, sym, subst}
use Rattle.std.proofs.lemmas.Result.{err_from_is_err_and}
use Rattle.lard_base.specs.declared.config.Config.{Config}
use Rattle.lard_rules.specs.declared.machine.Machine.{Machine}
use Rattle.lard_settling.specs.Settling.{DoesSettle, Stop}
use Rattle.lard_settle.proofs.Going.{node-on, node-stops, nodes-none}
use Rattle.lard_settle.proofs.Growth.{front-over}
use Rattle.lard_settle.proofs.rounds.nodes_complete.Goals as goal

pub returns-in_err-node_completes-clause-does : goal.returns-in_err-node_completes-clause-does
returns-in_err-node_completes-clause-does c =
    let now = c.loop-at.world.machine in
    let new = c.node_completes.new.world.machine in
    let fault = c.in_err-node_completes.field-0.0 in
    let at : ℕ = c.loop-at.at in
    let nodes : ℕ = c.args.world.now.machine.config.nodes in
    let less : at < nodes = subst (λ (q : Config). at < q.nodes) c.config.ensures c.loop-at-test.true in
    let p = err_from_is_err_and c.from_residual.result c.from_residual.ensures.1 in
    rw (p.1, p.2) (subst (λ (x : Result Machine Stop). DoesSettle x new (Err fault)) (sym c.loop-at.invariant.does)
    (node-stops now (at + 1) (nodes - at) (nodes - (at + 1)) (omega (arith, less)) new fault c.in_err-node_completes.ensures.does))

pub loop-at-preserved : goal.loop-at-preserved
loop-at-preserved c =
    let now = c.loop-at.world.machine in
    let new = c.node_completes.new.world.machine in
    let at : ℕ = c.loop-at.at in
    let nodes : ℕ = c.args.world.now.machine.config.nodes in
    let less : at < nodes = subst (λ (q : Config). at < q.nodes) c.config.ensures c.loop-at-test.true in
    let old = c.loop-at.invariant in record {
      does = old.does ∙ node-on now (at + 1) (nodes - at) (nodes - (at + 1)) (omega (arith, less)) new c.in_ok-node_completes.ensures.does;
      usable = c.in_ok-node_completes.ensures.usable;
      grows = front-over c.args.world.now.machine.journal now.journal new.journal old.grows c.in_ok-node_completes.ensures.grows;
      config = c.in_ok-node_completes.ensures.config ∙ old.config;
    }

pub returns-clause-does : goal.returns-clause-does
returns-clause-does c =
    let at : ℕ = c.loop-at.at in
    let nodes : ℕ = c.args.world.now.machine.config.nodes in
    let over : nodes ≤ at = subst (λ (q : Config). q.nodes ≤ at) c.config.ensures c.loop-at-test.false in
    c.loop-at.invariant.does ∙ nodes-none c.loop-at.world.machine (at + 1) (nodes - at) (omega (arith, over))
