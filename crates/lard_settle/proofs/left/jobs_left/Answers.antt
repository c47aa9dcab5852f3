-- One node more is counted.
use Rattle.std.proofs.Common.{◌<◌, ◌-◌, ◌+◌, ℕ, arith, subst}
use Rattle.lard_base.specs.declared.config.Config.{Config}
use Rattle.lard_settle.proofs.Ruled.{jobs-next}
use Rattle.lard_settle.proofs.left.jobs_left.Goals as goal

pub loop-at-preserved : goal.loop-at-preserved
loop-at-preserved c =
    let m = c.args.world.now.machine in
    let at : ℕ = c.loop-at.at in
    let less : at < m.config.nodes = subst (λ (q : Config). at < q.nodes) c.config.ensures c.loop-at-test.true in
    let next = jobs-next m (at + 1) (m.config.nodes - at) (m.config.nodes - (at + 1)) (omega (arith, less)) in
    let all = c.loop-at.invariant.count in
    let few = c.loop-at.invariant.few in
    let small = c.jobs.type_inv in
    let is = c.from-left.ensures in
    let jobs = c.jobs.ensures in record {
      count = omega (arith, next, all, is, jobs);
      few = omega (arith, few, is, small);
    }
