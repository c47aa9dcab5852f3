-- The node and the job are there.
use Rattle.std.proofs.Common.{[], ◌-◌, Ok, sym, ap, ◌∙◌, arith}
use Rattle.lard_base.specs.declared.event.Event.TheVariants as event
use Rattle.lard_rules.specs.Machine.{node_acts, node_at}
use Rattle.lard_rules.specs.declared.node.BackIn.TheVariants as back
use Rattle.lard_stepping.proofs.Numbered.{completes_is, job_there}
use Rattle.lard_stepping.proofs.disks.complete.Goals as goal

pub returns-clause-step : goal.returns-clause-step
returns-clause-step c =
    let m = c.args.machine.now in
    let s = c.node.result.now in
    let found = c.in-Some.ensures.some in
    completes_is m c.args.n (c.args.n - 1) c.args.j s found.0 found.2 (omega arith) c.node.ensures
    (job_there s c.args.j (omega (arith, c.if-j-eq0.false)) (omega (arith, c.if-len-j.false, c.len-len.ensures)))
    ∙ ap Ok (sym (c.in_ok-node_acts.ensures.ok ∙ ap (λ n. node_acts m (event.Disk c.args.n c.args.j) [] n (back.Disk c.args.j) (node_at m.nodes n)) found.1))
