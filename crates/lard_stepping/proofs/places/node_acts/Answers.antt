-- The node's disk has few jobs, before the step and after it, and the node is the n-th.
use Rattle.std.proofs.Common.{◌-◌, length, arith}
use Rattle.lard_rules.specs.Speaking.{listed}
use Rattle.lard_stepping.proofs.Numbered.{node_told}
use Rattle.lard_stepping.proofs.Sound.{node_jobs, node_sound}
use Rattle.lard_stepping.proofs.places.node_acts.Goals as goal

pub step-requires-clause-few : goal.step-requires-clause-few
step-requires-clause-few c =
    omega (arith, node_jobs c.args.machine.now (c.number.result - 1) c.node_mut.result.now c.requires.sound c.node_mut.ensures.value, c.requires.room.records)

pub tell-requires-clause-sound : goal.tell-requires-clause-sound
tell-requires-clause-sound c =
    let m = c.args.machine.now in
    node_sound (length m.journal) (length c.in_ok-out.out.notes) m (c.number.result - 1) c.node_mut.result.now c.step.new.state c.requires.sound c.node_mut.ensures.value
    c.in_ok-out.ensures.sound c.in_ok-out.ensures.queue

pub returns-clause-ok : goal.returns-clause-ok
returns-clause-ok c =
    node_told c.tell.result c.args.machine.now c.tell.new.machine c.args.event (listed c.args.own) c.args.n c.number.result c.args.input c.node_mut.result.now c.step.new.state c.in_ok-out.out
    c.number.ensures.value c.number.ensures.range.0 c.node_mut.ensures.value c.in_ok-out.ensures.ok c.tell.ensures.ok
