-- Where the nodes stop, all does.
use Rattle.std.proofs.lemmas.Result.{err_from_is_err_and}
use Rattle.lard_settling.specs.Settling.{fired_since, nodes_complete}
use Rattle.lard_settle.proofs.Going.{stops}
use Rattle.lard_settle.proofs.Growth.{front-over, since-grows}
use Rattle.lard_settle.proofs.rounds.complete_since.Goals as goal

pub returns-in_err-nodes_complete-clause-does : goal.returns-in_err-nodes_complete-clause-does
returns-in_err-nodes_complete-clause-does c =
    let m = c.args.world.now.machine in
    let p = err_from_is_err_and c.from_residual.result c.from_residual.ensures.1 in
    rw (p.1, p.2) (stops (fired_since c.args.records) (since-grows c.args.records) (nodes_complete m 1 m.config.nodes) c.nodes_complete.new.world.machine c.in_err-nodes_complete.field-0.0 c.in_err-nodes_complete.ensures.does)

pub returns-clause-grows : goal.returns-clause-grows
returns-clause-grows c = front-over c.args.world.now.machine.journal c.nodes_complete.new.world.machine.journal c.fire_since.new.world.machine.journal c.in_ok-nodes_complete.ensures.grows c.fire_since.ensures.grows
