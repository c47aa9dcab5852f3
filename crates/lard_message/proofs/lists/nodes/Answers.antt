-- A node more, the end by a byte that is none, and the end of all.
use Rattle.std.proofs.lemmas.Result.{err_from_is_err_and}
use Rattle.lard_message.specs.Reading.{nodes_of}
use Rattle.lard_message.proofs.Loops.{node_more, node_stops, nodes_done}
use Rattle.lard_message.proofs.lists.nodes.Goals as goal

pub returns-in_err-node : goal.returns-in_err-node
returns-in_err-node c =
    let p = err_from_is_err_and c.from_residual.result c.from_residual.ensures.1 in
    rw (p.1, p.2) (node_stops c.in_err-node.field-0.0 c.loop-byte.nodes c.args.bytes.now c.loop-byte.byte-index (nodes_of c.args.bytes.now) c.loop-byte-test.true c.in_err-node.ensures c.loop-byte.invariant)

pub loop-byte-preserved : goal.loop-byte-preserved
loop-byte-preserved c = rw c.in_ok-push.ensures.ok (node_more c.loop-byte.nodes c.args.bytes.now c.loop-byte.byte-index c.in_ok-node.field-0 (nodes_of c.args.bytes.now) c.loop-byte-test.true c.in_ok-node.ensures c.loop-byte.invariant)

pub returns : goal.returns
returns c = nodes_done c.loop-byte.nodes c.args.bytes.now c.loop-byte.byte-index (nodes_of c.args.bytes.now) c.loop-byte-test.false c.loop-byte.invariant
