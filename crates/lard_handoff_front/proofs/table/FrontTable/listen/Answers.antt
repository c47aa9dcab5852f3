-- The first epoch is 1.
use Rattle.std.proofs.Common.{arith}
use Rattle.lard_handoff_front.specs.Front.{row_begun}
use Rattle.lard_handoff_front.proofs.Rows.{kept_or_same}
use Rattle.lard_handoff_front.proofs.table.FrontTable.listen.Goals as goal

pub invariant_of-self : goal.invariant_of-self
invariant_of-self c = kept_or_same c.self.inside.conns c.keep.new.conns c.number.result (row_begun c.in_ok-endpoint.endpoint) c.keep.result c.keep.ensures.ok c.keep.ensures.err c.self.invariant (record { stage = tt; epoch = omega arith })
