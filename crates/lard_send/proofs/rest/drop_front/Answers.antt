-- The first part has no byte left, and goes.
use Rattle.std.proofs.Common.{◌<◌, length, arith, sym, ◌∙◌}
use Rattle.std.proofs.lemmas.Bool.{ltb-true}
use Rattle.lard_send.proofs.Parts.{popped}
use Rattle.lard_send.proofs.rest.drop_front.Goals as goal

pub loop-first-preserved : goal.loop-first-preserved
loop-first-preserved c =
    let some : 0 < length c.loop-first.parts.items = ltb-true 0 (length c.loop-first.parts.items) (sym c.in-Some.ensures.item.0) in
    let p = popped c.loop-first.dropped c.loop-first.n c.as_slice.result.now c.in-Some.first.now c.loop-first.parts.items c.drop_first.new.parts.items some
    c.as_slice.ensures c.in-Some.ensures.lookup c.drop_first.ensures c.loop-first.invariant.wanted (omega (arith, c.if-n-left.false)) in
    record { wanted = p.0; small = omega arith; rest = p.1 ∙ c.loop-first.invariant.rest }
