-- One more place is kept.
use Rattle.std.proofs.Common.{◌∙◌, ap, arith}
use Rattle.lard_sets.specs.Sets.{touched}
use Rattle.lard_dispatch.proofs.Places.{keep-next}
use Rattle.lard_dispatch.proofs.dispatch.keep_places.Goals as goal

pub loop-path-preserved : goal.loop-path-preserved
loop-path-preserved c =
    keep-next c.loop-path.sets c.args.sets.now c.touch.new.self c.args.paths.now c.places-count.result c.loop-path.path-index c.path-item.result
    c.loop-path.invariant.0 c.loop-path.invariant.1 c.loop-path.invariant.2 (omega arith) c.path-item.is (c.in-Ok.ensures.ok ∙ ap (touched c.loop-path.sets) c.as_slice.ensures)
