-- Each turn adds one size that is drawn.
use Rattle.std.proofs.Common.{◌≡◌, ℕ, ◌+◌, List, [], ◌∷◌}
use Rattle.lard_generate.specs.Files.{drawn_size}
use Rattle.lard_generate.proofs.Making.{each_begins, each_goes_on}
use Rattle.lard_generate.proofs.files.sizes.Goals as goal

pub loop-i-init : goal.loop-i-init
loop-i-init c = each_begins drawn_size c.args.draws.now c.new-sizes.result c.new-sizes.ensures

pub loop-i-preserved : goal.loop-i-preserved
loop-i-preserved c =
    let size : List ℕ = (1 + c.draw.result) ∷ [] in
    let made : drawn_size (c.loop-i._i + 1) c.loop-i.draws ≡ (size, c.draw.new.draws) = cc in
    each_goes_on drawn_size c.loop-i._i c.args.draws.now c.loop-i.draws c.draw.new.draws c.loop-i.sizes size c.push.new.self c.loop-i.invariant made c.in_ok-push.ensures.ok
