-- Each turn adds what becomes of one SYN.
use Rattle.std.proofs.Common.{◌≡◌, ◌+◌}
use Rattle.lard_generate.specs.Clients.{drawn_fate, fate_at}
use Rattle.lard_generate.proofs.Making.{each_begins, each_goes_on}
use Rattle.lard_generate.proofs.syns.fates.Goals as goal

pub loop-k-init : goal.loop-k-init
loop-k-init c = each_begins drawn_fate c.args.draws.now c.new-events.result c.new-events.ensures

pub loop-k-preserved : goal.loop-k-preserved
loop-k-preserved c =
    let made : drawn_fate (c.loop-k.k + 1) c.loop-k.draws ≡ (fate_at (c.loop-k.k + 1) c.draw.result, c.draw.new.draws) = cc in
    each_goes_on drawn_fate c.loop-k.k c.args.draws.now c.loop-k.draws c.draw.new.draws c.loop-k.events (fate_at (c.loop-k.k + 1) c.draw.result) c.push_fate.new.events c.loop-k.invariant made c.in_ok-push_fate.ensures
