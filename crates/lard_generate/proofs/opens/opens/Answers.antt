-- Each turn adds the opening of one client.
use Rattle.std.proofs.Common.{◌≡◌, ◌+◌, [], ◌∷◌, sym, ap, ◌∙◌}
use Rattle.lard_generate.specs.Clients.{drawn_open}
use Rattle.lard_generate.proofs.Making.{each_begins, each_goes_on}
use Rattle.lard_generate.proofs.opens.opens.Goals as goal

pub loop-k-init : goal.loop-k-init
loop-k-init c = each_begins drawn_open c.args.draws.now c.new-events.result c.new-events.ensures

pub loop-k-preserved : goal.loop-k-preserved
loop-k-preserved c =
    let made : drawn_open (c.loop-k.k + 1) c.loop-k.draws ≡ (c.open.result ∷ [], c.open.new.draws) = ap (λ n. drawn_open n c.loop-k.draws) (sym c.client.ensures) ∙ c.open.ensures in
    each_goes_on drawn_open c.loop-k.k c.args.draws.now c.loop-k.draws c.open.new.draws c.loop-k.events (c.open.result ∷ []) c.push.new.self c.loop-k.invariant made c.in_ok-push.ensures.ok
