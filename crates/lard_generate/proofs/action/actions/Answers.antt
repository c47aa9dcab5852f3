-- Each turn adds what one client does.
use Rattle.std.proofs.Common.{◌≡◌, ◌+◌, sym, ap, ◌∙◌}
use Rattle.lard_generate.specs.Clients.{drawn_actions}
use Rattle.lard_generate.proofs.Making.{each_begins, each_goes_on}
use Rattle.lard_generate.proofs.action.actions.Goals as goal

pub loop-k-init : goal.loop-k-init
loop-k-init c = each_begins drawn_actions c.args.draws.now c.new-actions.result c.new-actions.ensures

pub loop-k-preserved : goal.loop-k-preserved
loop-k-preserved c =
    let made : drawn_actions (c.loop-k.k + 1) c.loop-k.draws ≡ (c.in_ok-more.more, c.actions_of.new.draws) = ap (λ n. drawn_actions n c.loop-k.draws) (sym c.client.ensures) ∙ c.in_ok-more.ensures in
    each_goes_on drawn_actions c.loop-k.k c.args.draws.now c.loop-k.draws c.actions_of.new.draws c.loop-k.actions c.in_ok-more.more c.append.new.self c.loop-k.invariant made c.in_ok-append.ensures.ok
