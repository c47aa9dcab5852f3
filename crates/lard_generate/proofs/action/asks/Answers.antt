-- Each turn adds one request for a file that is drawn.
use Rattle.std.proofs.Common.{◌≡◌, ◌+◌, List, [], ◌∷◌}
use Rattle.lard_generate.specs.declared.action.Action.{Action}
use Rattle.lard_generate.specs.declared.action.Action.TheVariants.{Ask}
use Rattle.lard_generate.specs.Clients.{drawn_ask}
use Rattle.lard_generate.proofs.Making.{each_begins, each_goes_on}
use Rattle.lard_generate.proofs.action.asks.Goals as goal

pub loop-j-init : goal.loop-j-init
loop-j-init c = each_begins (drawn_ask c.args.c) c.args.draws.now c.new-asks.result c.new-asks.ensures

pub loop-j-preserved : goal.loop-j-preserved
loop-j-preserved c =
    let ask : List Action = Ask c.args.c c.draw-file.result ∷ [] in
    let made : drawn_ask c.args.c (c.loop-j._j + 1) c.loop-j.draws ≡ (ask, c.draw-file.new.draws) = cc in
    each_goes_on (drawn_ask c.args.c) c.loop-j._j c.args.draws.now c.loop-j.draws c.draw-file.new.draws c.loop-j.asks ask c.push.new.self c.loop-j.invariant made c.in_ok-push.ensures.ok
