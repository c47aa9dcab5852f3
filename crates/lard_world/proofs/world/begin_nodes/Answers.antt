-- The nodes that have begun, and one more.
use Rattle.std.proofs.Common.{[], ◌∷◌, ◌++◌, ap, ◌∙◌}
use Rattle.lard_rules.specs.NodePlace.{no_stays}
use Rattle.lard_world.proofs.Beginning.{one-more}
use Rattle.lard_world.proofs.world.begin_nodes.Goals as goal

pub loop-made-preserved : goal.loop-made-preserved
loop-made-preserved c =
    c.in_default.ensures ∙ ap (λ nodes. nodes ++ no_stays c.args.cache ∷ []) c.loop-made.invariant ∙ one-more c.args.cache c.loop-made._made
