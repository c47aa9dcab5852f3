-- The packet that is found is one of those that are kept.
use Rattle.std.proofs.Common.{◌-◌, List, ap, ◌∙◌}
use Rattle.std.specs.Prelude.{slice_get}
use Rattle.lard_net.specs.declared.net.Kept.{Kept}
use Rattle.lard_net.proofs.Packets.{sized_at}
use Rattle.lard_net.proofs.net.Net.get.Goals as goal

pub returns-clause-sized : goal.returns-clause-sized
returns-clause-sized c =
    sized_at c.self.inside.packets.items (c.args.k - 1) c.in_ok-kept.kept.now c.self.invariant.0 (c.in_ok-kept.ensures ∙ ap (λ (ps : List Kept). slice_get ps (c.args.k - 1)) c.as_slice.ensures.value)
