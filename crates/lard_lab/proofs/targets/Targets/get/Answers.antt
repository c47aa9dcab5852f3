-- A look-up among the entries is one among the pairs.
use Rattle.std.proofs.Common.{◌∙◌, ap}
use Rattle.lard_lab.specs.Targets.{target_at}
use Rattle.lard_lab.proofs.Entries.{lookup-shown}
use Rattle.lard_lab.proofs.targets.Targets.get.Goals as goal

pub returns : goal.returns
returns c = c.copied.ensures ∙ c.get.ensures.value ∙ lookup-shown c.self.inside.targets.entries c.args.path.now ∙ ap (λ m. target_at m c.args.path.now) c.self.view_is
