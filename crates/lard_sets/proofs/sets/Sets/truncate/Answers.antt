-- The first entries are seen as the first pairs.
use Rattle.std.proofs.Common.{◌∙◌, ap, take}
use Rattle.lard_sets.specs.Sets.{sets_shown}
use Rattle.lard_sets.proofs.Entries.{take-shown}
use Rattle.lard_sets.proofs.sets.Sets.truncate.Goals as goal

pub returns : goal.returns
returns c = ap sets_shown c.truncate.ensures.entries ∙ take-shown c.args.places c.self.inside.sets.entries ∙ ap (take c.args.places) c.self.view_is
