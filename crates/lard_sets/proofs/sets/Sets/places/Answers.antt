-- There are as many pairs as entries.
use Rattle.std.proofs.Common.{◌∙◌, sym, ap, length}
use Rattle.lard_sets.proofs.Entries.{length-shown}
use Rattle.lard_sets.proofs.sets.Sets.places.Goals as goal

pub returns : goal.returns
returns c = c.len.ensures.len ∙ sym (length-shown c.self.inside.sets.entries) ∙ ap length c.self.view_is
