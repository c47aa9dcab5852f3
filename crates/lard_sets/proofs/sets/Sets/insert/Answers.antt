-- The new entry is put.
use Rattle.std.proofs.Common.{◌∙◌, ap}
use Rattle.lard_sets.specs.Sets.{sets_shown, put}
use Rattle.lard_sets.proofs.Entries.{shown-insert}
use Rattle.lard_sets.proofs.sets.Sets.insert.Goals as goal

pub returns-clause-ok : goal.returns-clause-ok
returns-clause-ok c =
    ap sets_shown c.in_ok-insert.ensures.entries
    ∙ shown-insert c.self.inside.sets.entries c.in_ok-key.key c.args.set
    ∙ ap (λ m. put m c.in_ok-key.key.items c.args.set) c.self.view_is
    ∙ ap (λ k. put c.args.self.now k c.args.set) c.in_ok-key.ensures.items
