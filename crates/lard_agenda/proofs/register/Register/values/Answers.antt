-- The entries are those of the map, and their numbers are below 2^32.
use Rattle.std.proofs.Common.{sym, ap, ◌∙◌, arith}
use Rattle.std.specs.FinMap as map
use Rattle.std.specs.Map.{keys_of, values_of}
use Rattle.std.proofs.lemmas.Map.Entries.{length-keys_of}
use Rattle.std.proofs.lemmas.Map.Views.{length-le_from_below}
use Rattle.lard_agenda.proofs.Entries.{entries_are}
use Rattle.lard_agenda.proofs.register.Register.values.Goals as goal

pub returns-clause-values : goal.returns-clause-values
returns-clause-values g c = c.values.ensures.rest ∙ ap values_of (sym (entries_are c.self.inside.all.entries c.values.ensures.ordered)) ∙ ap map.values c.self.view_is

pub returns-clause-few : goal.returns-clause-few
returns-clause-few g c =
    let few = length-le_from_below 4294967296 (keys_of c.self.inside.all.entries) c.values.ensures.ordered c.self.invariant in
    omega (arith, few, c.values.ensures.len, length-keys_of c.self.inside.all.entries)
