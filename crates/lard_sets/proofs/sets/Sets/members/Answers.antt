-- A look-up among the entries is one among the pairs.
use Rattle.std.proofs.Common.{◌∙◌, sym, ap, Some, None, unwrap_or}
use Rattle.lard_sets.specs.Sets.{no_servers}
use Rattle.lard_sets.proofs.Flags.{no_flags}
use Rattle.lard_sets.proofs.Entries.{found}
use Rattle.lard_sets.proofs.sets.Sets.members.Goals as goal

pub returns-in-Some : goal.returns-in-Some
returns-in-Some c = sym (ap (λ o. (unwrap_or o no_servers).members) (found c.self.inside.sets.entries c.args.self.now c.args.target.now (Some c.in-Some.set.now) c.self.view_is c.in-Some.ensures.value))

pub returns-in-None : goal.returns-in-None
returns-in-None c =
    no_flags c.none.result c.none.ensures
    ∙ sym (ap (λ o. (unwrap_or o no_servers).members) (found c.self.inside.sets.entries c.args.self.now c.args.target.now None c.self.view_is c.in-None.ensures.value))
