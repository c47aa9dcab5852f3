-- Both sides compute.
use Rattle.std.proofs.Common.{refl}
use Rattle.std.specs.Fmt.{digits}
use Rattle.lard_generate.specs.Clients.{fields}
use Rattle.lard_generate.specs.Draws.{behind, each, seeded, drawn_word}
use Rattle.lard_generate.specs.Files.{listed_to}
use Rattle.lard_generate.specs.Generated.{generated}
use Rattle.lard_generate.proofs.laws.schedules_are_as_worked_out.Goals as goal

pub returns-clause-sizes : goal.returns-clause-sizes
unfolding each seeded drawn_word behind
returns-clause-sizes c = refl

pub returns-clause-content : goal.returns-clause-content
unfolding listed_to
returns-clause-content c = refl

pub returns-clause-head : goal.returns-clause-head
unfolding fields digits
returns-clause-head c = refl

pub returns-clause-shutting : goal.returns-clause-shutting
unfolding each seeded drawn_word behind generated fields digits
returns-clause-shutting c = refl

pub returns-clause-repeated : goal.returns-clause-repeated
unfolding each seeded drawn_word behind generated fields digits
returns-clause-repeated c = refl

pub returns-clause-losing : goal.returns-clause-losing
unfolding each seeded drawn_word behind generated fields digits
returns-clause-losing c = refl
