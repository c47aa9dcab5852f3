-- The parts are valid.
use Rattle.std.proofs.Common.{rules}
use Rattle.lard_endpoint.proofs.Adoption.{parts_as-valid}
use Rattle.lard_endpoint.proofs.control.moving.Frozen.parts.Goals as goal

pub returns-clause-valid : goal.returns-clause-valid
returns-clause-valid c = parts_as-valid _ c.args.self.now c.args.served (search rules) (search (rules, c.law.ensures)) (search rules) c.requires
