-- Each segment brings the end nearer.
use Rattle.std.proofs.Common.{rules}
use Rattle.std.specs.Prelude.{Some}
use Rattle.lard_endpoint.proofs.Ends.{emit-falls}
use Rattle.lard_endpoint.proofs.control.Endpoint.emit.Goals as goal

pub returns-in-Some-clause-ends : goal.returns-in-Some-clause-ends
returns-in-Some-clause-ends c = emit-falls c.args.self.now c.told_by.new.self (Some c.told_by.result) (search (rules, c.law.ensures)) (search rules) (search rules)
