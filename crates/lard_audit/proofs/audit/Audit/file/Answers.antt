-- One file more, or none.
use Rattle.std.proofs.lemmas.Result.{on_ok_weaker}
use Rattle.lard_audit.proofs.Auditing.{checked, filed}
use Rattle.lard_audit.proofs.audit.Audit.file.Goals as goal

pub returns-clause-answer : goal.returns-clause-answer
returns-clause-answer c = λ cfg files h. checked c.args.self.now cfg files h c.args.path.now c.args.size c.add.result c.add.ensures.answer

pub returns-clause-ok : goal.returns-clause-ok
returns-clause-ok c = on_ok_weaker c.add.result (λ is cfg files h. filed c.args.self.now cfg files h c.args.path.now c.args.size c.add.new.self is) c.add.ensures.ok
