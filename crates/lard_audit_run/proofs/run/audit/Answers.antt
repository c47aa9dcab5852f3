use Rattle.std.proofs.Common.{sym, subst}
use Rattle.lard_audit_run.specs.Runs.{Audited}
use Rattle.lard_audit_run.proofs.Ending.{failed-so, long-so, refused-so, starved-so, wrote-so}
use Rattle.lard_audit_run.proofs.run.audit.Goals as goal

pub returns-in-Sound-clause-audited : goal.returns-in-Sound-clause-audited
returns-in-Sound-clause-audited g c = wrote-so _ _ _ _ c.in-Sound.records c.write_records.result c.in-Sound.ensures.judged c.write_records.ensures.wrote

pub returns-in-Refused-clause-audited : goal.returns-in-Refused-clause-audited
returns-in-Refused-clause-audited g c =
    subst (λ v. Audited v (g.S.Source.left c.args.source.now) (g.S.Source.left c.judge.new.source) (g.K.Sink.written c.args.sink.now) (g.K.Sink.written c.args.sink.now)) (sym c.refused.ensures)
    (refused-so _ _ _ c.in-Refused.line c.in-Refused.flaw c.in-Refused.ensures.judged)

pub returns-in-TooLong-clause-audited : goal.returns-in-TooLong-clause-audited
returns-in-TooLong-clause-audited g c = long-so _ _ _ c.in-TooLong.line c.in-TooLong.ensures.judged

pub returns-in-ReadFault-clause-audited : goal.returns-in-ReadFault-clause-audited
returns-in-ReadFault-clause-audited g c = failed-so _ _ _ c.in-ReadFault.ensures.judged

pub returns-in-NoMemory-clause-audited : goal.returns-in-NoMemory-clause-audited
returns-in-NoMemory-clause-audited g c = starved-so _ _ _ c.in-NoMemory.ensures.judged
