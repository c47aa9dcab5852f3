-- The laws are lemmas of their own.
use Rattle.lard_journal.proofs.Told.{rec_line-injective}
use Rattle.lard_journal.proofs.Unique.{report-injective}
use Rattle.lard_journal.proofs.report.report_tells_all.Goals as goal

pub returns-clause-record : goal.returns-clause-record
returns-clause-record c = rec_line-injective

pub returns-clause-whole : goal.returns-clause-whole
returns-clause-whole c = report-injective
