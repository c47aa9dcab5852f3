-- The laws are lemmas of their own.
use Rattle.lard_journal.proofs.Growth.{report-heading, report-file, report-append}
use Rattle.lard_journal.proofs.report.report_grows.Goals as goal

pub returns-clause-heading : goal.returns-clause-heading
returns-clause-heading c = report-heading

pub returns-clause-file : goal.returns-clause-file
returns-clause-file c = report-file

pub returns-clause-records : goal.returns-clause-records
returns-clause-records c = report-append
