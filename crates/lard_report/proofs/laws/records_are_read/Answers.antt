use Rattle.lard_report.proofs.Lines.{none_is, record_again, record_from, record_told}
use Rattle.lard_report.proofs.laws.records_are_read.Goals as goal

pub returns-clause-record : goal.returns-clause-record
returns-clause-record c line r = (record_told line r, record_from line r)

pub returns-clause-nothing : goal.returns-clause-nothing
returns-clause-nothing c line = none_is line

pub returns-clause-again : goal.returns-clause-again
returns-clause-again c r fits = record_again r fits
