use Rattle.lard_report.proofs.Prefaces.{file_from, file_told, heading_from, heading_told}
use Rattle.lard_report.proofs.laws.prefaces_are_read.Goals as goal

pub returns-clause-heading : goal.returns-clause-heading
returns-clause-heading c line h = (heading_told line h, heading_from line h)

pub returns-clause-file : goal.returns-clause-file
returns-clause-file c line path size = (file_told line path size, file_from line path size)
