use Rattle.lard_laws.proofs.Lawful.{journals-lawful}
use Rattle.lard_laws.proofs.every_journal_is_lawful.Goals as goal

pub returns : goal.returns
returns c = record { laws = journals-lawful }
