use Rattle.lard_grammar.proofs.Wholes.{found_is, is_found, stands_for_one}
use Rattle.lard_grammar.proofs.reads_every_schedule.Goals as goal

pub returns-clause-found : goal.returns-clause-found
returns-clause-found c text config files events = (found_is text (record { config = config; files = files; events = events }), is_found text config files events)

pub returns-clause-unique : goal.returns-clause-unique
returns-clause-unique c text config also files others events more = stands_for_one text config also files others events more
