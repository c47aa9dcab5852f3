-- By what each rule keeps, and by what the dispatcher answers.
use Rattle.lard_laws.proofs.TagsRuns.{connections-name-nodes}
use Rattle.lard_laws.proofs.tags_name_nodes.Goals as goal

pub returns : goal.returns
returns c = connections-name-nodes
