-- The law is lemmas of proofs/Read.antt.
use Rattle.lard_response.proofs.Read.{without_content, told}
use Rattle.lard_response.proofs.laws.a_response_tells_its_parts.Goals as goal

pub returns-clause-head : goal.returns-clause-head
returns-clause-head c = without_content

pub returns-clause-parts : goal.returns-clause-parts
returns-clause-parts c = told
