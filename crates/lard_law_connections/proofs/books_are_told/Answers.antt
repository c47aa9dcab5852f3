-- By what holds of every state.
use Rattle.lard_law_connections.proofs.PolicyCounted.{books-are-told, line-is-told}
use Rattle.lard_law_connections.proofs.books_are_told.Goals as goal

pub returns-clause-books : goal.returns-clause-books
returns-clause-books c = books-are-told

pub returns-clause-line : goal.returns-clause-line
returns-clause-line c = line-is-told
