-- The first `/` or `?` ends the authority, or nothing does.
use Rattle.std.proofs.Common.{ap, ◌∙◌, length}
use Rattle.std.specs.Option.{unwrap_or}
use Rattle.lard_request.specs.Target.{ends_authority}
use Rattle.lard_request.proofs.Places.{place-or-len}
use Rattle.lard_request.proofs.target.len_of_authority.Goals as goal

pub returns-clause-value : goal.returns-clause-value
returns-clause-value c = c.unwrap_or.ensures ∙ ap (λ o. unwrap_or o (length c.args.rest.now)) c.end_of_authority.ensures ∙ place-or-len ends_authority c.args.rest.now
