-- Each line is that of its code.
use Rattle.std.proofs.Common.{◌∙◌, ap, sym}
use Rattle.lard_request.specs.declared.verdict.Code.TheVariants.{Ok, BadRequest, NotFound, TooLarge, FieldsTooLarge, NotImplemented}
use Rattle.lard_response.specs.Response.{status_line}
use Rattle.lard_response.proofs.Statuses.{status_written}
use Rattle.lard_response.proofs.bytes.status_of.Goals as goal

pub returns-in-Ok : goal.returns-in-Ok
returns-in-Ok c = status_written Ok ∙ ap status_line (sym c.in-Ok.is)

pub returns-in-BadRequest : goal.returns-in-BadRequest
returns-in-BadRequest c = status_written BadRequest ∙ ap status_line (sym c.in-BadRequest.is)

pub returns-in-NotFound : goal.returns-in-NotFound
returns-in-NotFound c = status_written NotFound ∙ ap status_line (sym c.in-NotFound.is)

pub returns-in-TooLarge : goal.returns-in-TooLarge
returns-in-TooLarge c = status_written TooLarge ∙ ap status_line (sym c.in-TooLarge.is)

pub returns-in-FieldsTooLarge : goal.returns-in-FieldsTooLarge
returns-in-FieldsTooLarge c = status_written FieldsTooLarge ∙ ap status_line (sym c.in-FieldsTooLarge.is)

pub returns-in-NotImplemented : goal.returns-in-NotImplemented
returns-in-NotImplemented c = status_written NotImplemented ∙ ap status_line (sym c.in-NotImplemented.is)
