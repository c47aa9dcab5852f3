-- What a place that serves keeps of its endpoint, whichever place it is: no more responses were queued than bytes.
use Rattle.std.proofs.Common.{ℕ, ◌≤◌, Bool, true, false, List, [], length, Option, Some, None, arith}
use Rattle.lard_answers.specs.Answers.{FilesAt, answer, found}
use Rattle.lard_request.specs.declared.verdict.Code.{Code}
use Rattle.lard_request.specs.declared.verdict.Code.TheVariants as code
use Rattle.lard_request.specs.declared.verdict.Verdict.{Verdict}
use Rattle.lard_request.specs.declared.verdict.Verdict.TheVariants.{Serve, Fault}
use Rattle.lard_response.specs.Response.{response}

-- ---- each response has a byte

response-some : (code : Code) (body : List ℕ) (head close : Bool) → 1 ≤ length (response code body head close)
unfolding response
response-some code body head close = omega arith

found-some : (o : Option (List ℕ)) (head close : Bool) → 1 ≤ length (found o head close)
found-some None head close = response-some code.NotFound [] head close
found-some (Some body) head close = response-some code.Ok body head close

pub answer-some : (files : FilesAt) (v : Verdict) → 1 ≤ length (answer files v)
answer-some files (Serve path head close) = found-some (files path) head close
answer-some files (Fault fault) = response-some fault [] false true
