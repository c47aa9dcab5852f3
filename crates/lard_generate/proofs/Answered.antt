-- What is counted for an answer is its length.
use Rattle.std.proofs.Common.{◌≡◌, ℕ, ◌+◌, ◌%◌, List, [], ◌++◌, length, false, refl, sym, ap, ◌∙◌, length-append, arith}
use Rattle.std.specs.Prelude.{codes, decimal, slice_index}
use Rattle.std.specs.Fmt.{digits}
use Rattle.lard_request.specs.declared.verdict.Code.TheVariants.{Ok}
use Rattle.lard_response.specs.Response.{response, status_line}
use Rattle.lard_generate.specs.Clients.{answer_len}
use Rattle.lard_generate.specs.Files.{generated_content}
use Rattle.lard_generate.specs.Laws.{AnswersAreCounted}
use Rattle.lard_generate.proofs.Listing.{length-listed}
use Rattle.lard_generate.proofs.Paths.{found}

length-status : length (status_line Ok) ≡ 17
unfolding digits
length-status = refl

length-response : (body : List ℕ) → length (response Ok body false false) ≡ answer_len (length body)
unfolding response
length-response body =
    let number = decimal (length body) in
    let line = codes "Content-Length: " ++ number ++ codes "\r\n" in
    omega (
      arith,
      length-append (status_line Ok ++ line ++ [] ++ codes "\r\n") body,
      length-append (status_line Ok ++ line ++ []) (codes "\r\n"),
      length-append (status_line Ok ++ line) [],
      length-append (status_line Ok) line,
      length-append (codes "Content-Length: " ++ number) (codes "\r\n"),
      length-append (codes "Content-Length: ") number,
      length-status,
    )

pub counted : AnswersAreCounted
counted sizes c file below =
    let bytes = generated_content file (slice_index sizes file) in
    (bytes, found sizes 256 file below (omega arith), ap answer_len (sym (length-listed (λ j. (file + j) % 256) (slice_index sizes file))) ∙ sym (length-response bytes))
