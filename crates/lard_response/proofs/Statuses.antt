-- The status line of each code, and the lengths of responses without content.
use Rattle.std.proofs.Common.{◌≡◌, ℕ, true, false, List, [], length, refl, codes}
use Rattle.std.specs.Fmt.{digits}
use Rattle.lard_request.specs.declared.verdict.Code.{Code}
use Rattle.lard_request.specs.declared.verdict.Code.TheVariants.{Ok, BadRequest, NotFound, TooLarge, FieldsTooLarge, NotImplemented}
use Rattle.lard_response.specs.Response.{status_line, response}

-- the status line, written out
abbrev pub status_text : Code → List ℕ
status_text Ok = codes "HTTP/1.1 200 OK\r\n"
status_text BadRequest = codes "HTTP/1.1 400 Bad Request\r\n"
status_text NotFound = codes "HTTP/1.1 404 Not Found\r\n"
status_text TooLarge = codes "HTTP/1.1 413 Content Too Large\r\n"
status_text FieldsTooLarge = codes "HTTP/1.1 431 Request Header Fields Too Large\r\n"
status_text NotImplemented = codes "HTTP/1.1 501 Not Implemented\r\n"

pub status_written : (code : Code) → status_text code ≡ status_line code
unfolding digits
status_written Ok = refl
status_written BadRequest = refl
status_written NotFound = refl
status_written TooLarge = refl
status_written FieldsTooLarge = refl
status_written NotImplemented = refl

-- ---- lengths

pub length-ok : length (response Ok [] false false) ≡ 38
unfolding digits response
length-ok = refl

pub length-ok_close : length (response Ok [] false true) ≡ 57
unfolding digits response
length-ok_close = refl

pub length-bad_request : length (response BadRequest [] false true) ≡ 66
unfolding digits response
length-bad_request = refl

pub length-not_found : length (response NotFound [] false false) ≡ 45
unfolding digits response
length-not_found = refl

pub length-not_found_close : length (response NotFound [] false true) ≡ 64
unfolding digits response
length-not_found_close = refl

pub length-too_large : length (response TooLarge [] false true) ≡ 72
unfolding digits response
length-too_large = refl

pub length-fields_too_large : length (response FieldsTooLarge [] false true) ≡ 86
unfolding digits response
length-fields_too_large = refl

pub length-not_implemented : length (response NotImplemented [] false true) ≡ 70
unfolding digits response
length-not_implemented = refl
