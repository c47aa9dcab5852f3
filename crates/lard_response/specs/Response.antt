-- The bytes of a response (RFC 9112, 4; RFC 9110, 15).
use Rattle.std.specs.Prelude.{◌≡◌, ℕ, Bool, true, List, [], ◌++◌, length, codes, decimal, if◌then◌else◌}
use Rattle.lard_request.specs.declared.verdict.Code.{Code}
use Rattle.lard_request.specs.declared.verdict.Code.TheVariants.{Ok, BadRequest, NotFound, TooLarge, FieldsTooLarge, NotImplemented}

-- the number of a code
abbrev pub number : Code → ℕ
number Ok = 200
number BadRequest = 400
number NotFound = 404
number TooLarge = 413
number FieldsTooLarge = 431
number NotImplemented = 501

-- its reason phrase
abbrev pub reason : Code → List ℕ
reason Ok = codes "OK"
reason BadRequest = codes "Bad Request"
reason NotFound = codes "Not Found"
reason TooLarge = codes "Content Too Large"
reason FieldsTooLarge = codes "Request Header Fields Too Large"
reason NotImplemented = codes "Not Implemented"

abbrev pub status_line : Code → List ℕ
status_line code = codes "HTTP/1.1 " ++ decimal (number code) ++ codes " " ++ reason code ++ codes "\r\n"

abbrev pub length_line : ℕ → List ℕ
length_line n = codes "Content-Length: " ++ decimal n ++ codes "\r\n"

-- the connection closes behind this response (RFC 9112, 9.6)
abbrev pub close_line : Bool → List ℕ
close_line close = if close then codes "Connection: close\r\n" else []

-- the head of a response, with the empty line that ends it; a body of so many bytes follows in the answer to GET
abbrev pub response_head : Code → ℕ → Bool → List ℕ
response_head code len close = status_line code ++ length_line len ++ close_line close ++ codes "\r\n"

-- the body as it is sent: the answer to HEAD leaves it out (RFC 9110, 9.3.2)
abbrev pub response_body : List ℕ → Bool → List ℕ
response_body body head = if head then [] else body

-- a response with this body
unfoldable pub response : Code → List ℕ → Bool → Bool → List ℕ
response code body head close = response_head code (length body) close ++ response_body body head

-- the codes of an answer behind which the connection always closes
abbrev pub IsClosing : Code → Bool → Type 0
IsClosing Ok close = Unit {0}
IsClosing NotFound close = Unit {0}
IsClosing _ close = close ≡ true

-- only a file's answer has a body
abbrev pub HasItsBody : Code → List ℕ → Type 0
HasItsBody Ok body = Unit {0}
HasItsBody _ body = body ≡ []

-- so only its head tells of one
abbrev pub HasItsLength : Code → ℕ → Type 0
HasItsLength Ok len = Unit {0}
HasItsLength _ len = len ≡ 0
