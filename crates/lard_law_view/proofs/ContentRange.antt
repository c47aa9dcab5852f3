-- The answers to requests are bytes, and not much longer than the files are.
use Rattle.std.proofs.Common.{ℕ, ◌+◌, ◌≤◌, ◌<◌, ◌^◌, List, [], ◌++◌, length, codes, decimal, Bool, true, false, Option, Some, None, IfSome, refl, arith, length-append}
use Rattle.std.proofs.lemmas.Fmt.{length-decimal-le}
use Rattle.lard_law_view.specs.Prelude.{Code, FilesAt, Verdict, answer, answer_code, close_line, found, found_code, length_line, number, reason, response, response_body, status_line}
use Rattle.lard_request.specs.declared.verdict.Code.TheVariants as code
use Rattle.lard_request.specs.declared.verdict.Verdict.TheVariants.{Fault, Serve}
use Rattle.lard_law_view.proofs.ByteLists.{AreBytes, bytes-append, bytes-decimal, bytes-tested}

-- the content of a file
abbrev pub IsContent : List ℕ → Type 0
IsContent bytes = AreBytes bytes × (length bytes ≤ 2 ^ 20)

-- an answer, which has a byte
abbrev pub IsAnswer : List ℕ → Type 0
IsAnswer bytes = AreBytes bytes × (1 ≤ length bytes) × (length bytes ≤ 2 ^ 21)

-- each path that names a file names such a content
abbrev pub AreFiles : FilesAt → Type 0
AreFiles files = (path : List ℕ) → IfSome (files path) IsContent

-- ---- numbers of codes

-- a code has three digits
pub number-small : (c : Code) → number c < 1000
number-small code.Ok = omega arith
number-small code.BadRequest = omega arith
number-small code.NotFound = omega arith
number-small code.TooLarge = omega arith
number-small code.FieldsTooLarge = omega arith
number-small code.NotImplemented = omega arith

-- and so has the code of each answer
pub code-small : (files : FilesAt) (v : Verdict) → answer_code files v < 1000
code-small files (Serve path head close) = number-small (found_code (files path))
code-small files (Fault fault) = number-small fault

-- ---- the text of a response

-- a text of bytes that is short
abbrev IsShort : ℕ → List ℕ → Type 0
IsShort most text = AreBytes text × (length text ≤ most)

-- one text behind another
short-append : (m n : ℕ) (xs ys : List ℕ) → IsShort m xs → IsShort n ys → IsShort (m + n) (xs ++ ys)
short-append m n xs ys h k = let a = h.1 in let b = k.1 in let both = length-append xs ys in (bytes-append xs ys h.0 k.0, omega (arith, a, b, both))

-- the digits of a number
short-decimal : (n : ℕ) → n < 2 ^ 32 → IsShort 20 (decimal n)
short-decimal n small = (bytes-decimal n (omega (arith, small)), length-decimal-le 20 n (omega arith) (omega (arith, small)) (omega (arith, small)))

-- the reason phrase of a code, and its status line
reason-short : (c : Code) → IsShort 40 (reason c)
reason-short code.Ok = (bytes-tested (codes "OK") refl, omega arith)
reason-short code.BadRequest = (bytes-tested (codes "Bad Request") refl, omega arith)
reason-short code.NotFound = (bytes-tested (codes "Not Found") refl, omega arith)
reason-short code.TooLarge = (bytes-tested (codes "Content Too Large") refl, omega arith)
reason-short code.FieldsTooLarge = (bytes-tested (codes "Request Header Fields Too Large") refl, omega arith)
reason-short code.NotImplemented = (bytes-tested (codes "Not Implemented") refl, omega arith)

status-short : (c : Code) → IsShort 80 (status_line c)
status-short c =
    let small = number-small c in
    short-append 78 2 (codes "HTTP/1.1 " ++ decimal (number c) ++ codes " " ++ reason c) (codes "\r\n")
    (short-append 38 40 (codes "HTTP/1.1 " ++ decimal (number c) ++ codes " ") (reason c)
    (short-append 37 1 (codes "HTTP/1.1 " ++ decimal (number c)) (codes " ")
    (short-append 17 20 (codes "HTTP/1.1 ") (decimal (number c)) (bytes-tested (codes "HTTP/1.1 ") refl, omega arith) (short-decimal (number c) (omega (arith, small))))
    (bytes-tested (codes " ") refl, omega arith))
    (reason-short c))
    (bytes-tested (codes "\r\n") refl, omega arith)

-- the line that tells the length
length-short : (n : ℕ) → n < 2 ^ 32 → IsShort 42 (length_line n)
length-short n small =
    short-append 40 2 (codes "Content-Length: " ++ decimal n) (codes "\r\n")
    (short-append 20 20 (codes "Content-Length: ") (decimal n) (bytes-tested (codes "Content-Length: ") refl, omega arith) (short-decimal n small))
    (bytes-tested (codes "\r\n") refl, omega arith)

-- the line that tells that the connection closes
close-short : (close : Bool) → IsShort 20 (close_line close)
close-short true = (bytes-tested (codes "Connection: close\r\n") refl, omega arith)
close-short false = (tt, omega arith)

-- the content, which the answer to HEAD leaves out
content-short : (body : List ℕ) (head : Bool) → IsContent body → IsShort (2 ^ 20) (response_body body head)
content-short body true h = (tt, omega arith)
content-short body false h = h

-- a whole response
response-answer : (c : Code) (body : List ℕ) (head close : Bool) → IsContent body → IsAnswer (response c body head close)
unfolding response
response-answer c body head close h =
    let most = h.1 in
    let whole : IsShort (80 + 42 + 20 + 2 + 2 ^ 20) (status_line c ++ length_line (length body) ++ close_line close ++ codes "\r\n" ++ response_body body head) =
    short-append (80 + 42 + 20 + 2) (2 ^ 20) (status_line c ++ length_line (length body) ++ close_line close ++ codes "\r\n") (response_body body head)
    (short-append (80 + 42 + 20) 2 (status_line c ++ length_line (length body) ++ close_line close) (codes "\r\n")
    (short-append (80 + 42) 20 (status_line c ++ length_line (length body)) (close_line close)
    (short-append 80 42 (status_line c) (length_line (length body)) (status-short c) (length-short (length body) (omega (arith, most))))
    (close-short close))
    (bytes-tested (codes "\r\n") refl, omega arith))
    (content-short body head h) in
    let few = whole.1 in
    (whole.0, omega arith, omega (arith, few))

-- ---- answers

-- the answer to a request for a path
found-answer : (o : Option (List ℕ)) (head close : Bool) → IfSome o IsContent → IsAnswer (found o head close)
found-answer None head close h = response-answer code.NotFound [] head close (tt, omega arith)
found-answer (Some body) head close h = response-answer code.Ok body head close h

module _ (files : FilesAt) (h : AreFiles files) where
  -- the answer to any verdict
  pub answer-fits : (v : Verdict) → IsAnswer (answer files v)
  answer-fits (Serve path head close) = found-answer (files path) head close (h path)
  answer-fits (Fault fault) = response-answer fault [] false true (tt, omega arith)
