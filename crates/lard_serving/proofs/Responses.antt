-- The length of a response: at least a byte, and at most its body and a head. How its parts are queued.
use Rattle.std.proofs.Common.{◌≡◌, ℕ, ◌+◌, ◌≤◌, ◌^◌, List, ◌++◌, Bool, true, false, length, ap, ◌∙◌, append_assoc, arith, lit≤, length-append}
use Rattle.std.specs.Prelude.{codes, decimal}
use Rattle.std.proofs.lemmas.Fmt.{length-decimal-le}
use Rattle.lard_endpoint.specs.Control.{ControlBlock, queueing}
use Rattle.lard_request.specs.declared.verdict.Code.{Code}
use Rattle.lard_request.specs.declared.verdict.Code.TheVariants.{Ok, BadRequest, NotFound, TooLarge, FieldsTooLarge, NotImplemented}
use Rattle.lard_response.specs.Response.{number, reason, status_line, length_line, close_line, response, response_body}

number-most : (code : Code) → number code ≤ 501
number-most Ok = omega arith
number-most BadRequest = omega arith
number-most NotFound = omega arith
number-most TooLarge = omega arith
number-most FieldsTooLarge = omega arith
number-most NotImplemented = omega arith

reason-most : (code : Code) → length (reason code) ≤ 31
reason-most Ok = lit≤ tt
reason-most BadRequest = lit≤ tt
reason-most NotFound = lit≤ tt
reason-most TooLarge = lit≤ tt
reason-most FieldsTooLarge = lit≤ tt
reason-most NotImplemented = lit≤ tt

status-size : (code : Code) → (1 ≤ length (status_line code)) × (length (status_line code) ≤ 46)
status-size code =
    let http = codes "HTTP/1.1 " in
    let digits = decimal (number code) in
    let most = number-most code in
    let d : length digits ≤ 3 = length-decimal-le 3 (number code) (lit≤ tt) (omega arith) (omega arith) in
    let a = length-append (http ++ digits ++ codes " " ++ reason code) (codes "\r\n") in
    let b = length-append (http ++ digits ++ codes " ") (reason code) in
    let e = length-append (http ++ digits) (codes " ") in
    let f = length-append http digits in
    (omega arith, omega (arith, reason-most code))

length-most : (n : ℕ) → n ≤ 2 ^ 20 → length (length_line n) ≤ 26
length-most n h =
    let d : length (decimal n) ≤ 8 = length-decimal-le 8 n (lit≤ tt) (omega arith) (omega arith) in
    omega (arith, length-append (codes "Content-Length: " ++ decimal n) (codes "\r\n"), length-append (codes "Content-Length: ") (decimal n))

close-most : (b : Bool) → length (close_line b) ≤ 19
close-most true = lit≤ tt
close-most false = lit≤ tt

content-most : (body : List ℕ) (b : Bool) → length (response_body body b) ≤ length body
content-most body true = omega arith
content-most body false = omega arith

pub response_fits : (code : Code) (body : List ℕ) (head close : Bool) (bytes : List ℕ) → bytes ≡ response code body head close → length body ≤ 2 ^ 20 → (1 ≤ length bytes) × (length bytes ≤ 2 ^ 27)
unfolding response
response_fits code body head close bytes e h =
    let line = length_line (length body) in
    let status = status_line code in
    let sent = response_body body head in
    let s = status-size code in
    let a = length-append (status ++ line ++ close_line close ++ codes "\r\n") sent in
    let b = length-append (status ++ line ++ close_line close) (codes "\r\n") in
    let d = length-append (status ++ line) (close_line close) in
    let f = length-append status line in
    let size = ap length e in
    (omega (arith, s.0), omega (arith, s.1, length-most (length body) h, close-most close, content-most body head))

-- what is queued in two parts is queued as one
pub queued_behind : (b : ControlBlock) (head body : List ℕ) → queueing (queueing b head) body ≡ queueing b (head ++ body)
queued_behind b head body =
    let with = λ (rest : List ℕ) (n : ℕ). record b { send = record b.send { rest = rest; total = n } } in
    let count : b.send.total + length head + length body ≡ b.send.total + length (head ++ body) = omega (arith, length-append head body) in
    ap (λ rest. with rest (b.send.total + length head + length body)) (append_assoc b.send.rest head body)
    ∙ ap (with (b.send.rest ++ (head ++ body))) count
