-- The verdict on a block: the first judgement that applies.
use Rattle.std.specs.Prelude.{ℕ, ◌+◌, Bool, true, false, ◌&&◌, ◌||◌, not, List, [], ◌∷◌, codes, Option, Some, None, nat_eq, nat_lt, if◌then◌else◌}
use Rattle.std.specs.List.{starts_with}
use Rattle.std.specs.Str.{bytes_eq}
use Rattle.httparse.specs.Grammar.{RequestHead}
use Rattle.lard_base.specs.declared.limits.TheConstants.{MAX_FIELDS}
use Rattle.lard_request.specs.declared.verdict.Code.TheVariants as code
use Rattle.lard_request.specs.declared.verdict.Verdict.{Verdict}
use Rattle.lard_request.specs.declared.verdict.Verdict.TheVariants.{Serve, Fault}
use Rattle.lard_request.specs.Fields.{has_content, has_good_host, says_close}
use Rattle.lard_request.specs.Head.{head_of}
use Rattle.lard_request.specs.Target.{path_of}

-- how many pairs CR LF stand in some bytes
unfoldable pub pairs_in : List ℕ → ℕ
pairs_in [] = 0
pairs_in (b ∷ rest) = (if starts_with nat_eq (b ∷ rest) (13 ∷ 10 ∷ []) then 1 else 0) + pairs_in rest

-- an LF stands without a CR before it; `after` says that a CR is before these bytes
unfoldable pub has_bare_feed : Bool → List ℕ → Bool
has_bare_feed after [] = false
has_bare_feed after (b ∷ rest) = (nat_eq b 10 && not after) || has_bare_feed (nat_eq b 13) rest

-- GET and HEAD are the methods that are built (RFC 9110, 9.1)
abbrev pub is_get : List ℕ → Bool
is_get method = bytes_eq method (codes "GET")

abbrev pub is_head : List ℕ → Bool
is_head method = bytes_eq method (codes "HEAD")

-- a request for a path
abbrev pub path_verdict : Bool → Bool → Option (List ℕ) → Verdict
path_verdict head close None = Fault code.BadRequest
path_verdict head close (Some path) = Serve path head close

-- what a method asks of a target
abbrev pub asked : List ℕ → List ℕ → Bool → Verdict
asked method target close =
    if not (is_get method || is_head method) then Fault code.NotImplemented
    else path_verdict (is_head method) close (path_of target)

-- the verdict on a head, in the order of its judgements: hosts, content, method, target; HTTP/1.0 closes behind its
-- answer (RFC 9112, 9.3)
unfoldable pub head_verdict : RequestHead → Verdict
head_verdict h =
    if not (has_good_host h.minor h.fields) then Fault code.BadRequest
    else (if has_content h.fields then Fault code.TooLarge
    else asked h.method h.target (nat_eq h.minor 0 || says_close h.fields))

-- what is no head is a bad request
abbrev pub verdict_of : Option RequestHead → Verdict
verdict_of None = Fault code.BadRequest
verdict_of (Some h) = head_verdict h

-- the verdict on a block; the request line and the empty line have a pair CR LF each, and so has each field (RFC 6585, 5)
unfoldable pub verdict : List ℕ → Verdict
verdict block =
    if nat_lt (MAX_FIELDS + 2) (pairs_in block) then Fault code.FieldsTooLarge
    else (if has_bare_feed false block then Fault code.BadRequest
    else verdict_of (head_of block))

-- the connection closes behind the answer
abbrev pub closes : Verdict → Bool
closes (Serve path head close) = close
closes (Fault code) = true
