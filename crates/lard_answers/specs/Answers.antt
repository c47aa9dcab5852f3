-- What a server answers to all the bytes that a client wrote (RFC 9112, 9.3.2): the responses to its requests, in order.
use Rattle.std.specs.Prelude.{◌≡◌, ℕ, ◌+◌, ◌<◌, Bool, true, false, List, [], ◌∷◌, ◌++◌, map, Option, Some, None, is_some, if◌then◌else◌}
use Rattle.std.specs.List.{concat, list_any, slice_get}
use Rattle.lard_block.specs.Blocks.{Piece, Head, Long, blocks}
use Rattle.lard_request.specs.declared.verdict.Code.{Code}
use Rattle.lard_request.specs.declared.verdict.Code.TheVariants.{Ok, NotFound, FieldsTooLarge}
use Rattle.lard_request.specs.declared.verdict.Verdict.{Verdict}
use Rattle.lard_request.specs.declared.verdict.Verdict.TheVariants.{Serve, Fault}
use Rattle.lard_request.specs.Verdict.{closes, verdict}
use Rattle.lard_response.specs.Response.{number, response}

-- what each path holds, if it names a file
abbrev pub FilesAt : Type 0
FilesAt = List ℕ → Option (List ℕ)

-- ---- one answer

-- a request for a path is answered by its file (RFC 9110, 15.3.1), or by 404 where it names none (15.5.5)
abbrev pub found : Option (List ℕ) → Bool → Bool → List ℕ
found None head close = response NotFound [] head close
found (Some body) head close = response Ok body head close

abbrev pub answer : FilesAt → Verdict → List ℕ
answer files (Serve path head close) = found (files path) head close
answer files (Fault code) = response code [] false true

-- the code of the answer to a request for a path
abbrev pub found_code : Option (List ℕ) → Code
found_code None = NotFound
found_code (Some body) = Ok

-- the number of an answer's code
abbrev pub answer_code : FilesAt → Verdict → ℕ
answer_code files (Serve path head close) = number (found_code (files path))
answer_code files (Fault code) = number code

-- ---- all answers

-- the verdict on a piece of the division; a head that is too long is a fault of its own (RFC 6585, 5)
abbrev pub piece_verdict : Piece → Verdict
piece_verdict (Head block after) = verdict block
piece_verdict Long = Fault FieldsTooLarge

-- the verdicts on these pieces
abbrev pub verdicts_on : List Piece → List Verdict
verdicts_on ps = map piece_verdict ps

-- the first verdicts, up to and with the first that closes
unfoldable pub until_close : List Verdict → List Verdict
until_close [] = []
until_close (v ∷ vs) = v ∷ (if closes v then [] else until_close vs)

-- the verdicts on what a client wrote, as far as they are answered
unfoldable pub verdicts : List ℕ → List Verdict
verdicts wrote = until_close (verdicts_on (blocks wrote))

-- the responses to what a client wrote
unfoldable pub answers : FilesAt → List ℕ → List (List ℕ)
answers files wrote = map (answer files) (verdicts wrote)

-- all that a client is to be sent, as bytes
abbrev pub answer_bytes : FilesAt → List ℕ → List ℕ
answer_bytes files wrote = concat (answers files wrote)

-- ---- the good ones among them

-- the path of a request that names a file
abbrev pub good_path : FilesAt → Verdict → Option (List ℕ)
good_path files (Serve path head close) = if is_some (files path) then Some path else None
good_path files (Fault code) = None

abbrev pub numbered : ℕ → Option (List ℕ) → List (ℕ × List ℕ) → List (ℕ × List ℕ)
numbered r None later = later
numbered r (Some path) later = (r, path) ∷ later

abbrev pub goods_from : FilesAt → ℕ → List Verdict → List (ℕ × List ℕ)
goods_from files r [] = []
goods_from files r (v ∷ vs) = numbered r (good_path files v) (goods_from files (r + 1) vs)

-- the requests for files, each with its number, counted from 1
unfoldable pub goods : FilesAt → List ℕ → List (ℕ × List ℕ)
goods files wrote = goods_from files 1 (verdicts wrote)

-- the verdict with this number, counted from 1, is on a request for the file of this path
abbrev pub IsGoodAt : FilesAt → List Verdict → ℕ → List ℕ → Type 0
IsGoodAt files vs r path = (i : ℕ) × (v : Verdict) × (r ≡ i + 1) × (slice_get vs i ≡ Some v) × (good_path files v ≡ Some path)

-- the numbers rise, from above n on
abbrev pub Rises : ℕ → List (ℕ × List ℕ) → Type 0
Rises n [] = Unit {0}
Rises n (good ∷ later) = (n < good.0) × Rises good.0 later

-- ---- what ends the answers

-- the connection closes behind one of these answers
abbrev pub closes_any : List Verdict → Bool
closes_any vs = list_any closes vs

-- ---- what begins with what

-- a list is the front of another
abbrev pub IsPrefix : {A : Type 0} → List A → List A → Type 0
IsPrefix {A} front whole = (rest : List A) × (whole ≡ front ++ rest)
