-- How bytes are read as a request's head: the inverse of `httparse`'s grammar (RFC 9112, 2 to 5), as the law
-- `reads_the_grammar` says.
use Rattle.std.specs.Prelude.{ℕ, zero, suc, Bool, List, [], ◌∷◌, length, drop, Option, Some, None, nat_eq, nat_lt, codes, if◌then◌else◌}
use Rattle.std.specs.List.{starts_with}
use Rattle.std.specs.Str.{is_utf8}
use Rattle.httparse.specs.Grammar.{is_token_byte, is_uri_byte, is_value_byte, LineEnd, crlf, lf, Field, RequestHead}

-- ---- a reading: what was found, and the bytes behind it

abbrev pub Read : Type 0 → Type 0
Read A = Option (A × List ℕ)

-- what is read behind it
abbrev pub and_then : {A B : Type 0} → Read A → (A → List ℕ → Read B) → Read B
and_then None next = None
and_then (Some x) next = next x.0 x.1

-- the bytes at the front that pass a test, as many as there are, and those behind them
unfoldable pub run : (ℕ → Bool) → List ℕ → List ℕ × List ℕ
run test [] = ([], [])
run test (b ∷ rest) = if test b then (b ∷ (run test rest).0, (run test rest).1) else ([], b ∷ rest)

-- a byte that ends what was read
abbrev pub stopped : ℕ → List ℕ → List ℕ → Read (List ℕ)
stopped stop word [] = None
stopped stop word (b ∷ rest) = if nat_eq b stop then Some (word, rest) else None

-- one or more bytes that pass a test, and the byte that ends them
abbrev pub ended_word : ℕ → List ℕ × List ℕ → Read (List ℕ)
ended_word stop found = if nat_lt 0 (length found.0) then stopped stop found.0 found.1 else None

unfoldable pub word : (ℕ → Bool) → ℕ → List ℕ → Read (List ℕ)
word test stop text = ended_word stop (run test text)

-- a line end: CR LF, or LF alone
unfoldable pub newline : List ℕ → Read LineEnd
newline text =
    if starts_with nat_eq text (13 ∷ 10 ∷ []) then Some (crlf, drop 2 text)
    else (if starts_with nat_eq text (10 ∷ []) then Some (lf, drop 1 text) else None)

-- ---- the request line

abbrev pub one_more : LineEnd → List LineEnd × List ℕ → List LineEnd × List ℕ
one_more end found = (end ∷ found.0, found.1)

abbrev pub blank_from : List ℕ → (List ℕ → List LineEnd × List ℕ) → Read LineEnd → List LineEnd × List ℕ
blank_from text later None = ([], text)
blank_from text later (Some x) = one_more x.0 (later x.1)

-- the empty lines at the front, at most so many
unfoldable pub blank_lines : ℕ → List ℕ → List LineEnd × List ℕ
blank_lines zero text = ([], text)
blank_lines (suc n) text = blank_from text (blank_lines n) (newline text)

-- the target is UTF-8
abbrev pub text_only : List ℕ → List ℕ → Read (List ℕ)
text_only target rest = if is_utf8 target then Some (target, rest) else None

-- HTTP/1.0 or HTTP/1.1
unfoldable pub version : List ℕ → Read ℕ
version text =
    if starts_with nat_eq text (codes "HTTP/1.0") then Some (0, drop 8 text)
    else (if starts_with nat_eq text (codes "HTTP/1.1") then Some (1, drop 8 text) else None)

-- ---- the fields

-- the bytes of a value up to the end of its line
abbrev pub value_ended : List ℕ → List ℕ × List ℕ → Read Field
value_ended name found = and_then (newline found.1) (λ end rest. Some (record { name = name; raw = found.0; end = end }, rest))

unfoldable pub field : List ℕ → Read Field
field text = and_then (word is_token_byte 58 text) (λ name rest. value_ended name (run is_value_byte rest))

-- the fields behind a field
abbrev pub one_field : Field → Read (List Field × LineEnd) → Read (List Field × LineEnd)
one_field f found = and_then found (λ fields rest. Some ((f ∷ fields.0, fields.1), rest))

-- an empty line ends the fields
abbrev pub section_from : List ℕ → (List ℕ → Read (List Field × LineEnd)) → Read LineEnd → Read (List Field × LineEnd)
section_from text later (Some x) = Some (([], x.0), x.1)
section_from text later None = and_then (field text) (λ f rest. one_field f (later rest))

-- the fields and the empty line behind them, of at most so many lines
unfoldable pub section : ℕ → List ℕ → Read (List Field × LineEnd)
section zero text = None
section (suc n) text = section_from text (section n) (newline text)

-- ---- the head

-- the parts that were read, and what is behind the request line
abbrev pub head_parts : List LineEnd → List ℕ → Read RequestHead
head_parts lines text =
    and_then (word is_token_byte 32 text) (λ method after_method.
    and_then (word is_uri_byte 32 after_method) (λ word after_target.
    and_then (text_only word after_target) (λ target after_text.
    and_then (version after_text) (λ minor after_version.
    and_then (newline after_version) (λ end after_line.
    and_then (section (length after_line) after_line) (λ fields rest.
    Some (record { blank = lines; method = method; target = target; minor = minor; line_end = end; fields = fields.0; last = fields.1 }, rest)))))))

-- nothing is behind the head
abbrev pub alone : Read RequestHead → Option RequestHead
alone None = None
alone (Some (head, [])) = Some head
alone (Some (head, b ∷ rest)) = None

-- the head that these bytes are, from the first to the last
unfoldable pub head_of : List ℕ → Option RequestHead
head_of bytes = alone (head_parts (blank_lines (length bytes) bytes).0 (blank_lines (length bytes) bytes).1)
