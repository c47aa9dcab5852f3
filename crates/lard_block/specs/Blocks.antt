-- How bytes are divided into blocks, each the head of a request (RFC 9112, 2.1 and 2.2).
use Rattle.std.specs.Prelude.{◌≡◌, ℕ, zero, suc, ◌+◌, ◌≤◌, ◌<◌, List, [], ◌∷◌, ◌++◌, map, length, take, drop, Option, Some, None, nat_eq, nat_lt, if◌then◌else◌}
use Rattle.std.specs.List.{starts_with}
use Rattle.std.specs.Option.{option_map}
use Rattle.lard_block.specs.declared.block.TheConstants.{MAX_HEAD_BYTES}
use Rattle.lard_block.specs.declared.block.Found.{Found}
use Rattle.lard_block.specs.declared.block.Found.TheVariants.{Block, More, TooLong}

-- how many bytes the leading pairs CR LF have, which are skipped
unfoldable pub skipped : List ℕ → ℕ
skipped [] = 0
skipped (a ∷ []) = 0
skipped (a ∷ b ∷ rest) = if starts_with nat_eq (a ∷ b ∷ rest) (13 ∷ 10 ∷ []) then skipped rest + 2 else 0

-- the place behind the first CR LF CR LF, if there is one
unfoldable pub head_end : List ℕ → Option ℕ
head_end [] = None
head_end (a ∷ rest) = if starts_with nat_eq (a ∷ rest) (13 ∷ 10 ∷ 13 ∷ 10 ∷ []) then Some 4 else option_map (λ n. n + 1) (head_end rest)

-- what is found behind the skipped bytes, of which there are so many: the end of a head within 8,192 bytes; else it is too long, or more is awaited
abbrev pub head_found : ℕ → ℕ → Option ℕ → Found
head_found skip behind (Some len) = Block skip len
head_found skip behind None = if nat_lt behind MAX_HEAD_BYTES then More skip else TooLong skip

abbrev pub found_in : ℕ → List ℕ → Found
found_in skip rest = head_found skip (length rest) (head_end (take MAX_HEAD_BYTES rest))

-- what is found at the front of some bytes
unfoldable pub cut_of : List ℕ → Found
cut_of bytes = found_in (skipped bytes) (drop (skipped bytes) bytes)

-- the places that an answer names lie within n bytes
abbrev pub IsWithin : Found → ℕ → Type 0
IsWithin (Block skip len) n = (4 ≤ len) × (len ≤ MAX_HEAD_BYTES) × (skip + len ≤ n)
IsWithin (More skip) n = (skip ≤ n) × (n < skip + MAX_HEAD_BYTES)
IsWithin (TooLong skip) n = skip + MAX_HEAD_BYTES ≤ n

-- a part of the division: a block and the place behind it, or what is too long for a block
pub data Piece : Type 0 where
  Head : List ℕ → ℕ → Piece
  Long : Piece

-- a piece that stands so many bytes further
abbrev pub piece_moved : ℕ → Piece → Piece
piece_moved by (Head block after) = Head block (by + after)
piece_moved by Long = Long

-- the pieces that begin with what is found; `later` gives those behind a place, counted from the front
abbrev pub pieces_from : List ℕ → (ℕ → List Piece) → Found → List Piece
pieces_from q later (Block skip len) = Head (take len (drop skip q)) (skip + len) ∷ later (skip + len)
pieces_from q later (More skip) = []
pieces_from q later (TooLong skip) = Long ∷ []

-- the first pieces of some bytes, at most so many
unfoldable pub pieces : ℕ → List ℕ → List Piece
pieces zero q = []
pieces (suc n) q = pieces_from q (λ used. map (piece_moved used) (pieces n (drop used q))) (cut_of q)

-- the division of some bytes: their blocks in order, up to the last or the first that is too long
unfoldable pub blocks : List ℕ → List Piece
blocks q = pieces (length q) q

-- a way to divide all bytes: what is found first, and then the bytes behind it in the same way
abbrev pub Divides : (List ℕ → List Piece) → Type 0
Divides division = (q : List ℕ) → division q ≡ pieces_from q (λ used. map (piece_moved used) (division (drop used q))) (cut_of q)

-- x is divided into these pieces whatever follows it
abbrev pub Cuts : List ℕ → List Piece → Type 0
Cuts x ps = (z : List ℕ) → blocks (x ++ z) ≡ ps ++ map (piece_moved (length x)) (blocks z)
