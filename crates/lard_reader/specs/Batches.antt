-- What a reader takes of the bytes that were not read yet (RFC 9112, 9.3.2): the next verdicts, and the bytes they use.
use Rattle.std.specs.Prelude.{ℕ, zero, suc, ◌+◌, Bool, true, false, List, length, take, drop, if◌then◌else◌}
use Rattle.std.specs.List.{list_any}
use Rattle.lard_block.specs.declared.block.Found.{Found}
use Rattle.lard_block.specs.declared.block.Found.TheVariants.{Block, More, TooLong}
use Rattle.lard_block.specs.Blocks.{cut_of, Piece, Head, Long, blocks}
use Rattle.lard_request.specs.declared.verdict.Verdict.{Verdict}
use Rattle.lard_request.specs.Verdict.{closes, verdict}
use Rattle.lard_answers.specs.Answers.{verdicts}

-- the next verdicts, at most so many, up to and with the first that closes
abbrev pub batch_of : ℕ → List ℕ → List Verdict
batch_of n q = take n (verdicts q)

-- the bytes used where this is found at the front; `later` gives those used behind a block: pairs CR LF that are skipped
-- and a block; the pairs before a head that is not whole yet; or all bytes, where a head is too long
abbrev pub used_from : List ℕ → (List ℕ → ℕ) → Found → ℕ
used_from q later (Block skip len) = skip + len + (if closes (verdict (take len (drop skip q))) then 0 else later (drop (skip + len) q))
used_from q later (More skip) = skip
used_from q later (TooLong skip) = length q

-- the bytes that the next verdicts use, at most so many verdicts
unfoldable pub bytes_used : ℕ → List ℕ → ℕ
bytes_used zero q = 0
bytes_used (suc n) q = used_from q (bytes_used n) (cut_of q)

-- the pieces that these verdicts are on
abbrev pub batch_pieces : ℕ → List ℕ → List Piece
batch_pieces n q = take (length (batch_of n q)) (blocks q)

-- a head that is too long is among these pieces
abbrev pub is_long : Piece → Bool
is_long (Head block after) = false
is_long Long = true

abbrev pub has_long : List Piece → Bool
has_long ps = list_any is_long ps
