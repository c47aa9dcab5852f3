-- A head that was found in a block.
use Rattle.std.specs.Prelude.{◌≡◌, ℕ, List, Some}
use Rattle.httparse.specs.Grammar.{RequestHead}
use Rattle.httparse.specs.Spans.{IsRequestAt}
use Rattle.httparse.specs.declared.spans.HeaderSpan.{HeaderSpan}
use Rattle.httparse.specs.declared.spans.RequestSpans.{RequestSpans}
use Rattle.lard_request.specs.Head.{head_of}

-- the block is a head, and the spans cover its parts
abbrev pub IsHeadAt : List ℕ → List HeaderSpan → RequestSpans → Type 0
IsHeadAt block spans parts = (h : RequestHead) × (head_of block ≡ Some h) × IsRequestAt block spans parts h
