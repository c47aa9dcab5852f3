-- Sequence numbers are counted modulo 2^32 (RFC 9293, 3.4).
use Rattle.std.specs.Prelude.{◌≡◌, ℕ, ◌+◌, ◌-◌, ◌%◌, ◌^◌, ◌<◌, Bool, true, false}

-- the number that is n after b
abbrev pub seq_add : ℕ → ℕ → ℕ
seq_add b n = (b + n) % 2 ^ 32

-- how far s is after b, for two sequence numbers
abbrev pub seq_offset : ℕ → ℕ → ℕ
seq_offset s b = (s + 2 ^ 32 - b) % 2 ^ 32

-- how many numbers a SYN or a FIN takes, where there is one
abbrev pub one_if : Bool → ℕ
one_if true = 1
one_if false = 0

-- The four laws by which callers count in offsets.
abbrev pub OffsetIsWhatWasAdded : Type 0
OffsetIsWhatWasAdded = (b n : ℕ) → b < 2 ^ 32 → n < 2 ^ 32 → seq_offset (seq_add b n) b ≡ n

abbrev pub OffsetLeadsBack : Type 0
OffsetLeadsBack = (s b : ℕ) → s < 2 ^ 32 → b < 2 ^ 32 → seq_add b (seq_offset s b) ≡ s

abbrev pub AddsInOneGo : Type 0
AddsInOneGo = (b m n : ℕ) → seq_add (seq_add b m) n ≡ seq_add b (m + n)

abbrev pub OffsetsCompose : Type 0
OffsetsCompose = (a b s : ℕ) → a < 2 ^ 32 → b < 2 ^ 32 → s < 2 ^ 32
    → seq_offset b a + seq_offset s b < 2 ^ 32 → seq_offset s a ≡ seq_offset b a + seq_offset s b
