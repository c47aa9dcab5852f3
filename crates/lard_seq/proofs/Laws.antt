-- The laws of sequence numbers and their offsets.
use Rattle.std.proofs.Common.{◌≡◌, ℕ, ◌+◌, ◌^◌, ◌<◌, arith}
use Rattle.lard_seq.specs.Seq.{seq_add, seq_offset}

-- the offset of what is n after b is n
pub offset-add : (b n : ℕ) → b < 2 ^ 32 → n < 2 ^ 32 → seq_offset (seq_add b n) b ≡ n
offset-add b n hb hn = omega arith

-- a base and an offset from it lead back to the number
pub add-offset : (s b : ℕ) → s < 2 ^ 32 → b < 2 ^ 32 → seq_add b (seq_offset s b) ≡ s
add-offset s b hs hb = omega arith

-- to add m and then n is to add both at once
pub add-add : (b m n : ℕ) → seq_add (seq_add b m) n ≡ seq_add b (m + n)
add-add b m n = omega arith

-- offsets add up while they stay below 2^32
pub offset-offset : (a b s : ℕ) → a < 2 ^ 32 → b < 2 ^ 32 → s < 2 ^ 32
    → seq_offset b a + seq_offset s b < 2 ^ 32 → seq_offset s a ≡ seq_offset b a + seq_offset s b
offset-offset a b s ha hb hs h = omega arith
