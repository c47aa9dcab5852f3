-- Sequence numbers of one direction, by their offsets from the first.
use Rattle.std.proofs.Common.{◌≡◌, ℕ, ◌-◌, ◌^◌, ◌<◌, ◌≤◌, arith}
use Rattle.lard_seq.specs.Seq.{seq_add, seq_offset}

pub offset_later : (first a b : ℕ) → first < 2 ^ 32 → b ≤ a → a ≤ 2 ^ 31 → seq_offset (seq_add first a) (seq_add first b) ≡ a - b
offset_later first a b hf hb ha = omega arith
