-- What the bound pays for.
use Rattle.std.proofs.Common.{ℕ, ◌≤◌, ◌+◌, ◌*◌, arith}

pub enough : (clients requests bytes units : ℕ) → units ≤ bytes + 14 * clients + 7 * requests → 9 * (units + 1) + 2 ≤ 128 * (clients + 1) + 64 * requests + 16 * bytes
enough clients requests bytes units h = omega (arith, h)
