-- Draws: the words of PCG32, one after another, and what is made of them in order.
use Rattle.std.specs.Prelude.{ℕ, zero, suc, ◌+◌, ◌%◌, List, [], ◌++◌}
use Rattle.rand_pcg.specs.Lcg.{Lcg, started, increment_of}
use Rattle.rand_pcg.specs.Pcg.{multiplier_64, pcg32}

-- the generator of a seed, at stream 1
unfoldable pub seeded : ℕ → Lcg
seeded seed = started 64 multiplier_64 seed (increment_of 64 1)

-- the next word, and the generator behind it
unfoldable pub drawn_word : Lcg → ℕ
drawn_word g = (pcg32 g).0

unfoldable pub behind : Lcg → Lcg
behind g = (pcg32 g).1

-- a draw modulo m: the remainder of the next word
abbrev pub draw : ℕ → Lcg → ℕ
draw m g = drawn_word g % m

-- what f makes for 1, 2, .., n in order, each of the draws behind those of the one before, and the generator behind all of them
unfoldable pub each : {A : Type 0} → (ℕ → Lcg → List A × Lcg) → ℕ → Lcg → List A × Lcg
each f zero g = ([], g)
each f (suc n) g =
    let before = each f n g in
    let last = f (n + 1) before.1 in
    (before.0 ++ last.0, last.1)
