-- What is found at the front of some bytes, said without a search (RFC 9112, 2.1 and 2.2).
use Rattle.std.specs.Prelude.{◌≡◌, ℕ, zero, suc, ◌*◌, ◌≤◌, ◌<◌, List, [], ◌∷◌, ◌++◌, length, take, drop}
use Rattle.lard_block.specs.declared.block.TheConstants.{MAX_HEAD_BYTES}
use Rattle.lard_block.specs.declared.block.Found.{Found}
use Rattle.lard_block.specs.declared.block.Found.TheVariants.{Block, More, TooLong}

-- so many pairs CR LF
abbrev pub pairs : ℕ → List ℕ
pairs zero = []
pairs (suc n) = 13 ∷ 10 ∷ pairs n

-- the bytes begin with so many pairs
abbrev pub BeginsWithPairs : List ℕ → ℕ → Type 0
BeginsWithPairs q n = (rest : List ℕ) × (q ≡ pairs n ++ rest)

-- the longest run of pairs at the front has skip bytes
pub record IsSkipped (q : List ℕ) (skip : ℕ) : Type 0 where
  pub count : ℕ
  pub size : skip ≡ 2 * count
  pub begins : BeginsWithPairs q count
  pub longest : (more : ℕ) → BeginsWithPairs q more → more ≤ count

-- the first n bytes end by CR LF CR LF
pub record EndsAt (x : List ℕ) (n : ℕ) : Type 0 where
  pub within : n ≤ length x
  pub before : List ℕ
  pub ends : take n x ≡ before ++ 13 ∷ 10 ∷ 13 ∷ 10 ∷ []

-- the first n bytes end by the first CR LF CR LF
pub record IsFirstEnd (x : List ℕ) (n : ℕ) : Type 0 where
  pub ends : EndsAt x n
  pub first : (other : ℕ) → EndsAt x other → n ≤ other

-- no CR LF CR LF ends within the first 8,192 bytes
abbrev pub HasNoEnd : List ℕ → Type 0
HasNoEnd x = (n : ℕ) → EndsAt x n → MAX_HEAD_BYTES < n

-- what may be answered of some bytes: a block that ends by the first CR LF CR LF behind the longest run of pairs and has at most 8,192 bytes;
-- where none ends within so many, that more may come as long as there are fewer bytes, and else that it is too long
abbrev pub IsFound : List ℕ → Found → Type 0
IsFound q (Block skip len) = IsSkipped q skip × IsFirstEnd (drop skip q) len × (len ≤ MAX_HEAD_BYTES)
IsFound q (More skip) = IsSkipped q skip × HasNoEnd (drop skip q) × (length (drop skip q) < MAX_HEAD_BYTES)
IsFound q (TooLong skip) = IsSkipped q skip × HasNoEnd (drop skip q) × (MAX_HEAD_BYTES ≤ length (drop skip q))
