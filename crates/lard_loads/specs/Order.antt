-- The order of nodes by their loads, and the first of a list of nodes in it.
use Rattle.std.specs.Prelude.{ℕ, Bool, ◌&&◌, ◌||◌, nat_eq, nat_lt, if◌then◌else◌, List, [], ◌∷◌, Option, Some, None}

-- a node comes before another where its load is less, and at a tie where its number is lower
abbrev pub is_before : (ℕ → ℕ) → ℕ → ℕ → Bool
is_before load n m = nat_lt (load n) (load m) || (nat_eq (load n) (load m) && nat_lt n m)

-- of a node and the first of others, the first
abbrev pub earlier : (ℕ → ℕ → Bool) → ℕ → Option ℕ → ℕ
earlier before n None = n
earlier before n (Some m) = if before m n then m else n

-- the first of these nodes in some order
abbrev pub first_in : (ℕ → ℕ → Bool) → List ℕ → Option ℕ
first_in before [] = None
first_in before (n ∷ ns) = Some (earlier before n (first_in before ns))

-- the least loaded of these nodes, the lowest number at a tie
abbrev pub least_in : (ℕ → ℕ) → List ℕ → Option ℕ
least_in load ns = first_in (is_before load) ns

-- the most loaded of these nodes, the highest number at a tie
abbrev pub most_in : (ℕ → ℕ) → List ℕ → Option ℕ
most_in load ns = first_in (λ n m. is_before load m n) ns
