-- The queued bytes that are not acknowledged, as they are kept: a queue of parts, and how many bytes of the first are dropped.
use Rattle.std.specs.Prelude.{ℕ, ◌≡◌, ◌<◌, List, [], ◌∷◌, length, drop}
use Rattle.std.specs.List.{concat}

-- What is left of them.
abbrev pub bytes_left : ℕ → List (List ℕ) → List ℕ
bytes_left dropped parts = drop dropped (concat parts)

-- Each part has a byte.
abbrev pub AreFilled : List (List ℕ) → Type 0
AreFilled [] = Unit {0}
AreFilled (p ∷ ps) = (0 < length p) × AreFilled ps

-- Each part has a byte that is left.
abbrev pub AreWanted : ℕ → List (List ℕ) → Type 0
AreWanted dropped [] = dropped ≡ 0
AreWanted dropped (p ∷ ps) = (dropped < length p) × AreFilled ps
