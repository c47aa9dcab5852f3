-- How many rounds surely settle a journal: by what its clients wrote, and what that is answered with.
use Rattle.std.specs.Prelude.{◌≡◌, ℕ, ◌+◌, ◌*◌, ◌<◌, ◌≤◌, false, List, [], ◌∷◌, ◌++◌, length}
use Rattle.std.specs.List.{fold}
use Rattle.lard_law_view.specs.Prelude.{FilesAt, Rec, answer_bytes, blocks, is_touched, wrote}
use Rattle.lard_journal.specs.declared.rec.Rec.TheVariants as rec

abbrev pub opener_step : List ℕ → Rec → List ℕ
opener_step cs (rec.Opened c isn iss wnd mss) = cs ++ c ∷ []
opener_step cs _ = cs

-- the clients that opened, in order
abbrev pub openers : List Rec → List ℕ
openers J = fold opener_step [] J

abbrev pub total_of : (ℕ → ℕ) → List ℕ → ℕ
total_of f [] = 0
total_of f (c ∷ cs) = f c + total_of f cs

-- the requests of a client: the blocks of what it wrote
abbrev pub requests_of : List Rec → ℕ → ℕ
requests_of J c = length (blocks (wrote J c))

-- the bytes that it wrote, and those of all responses to them
abbrev pub bytes_both_ways : FilesAt → List Rec → ℕ → ℕ
bytes_both_ways files J c = length (wrote J c) + length (answer_bytes files (wrote J c))

-- 128 for each client and one more, 64 for each request, 16 for each byte that was written or is answered
abbrev pub settling_bound : FilesAt → List Rec → ℕ
settling_bound files J = 128 * (length (openers J) + 1) + 64 * total_of (requests_of J) (openers J) + 16 * total_of (bytes_both_ways files J) (openers J)

-- the schedule put no packet on the way in a client's name, and each client wrote fewer than 16,383 bytes
abbrev pub IsOrdinary : List Rec → Type 0
IsOrdinary J = (c : ℕ) → (is_touched J c ≡ false) × (length (wrote J c) < 16383)

-- Nine rounds for each unit of what is left to do, nine more, and two before them are within the bound, where there are at most 14 units
-- for each client, 7 for each request, and one for each byte.
abbrev pub NineRoundsAUnitSuffice : Type 0
NineRoundsAUnitSuffice = (files : FilesAt) (J : List Rec) (units : ℕ) → units ≤ total_of (bytes_both_ways files J) (openers J) + 14 * length (openers J) + 7 * total_of (requests_of J) (openers J)
    → 9 * (units + 1) + 2 ≤ settling_bound files J
