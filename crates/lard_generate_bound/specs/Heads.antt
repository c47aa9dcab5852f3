-- The bytes of requests for files that follow one another.
use Rattle.std.specs.Prelude.{ℕ, ◌<◌, List, [], ◌∷◌, ◌++◌}
use Rattle.lard_generate.specs.Clients.{request_head}

-- a file that there is
abbrev pub IsFileNumber : ℕ → Type 0
IsFileNumber file = file < 256

-- the heads of requests for these files, one behind another
abbrev pub heads : List ℕ → List ℕ
heads [] = []
heads (file ∷ files) = request_head file ++ heads files
