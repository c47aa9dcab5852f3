-- The generated files: 256 of them, whose lengths are drawn.
use Rattle.std.specs.Prelude.{ℕ, zero, suc, ◌+◌, ◌%◌, List, [], ◌∷◌, ◌++◌, codes, decimal, slice_index}
use Rattle.rand_pcg.specs.Lcg.{Lcg}
use Rattle.lard_generate.specs.Draws.{draw, behind}

-- f 0, f 1, .., f (n - 1)
unfoldable pub listed_to : {A : Type 0} → (ℕ → A) → ℕ → List A
listed_to f zero = []
listed_to f (suc n) = listed_to f n ++ f n ∷ []

-- /f0, /f1, ..
abbrev pub generated_path : ℕ → List ℕ
generated_path i = codes "/f" ++ decimal i

-- byte j of file i is i + j modulo 256
abbrev pub generated_content : ℕ → ℕ → List ℕ
generated_content i size = listed_to (λ j. (i + j) % 256) size

-- a file's size: 1 to 8,192 bytes
abbrev pub drawn_size : ℕ → Lcg → List ℕ × Lcg
drawn_size _ g = ((1 + draw 8192 g) ∷ [], behind g)

-- file i, where files have these sizes
abbrev pub generated_file : List ℕ → ℕ → List ℕ × List ℕ
generated_file sizes i = (generated_path i, generated_content i (slice_index sizes i))

-- the files with these sizes
abbrev pub generated_files : List ℕ → List (List ℕ × List ℕ)
generated_files sizes = listed_to (generated_file sizes) 256
