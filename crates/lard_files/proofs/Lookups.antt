-- What a look-up finds once a file is added.
use Rattle.std.proofs.Common.{◌≡◌, ◌≢◌, ℕ, Bool, true, false, List, [], ◌∷◌, ◌++◌, Option, Some, None, All, cond, refl, sym, ap, subst}
use Rattle.std.proofs.lemmas.Slice.Eq.{bytes_eq-Decides}
use Rattle.std.proofs.lemmas.List.Elements.{All-head, All-tail}
use Rattle.std.specs.Str.{bytes_eq}
use Rattle.lard_files.specs.Files.{IsFile, file_at}

-- a path is equal to itself, and a test of another is false
same : (q : List ℕ) → bytes_eq q q ≡ true
same q = (bytes_eq-Decides q q).1 refl

differs : (q p : List ℕ) → q ≢ p → bytes_eq q p ≡ false
differs q p n = go (bytes_eq q p) refl where
  go : (b : Bool) → bytes_eq q p ≡ b → b ≡ false
  go true e = absurd (n ((bytes_eq-Decides q p).0 e))
  go false e = refl

-- the file that was added is found where its path was not there
pub finds_added : (files : List (List ℕ × List ℕ)) (path bytes : List ℕ) → file_at files path ≡ None → file_at (files ++ (path, bytes) ∷ []) path ≡ Some bytes
finds_added [] path bytes none = ap (λ b. cond {A = Option (List ℕ)} b (Some bytes) None) (same path)
finds_added (f ∷ files) path bytes none = go (finds_added files path bytes) (bytes_eq path f.0) none where
  go : (file_at files path ≡ None → file_at (files ++ (path, bytes) ∷ []) path ≡ Some bytes)
      → (b : Bool) → cond {A = Option (List ℕ)} b (Some f.1) (file_at files path) ≡ None → cond {A = Option (List ℕ)} b (Some f.1) (file_at (files ++ (path, bytes) ∷ []) path) ≡ Some bytes
  go more true e = cc
  go more false e = more e

-- every other path has what it had
pub others_stay : (files : List (List ℕ × List ℕ)) (path bytes other : List ℕ) → other ≢ path → file_at (files ++ (path, bytes) ∷ []) other ≡ file_at files other
others_stay [] path bytes other n = ap (λ b. cond {A = Option (List ℕ)} b (Some bytes) None) (differs other path n)
others_stay (f ∷ files) path bytes other n = ap (λ o. cond {A = Option (List ℕ)} (bytes_eq other f.0) (Some f.1) o) (others_stay files path bytes other n)

-- a file that is found is one that may be kept
pub file-kept : (files : List (List ℕ × List ℕ)) (path bytes : List ℕ) → All IsFile files → file_at files path ≡ Some bytes → IsFile (path, bytes)
file-kept [] path bytes all h = cc
file-kept (f ∷ files) path bytes all h = go (file-kept files path bytes (All-tail IsFile f files all)) (bytes_eq path f.0) refl h where
  go : (file_at files path ≡ Some bytes → IsFile (path, bytes)) → (b : Bool) → bytes_eq path f.0 ≡ b → cond {A = Option (List ℕ)} b (Some f.1) (file_at files path) ≡ Some bytes → IsFile (path, bytes)
  go later true is e =
      let key : path ≡ f.0 = (bytes_eq-Decides path f.0).0 is in
      let value : f.1 ≡ bytes = cc in
      subst (λ p. IsFile (p, bytes)) (sym key) (subst (λ b. IsFile (f.0, b)) value (All-head IsFile f files all))
  go later false is e = later e
