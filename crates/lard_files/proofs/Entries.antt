-- The entries of the map of vectors, seen as pairs of a path and its bytes.
use Rattle.std.proofs.Common.{◌≡◌, ℕ, suc, ◌+◌, ◌≤◌, ◌^◌, Bool, true, false, List, [], ◌∷◌, ◌++◌, length, Option, Some, None, Result, Ok, Err, is_some, cond, refl, ap, ◌∙◌, Vec, Global, arith, nat_lt}
use Rattle.std.proofs.lemmas.Bool.Decides.{nat_tests}
use Rattle.std.proofs.lemmas.List.Sums.{sum_by-append}
use Rattle.std.specs.Str.{bytes_eq}
use Rattle.std.specs.Map.{lookup}
use Rattle.indexmap.specs.IndexMap.{insert_entry}
use Rattle.lard_files.specs.declared.fault.FileFault.{FileFault}
use Rattle.lard_files.specs.declared.fault.FileFault.TheVariants.{Repeated, TooLong, TooMany, TooMuch}
use Rattle.lard_files.specs.Files.{files_shown, file_at, files_total, add_check}

-- a look-up among the entries is one among the pairs
pub lookup-shown : (es : List (Vec ℕ Global × List ℕ)) (q : List ℕ) → lookup (λ k. bytes_eq q k.items) es ≡ file_at (files_shown es) q
lookup-shown [] q = refl
lookup-shown (e ∷ es) q = ap (λ o. cond {A = Option (List ℕ)} (bytes_eq q e.0.items) (Some e.1) o) (lookup-shown es q)

-- an entry under a path that was not there goes last
shown-insert : (es : List (Vec ℕ Global × List ℕ)) (k : Vec ℕ Global) (v : List ℕ) → file_at (files_shown es) k.items ≡ None
    → files_shown (insert_entry (λ x y. bytes_eq x.items y.items) es k v) ≡ files_shown es ++ (k.items, v) ∷ []
shown-insert [] k v none = refl
shown-insert (e ∷ es) k v none = go (shown-insert es k v) (bytes_eq k.items e.0.items) none where
  go : (file_at (files_shown es) k.items ≡ None → files_shown (insert_entry (λ x y. bytes_eq x.items y.items) es k v) ≡ files_shown es ++ (k.items, v) ∷ [])
      → (b : Bool) → cond {A = Option (List ℕ)} b (Some e.1) (file_at (files_shown es) k.items) ≡ None
      → files_shown (cond b ((e.0, v) ∷ es) (e ∷ insert_entry (λ x y. bytes_eq x.items y.items) es k v)) ≡ (e.0.items, e.1) ∷ (files_shown es ++ (k.items, v) ∷ [])
  go more true n = cc
  go more false n = ap (λ xs. (e.0.items, e.1) ∷ xs) (more n)

-- the pairs after the insertion of a file whose path was not there
pub shown-added : (es fs : List (Vec ℕ Global × List ℕ)) (k : Vec ℕ Global) (v : List ℕ) (files : List (List ℕ × List ℕ)) (path bytes : List ℕ)
    → files_shown es ≡ files → k.items ≡ path → v ≡ bytes → file_at files path ≡ None → fs ≡ insert_entry (λ x y. bytes_eq x.items y.items) es k v
    → files_shown fs ≡ files ++ (path, bytes) ∷ []
shown-added es fs k v files path bytes seen key value none e =
    ap files_shown e
    ∙ shown-insert es k v (ap (λ m. file_at m k.items) seen ∙ ap (file_at files) key ∙ none)
    ∙ ap (λ m. m ++ (k.items, v) ∷ []) seen ∙ ap (λ p. files ++ (p, v) ∷ []) key ∙ ap (λ b. files ++ (path, b) ∷ []) value

-- there are as many pairs as entries
pub length-shown : (es : List (Vec ℕ Global × List ℕ)) → length (files_shown es) ≡ length es
length-shown [] = refl
length-shown (e ∷ es) = ap suc (length-shown es)

-- the lengths of all files with one more
pub total-added : (files : List (List ℕ × List ℕ)) (path bytes : List ℕ) → files_total (files ++ (path, bytes) ∷ []) ≡ files_total files + length bytes
total-added files path bytes = omega (arith, sum_by-append (λ f. length f.1) files ((path, bytes) ∷ []))

-- what a file that passes the check knows
pub record IsAllowed (files : List (List ℕ × List ℕ)) (path : List ℕ) (len : ℕ) : Type 0 where
  pub absent : file_at files path ≡ None
  pub short : len ≤ 2 ^ 20
  pub fits : files_total files + len ≤ 2 ^ 26

pub allowed : (files : List (List ℕ × List ℕ)) (path : List ℕ) (len : ℕ) → add_check files path len ≡ Ok tt → IsAllowed files path len
allowed files path len = go (file_at files path) (nat_lt (2 ^ 20) len) (nat_lt 65536 (length files + 1)) (nat_lt (2 ^ 26) (files_total files + len)) refl refl refl where
  go : (o : Option (List ℕ)) (b c d : Bool) → file_at files path ≡ o → nat_lt (2 ^ 20) len ≡ b → nat_lt (2 ^ 26) (files_total files + len) ≡ d
      → cond {A = Result (Unit {0}) FileFault} (is_some o) (Err Repeated) (cond b (Err (TooLong len)) (cond c (Err (TooMany (length files + 1))) (cond d (Err (TooMuch (files_total files + len))) (Ok tt)))) ≡ Ok tt
      → IsAllowed files path len
  go (Some x) b c d e s f h = cc
  go None true c d e s f h = cc
  go None false true d e s f h = cc
  go None false false true e s f h = cc
  go None false false false e s f h = record { absent = e; short = grind (arith, nat_tests, s); fits = grind (arith, nat_tests, f) }
