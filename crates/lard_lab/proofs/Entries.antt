-- The entries of the map of vectors, seen as pairs of a path and what is kept of it.
use Rattle.std.proofs.Common.{◌≡◌, ℕ, suc, ◌+◌, ◌≤◌, ◌^◌, Bool, true, false, List, [], ◌∷◌, ◌++◌, length, Option, Some, None, Result, Ok, Err, is_some, cond, refl, sym, ap, ◌∙◌, Vec, Global, arith, nat_lt}
use Rattle.std.proofs.lemmas.Bool.Decides.{nat_tests}
use Rattle.std.proofs.lemmas.List.Sums.{sum_by-append}
use Rattle.std.specs.Str.{bytes_eq}
use Rattle.std.specs.Map.{lookup, set_value}
use Rattle.indexmap.specs.IndexMap.{insert_entry}
use Rattle.lard_files.specs.declared.fault.FileFault.{FileFault}
use Rattle.lard_files.specs.declared.fault.FileFault.TheVariants.{Repeated, TooLong, TooMany, TooMuch}
use Rattle.lard_lab.specs.declared.targets.Target.{Target}
use Rattle.lard_lab.specs.Targets.{targets_shown, target_at, targets_total, target_check, with_target}

-- a look-up among the entries is one among the pairs
pub lookup-shown : (es : List (Vec ℕ Global × Target)) (q : List ℕ) → lookup (λ k. bytes_eq q k.items) es ≡ target_at (targets_shown es) q
lookup-shown [] q = refl
lookup-shown (e ∷ es) q = ap (λ o. cond {A = Option Target} (bytes_eq q e.0.items) (Some e.1) o) (lookup-shown es q)

-- an entry under a path that was not there goes last
shown-insert : (es : List (Vec ℕ Global × Target)) (k : Vec ℕ Global) (v : Target) → target_at (targets_shown es) k.items ≡ None
    → targets_shown (insert_entry (λ x y. bytes_eq x.items y.items) es k v) ≡ targets_shown es ++ (k.items, v) ∷ []
shown-insert [] k v none = refl
shown-insert (e ∷ es) k v none = go (shown-insert es k v) (bytes_eq k.items e.0.items) none where
  go : (target_at (targets_shown es) k.items ≡ None → targets_shown (insert_entry (λ x y. bytes_eq x.items y.items) es k v) ≡ targets_shown es ++ (k.items, v) ∷ [])
      → (b : Bool) → cond {A = Option Target} b (Some e.1) (target_at (targets_shown es) k.items) ≡ None
      → targets_shown (cond b ((e.0, v) ∷ es) (e ∷ insert_entry (λ x y. bytes_eq x.items y.items) es k v)) ≡ (e.0.items, e.1) ∷ (targets_shown es ++ (k.items, v) ∷ [])
  go more true n = cc
  go more false n = ap (λ xs. (e.0.items, e.1) ∷ xs) (more n)

-- the pairs after the insertion of a target whose path was not there
pub shown-added : (es fs : List (Vec ℕ Global × Target)) (k : Vec ℕ Global) (v new : Target) (targets : List (List ℕ × Target)) (path : List ℕ)
    → targets_shown es ≡ targets → k.items ≡ path → v ≡ new → target_at targets path ≡ None → fs ≡ insert_entry (λ x y. bytes_eq x.items y.items) es k v
    → targets_shown fs ≡ targets ++ (path, new) ∷ []
shown-added es fs k v new targets path seen key value none e =
    ap targets_shown e
    ∙ shown-insert es k v (ap (λ m. target_at m k.items) seen ∙ ap (target_at targets) key ∙ none)
    ∙ ap (λ m. m ++ (k.items, v) ∷ []) seen ∙ ap (λ p. targets ++ (p, v) ∷ []) key ∙ ap (λ t. targets ++ (path, t) ∷ []) value

-- what is written in its place among the entries is written among the pairs
pub shown-set_value : (es : List (Vec ℕ Global × Target)) (q : List ℕ) (v : Target) → targets_shown (set_value (λ k. bytes_eq q k.items) es v) ≡ with_target (targets_shown es) q v
shown-set_value [] q v = refl
shown-set_value (e ∷ es) q v = go (bytes_eq q e.0.items) (shown-set_value es q v) where
  go : (b : Bool) → targets_shown (set_value (λ k. bytes_eq q k.items) es v) ≡ with_target (targets_shown es) q v
      → targets_shown (cond b ((e.0, v) ∷ es) (e ∷ set_value (λ k. bytes_eq q k.items) es v)) ≡ cond b ((e.0.items, v) ∷ targets_shown es) ((e.0.items, e.1) ∷ with_target (targets_shown es) q v)
  go true more = refl
  go false more = ap (λ xs. (e.0.items, e.1) ∷ xs) more

-- where nothing is kept of a path nothing is written
pub none_written : (targets : List (List ℕ × Target)) (q : List ℕ) (v : Target) → target_at targets q ≡ None → with_target targets q v ≡ targets
none_written [] q v none = refl
none_written (t ∷ ts) q v none = go (none_written ts q v) (bytes_eq q t.0) none where
  go : (target_at ts q ≡ None → with_target ts q v ≡ ts) → (b : Bool) → cond {A = Option Target} b (Some t.1) (target_at ts q) ≡ None
      → cond b ((t.0, v) ∷ ts) (t ∷ with_target ts q v) ≡ t ∷ ts
  go more true n = cc
  go more false n = ap (λ xs. t ∷ xs) (more n)

-- what was found is replaced by a target of the same size: the sizes add up to what they did
pub total_same : (targets : List (List ℕ × Target)) (q : List ℕ) (old v : Target) → target_at targets q ≡ Some old → v.size ≡ old.size → targets_total (with_target targets q v) ≡ targets_total targets
total_same [] q old v there same = cc
total_same (t ∷ ts) q old v there same = go (total_same ts q old v) (bytes_eq q t.0) there where
  go : (target_at ts q ≡ Some old → v.size ≡ old.size → targets_total (with_target ts q v) ≡ targets_total ts) → (b : Bool) → cond {A = Option Target} b (Some t.1) (target_at ts q) ≡ Some old
      → targets_total (cond b ((t.0, v) ∷ ts) (t ∷ with_target ts q v)) ≡ targets_total (t ∷ ts)
  go more true h = let is : t.1 ≡ old = cc in let size : v.size ≡ t.1.size = same ∙ ap (λ (x : Target). x.size) (sym is) in
      let one = sum_by-append (λ (t : List ℕ × Target). t.1.size) ((t.0, v) ∷ []) ts in
      let two = sum_by-append (λ (t : List ℕ × Target). t.1.size) (t ∷ []) ts in omega (arith, one, two, size)
  go more false h =
      let one = sum_by-append (λ (t : List ℕ × Target). t.1.size) (t ∷ []) (with_target ts q v) in
      let two = sum_by-append (λ (t : List ℕ × Target). t.1.size) (t ∷ []) ts in omega (arith, one, two, more h same)

-- there are as many pairs as entries
pub length-shown : (es : List (Vec ℕ Global × Target)) → length (targets_shown es) ≡ length es
length-shown [] = refl
length-shown (e ∷ es) = ap suc (length-shown es)

-- the sizes of all files with one more
pub total-added : (targets : List (List ℕ × Target)) (path : List ℕ) (t : Target) → targets_total (targets ++ (path, t) ∷ []) ≡ targets_total targets + t.size
total-added targets path t = omega (arith, sum_by-append (λ (t : List ℕ × Target). t.1.size) targets ((path, t) ∷ []))

-- what a file that passes the check knows
pub record IsAllowed (targets : List (List ℕ × Target)) (path : List ℕ) (size : ℕ) : Type 0 where
  pub absent : target_at targets path ≡ None
  pub short : size ≤ 2 ^ 20
  pub fits : targets_total targets + size ≤ 2 ^ 26

pub allowed : (targets : List (List ℕ × Target)) (path : List ℕ) (size : ℕ) → target_check targets path size ≡ Ok tt → IsAllowed targets path size
allowed targets path size = go (target_at targets path) (nat_lt (2 ^ 20) size) (nat_lt 65536 (length targets + 1)) (nat_lt (2 ^ 26) (targets_total targets + size)) refl refl refl where
  go : (o : Option Target) (b c d : Bool) → target_at targets path ≡ o → nat_lt (2 ^ 20) size ≡ b → nat_lt (2 ^ 26) (targets_total targets + size) ≡ d
      → cond {A = Result (Unit {0}) FileFault} (is_some o) (Err Repeated) (cond b (Err (TooLong size)) (cond c (Err (TooMany (length targets + 1))) (cond d (Err (TooMuch (targets_total targets + size))) (Ok tt)))) ≡ Ok tt
      → IsAllowed targets path size
  go (Some x) b c d e s f h = cc
  go None true c d e s f h = cc
  go None false true d e s f h = cc
  go None false false true e s f h = cc
  go None false false false e s f h = record { absent = e; short = grind (arith, nat_tests, s); fits = grind (arith, nat_tests, f) }
