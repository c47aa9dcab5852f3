-- The sizes of files, and that servers are nodes, stay as requests are assigned.
use Rattle.std.proofs.Common.{◌≡◌, ℕ, Bool, true, false, List, [], ◌∷◌, map, Option, Some, None, IfSome, cond, refl, sym, ap, subst}
use Rattle.std.specs.Map.{lookup}
use Rattle.std.specs.Str.{bytes_eq}
use Rattle.lard_lab.specs.declared.targets.Target.{Target}
use Rattle.lard_lab.specs.Report.{File}
use Rattle.lard_lab.specs.Targets.{AreFresh, fresh_target, target_at, with_target}

-- the size of a target that is found
abbrev pub size_found : Option Target → Option ℕ
size_found None = None
size_found (Some t) = Some t.size

-- the targets of a trace's files
abbrev pub fresh_all : List File → List (List ℕ × Target)
fresh_all files = map (λ f. (f.0, fresh_target f.1)) files

pub fresh-sizes : (files : List File) (q : List ℕ) → size_found (target_at (fresh_all files) q) ≡ lookup (bytes_eq q) files
fresh-sizes [] q = refl
fresh-sizes (f ∷ files) q = go (bytes_eq q f.0) (fresh-sizes files q) where
  go : (b : Bool) → size_found (target_at (fresh_all files) q) ≡ lookup (bytes_eq q) files
      → size_found (cond {A = Option Target} b (Some (fresh_target f.1)) (target_at (fresh_all files) q)) ≡ cond {A = Option ℕ} b (Some f.1) (lookup (bytes_eq q) files)
  go true e = refl
  go false e = e

-- a target in place of one of the same size
pub same-sizes : (ts : List (List ℕ × Target)) (path : List ℕ) (old t : Target) (q : List ℕ) → target_at ts path ≡ Some old → t.size ≡ old.size
    → size_found (target_at (with_target ts path t) q) ≡ size_found (target_at ts q)
same-sizes [] path old t q there size = refl
same-sizes (e ∷ es) path old t q there size = go (same-sizes es path old t q) (bytes_eq path e.0) there where
  here : (b : Bool) → t.size ≡ e.1.size → size_found (cond {A = Option Target} b (Some t) (target_at es q)) ≡ size_found (cond {A = Option Target} b (Some e.1) (target_at es q))
  here true same = ap Some same
  here false same = refl

  inner : (b : Bool) → size_found (target_at (with_target es path t) q) ≡ size_found (target_at es q)
      → size_found (cond {A = Option Target} b (Some e.1) (target_at (with_target es path t) q)) ≡ size_found (cond {A = Option Target} b (Some e.1) (target_at es q))
  inner true same = refl
  inner false same = same

  go : (target_at es path ≡ Some old → t.size ≡ old.size → size_found (target_at (with_target es path t) q) ≡ size_found (target_at es q))
      → (a : Bool) → cond {A = Option Target} a (Some e.1) (target_at es path) ≡ Some old
      → size_found (target_at (cond a ((e.0, t) ∷ es) (e ∷ with_target es path t)) q) ≡ size_found (cond {A = Option Target} (bytes_eq q e.0) (Some e.1) (target_at es q))
  go more true h = let same : t.size ≡ e.1.size = cc in here (bytes_eq q e.0) same
  go more false h = inner (bytes_eq q e.0) (more h size)

-- what holds of each target that no request was for holds of all at first
pub fresh-each : (P : Target → Type 0) (files : List File) (q : List ℕ) → ((size : ℕ) → P (fresh_target size)) → IfSome (target_at (fresh_all files) q) P
fresh-each P [] q each = tt
fresh-each P (f ∷ files) q each = go (bytes_eq q f.0) (fresh-each P files q each) where
  go : (b : Bool) → IfSome (target_at (fresh_all files) q) P → IfSome (cond {A = Option Target} b (Some (fresh_target f.1)) (target_at (fresh_all files) q)) P
  go true h = each f.1
  go false h = h

-- the same of targets by themselves
pub fresh-found : (P : Target → Type 0) (targets : List (List ℕ × Target)) (q : List ℕ) → ((size : ℕ) → P (fresh_target size)) → AreFresh targets → IfSome (target_at targets q) P
fresh-found P [] q each all = tt
fresh-found P (t ∷ ts) q each all = go (bytes_eq q t.0) (fresh-found P ts q each all.1) where
  go : (b : Bool) → IfSome (target_at ts q) P → IfSome (cond {A = Option Target} b (Some t.1) (target_at ts q)) P
  go true h = subst P (sym all.0) (each t.1.size)
  go false h = h
