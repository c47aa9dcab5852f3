-- What the files of a schedule are: each path that names a file has a range.
use Rattle.std.proofs.Common.{◌≡◌, ℕ, List, [], ◌∷◌, cond, Option, Some, None, All, IfSome, is_some, sym, subst}
use Rattle.std.proofs.lemmas.Bool.{cond_both}
use Rattle.std.proofs.lemmas.Slice.Eq.{bytes_eq-Decides}
use Rattle.std.specs.Map.{lookup}
use Rattle.std.specs.Str.{bytes_eq}
use Rattle.lard_law_view.specs.Prelude.{FilesAt, IsUnspaced, Verdict, file_at, good_path}
use Rattle.lard_laws.specs.Records.{IsRunFile}
use Rattle.lard_files.specs.Files.{IsPath}
use Rattle.lard_history.proofs.Each.{Each}
use Rattle.lard_law_view.proofs.ByteLists.{AreBytes, all-each, index-bytes}
use Rattle.lard_law_view.proofs.ContentRange.{AreFiles, IsContent}
use Rattle.lard_request.specs.declared.verdict.Verdict.TheVariants.{Fault, Serve}

-- ---- files

-- a path that may name a file
abbrev pub IsNamed : List ℕ → Type 0
IsNamed path = IsUnspaced path × AreBytes path × IsPath path

-- each path that names a file is such, and names a content
abbrev pub AreNamed : FilesAt → Type 0
AreNamed files = (path : List ℕ) → IfSome (files path) (λ bytes. IsContent bytes × IsNamed path)

pub files-named : (files : List (List ℕ × List ℕ)) → All IsRunFile files → AreNamed (file_at files)
files-named files h path = go files (all-each IsRunFile files h) where
  go : (fs : List (List ℕ × List ℕ)) → Each IsRunFile fs → IfSome (lookup (bytes_eq path) fs) (λ bytes. IsContent bytes × IsNamed path)
  go [] k = tt
  go (f ∷ fs) k = cond_both (bytes_eq path f.0) (Some f.1) (lookup (bytes_eq path) fs) (λ (o : Option (List ℕ)). IfSome o (λ bytes. IsContent bytes × IsNamed path))
      (λ t. let same : path ≡ f.0 = (bytes_eq-Decides path f.0).0 t in
      ((index-bytes f.1 k.0.3, k.0.0.1), subst IsNamed (sym same) (k.0.1, index-bytes f.0 k.0.2, k.0.0.0)))
      (λ t. go fs k.1)

module _ (files : FilesAt) (h : AreNamed files) where
  -- what a path names is a content
  pub contents : AreFiles files
  contents path = go (files path) (h path) where
    go : (o : Option (List ℕ)) → IfSome o (λ bytes. IsContent bytes × IsNamed path) → IfSome o IsContent
    go None k = tt
    go (Some bytes) k = k.0

  -- a path that names a file
  pub named : (path file : List ℕ) → files path ≡ Some file → IsNamed path
  named path file is = (subst (λ (o : Option (List ℕ)). IfSome o (λ bytes. IsContent bytes × IsNamed path)) is (h path)).1

  -- the path of a request for a file
  good-named : (path : List ℕ) → IfSome (cond (is_some (files path)) (Some path) None) IsNamed
  good-named path = go (files path) (h path) where
    go : (o : Option (List ℕ)) → IfSome o (λ bytes. IsContent bytes × IsNamed path) → IfSome (cond (is_some o) (Some path) None) IsNamed
    go None k = tt
    go (Some bytes) k = k.1

  pub verdict-named : (v : Verdict) → IfSome (good_path files v) IsNamed
  verdict-named (Serve path head close) = good-named path
  verdict-named (Fault code) = tt
