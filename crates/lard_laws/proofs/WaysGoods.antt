-- The paths of good requests: of more verdicts, and of more bytes.
use Rattle.std.proofs.Common.{◌≡◌, ◌≤◌, ◌+◌, ℕ, zero, suc, List, [], ◌∷◌, ◌++◌, map, length, take, Option, Some, None, refl, ap, ◌∙◌, append_assoc}
use Rattle.std.specs.List.{slice_get}
use Rattle.std.proofs.lemmas.List.{take-append-le}
use Rattle.std.proofs.Math.Seq.{take-append_seam}
use Rattle.lard_law_view.specs.Prelude.{FilesAt, IsPrefix, Verdict, and_path, good_path, goods, goods_from, numbered, verdicts}
use Rattle.lard_answers.proofs.Growing.{verdicts-grow}
use Rattle.lard_answers.proofs.Numbered.{goods-are}
use Rattle.lard_laws.specs.Ways.{good_paths}

-- ---- fronts of lists

module _ {A : Type 0} where
  -- what stands behind others
  pub get-behind : (xs : List A) (y : A) (ys : List A) → slice_get (xs ++ y ∷ ys) (length xs) ≡ Some y
  get-behind [] y ys = refl
  get-behind (x ∷ xs) y ys = get-behind xs y ys

  pub get-front : (xs ys : List A) (i : ℕ) (x : A) → slice_get xs i ≡ Some x → slice_get (xs ++ ys) i ≡ Some x
  get-front [] ys i x e = let no : None ≡ Some x = e in absurd (let f : ⊥ = cc in f)
  get-front (y ∷ xs) ys zero x e = e
  get-front (y ∷ xs) ys (suc i) x e = get-front xs ys i x e

  -- the next, where the first begin the whole
  pub next-get : (xs ys whole : List A) (y : A) → IsPrefix (xs ++ y ∷ ys) whole → slice_get whole (length xs) ≡ Some y
  next-get xs ys whole y h = ap (λ (l : List A). slice_get l (length xs)) h.1 ∙ get-front (xs ++ y ∷ ys) h.0 (length xs) y (get-behind xs y ys)

  pub prefix-take : (xs whole : List A) → IsPrefix xs whole → take (length xs) whole ≡ xs
  prefix-take xs whole h = ap (take (length xs)) h.1 ∙ take-append_seam xs h.0

  pub front-of : (xs ys whole : List A) → IsPrefix (xs ++ ys) whole → IsPrefix xs whole
  front-of xs ys whole h = (ys ++ h.0, h.1 ∙ append_assoc xs ys h.0)

module _ (files : FilesAt) where
  -- ---- more verdicts

  and-append : (o : Option (List ℕ)) (xs ys : List (List ℕ)) → and_path o (xs ++ ys) ≡ and_path o xs ++ ys
  and-append None xs ys = refl
  and-append (Some path) xs ys = refl

  pub good-append : (vs ws : List Verdict) → good_paths files (vs ++ ws) ≡ good_paths files vs ++ good_paths files ws
  good-append [] ws = refl
  good-append (v ∷ vs) ws = ap (and_path (good_path files v)) (good-append vs ws) ∙ and-append (good_path files v) (good_paths files vs) (good_paths files ws)

  pub good-prefix : (vs ws : List Verdict) → IsPrefix vs ws → IsPrefix (good_paths files vs) (good_paths files ws)
  good-prefix vs ws h = (good_paths files h.0, ap (good_paths files) h.1 ∙ good-append vs h.0)

  -- ---- they are those of the numbered ones

  numbered-paths : (n : ℕ) (o : Option (List ℕ)) (gs : List (ℕ × List ℕ)) → map (λ g. g.1) (numbered n o gs) ≡ and_path o (map (λ g. g.1) gs)
  numbered-paths n None gs = refl
  numbered-paths n (Some path) gs = refl

  from-paths : (n : ℕ) (vs : List Verdict) → map (λ g. g.1) (goods_from files n vs) ≡ good_paths files vs
  from-paths n [] = refl
  from-paths n (v ∷ vs) = numbered-paths n (good_path files v) (goods_from files (n + 1) vs) ∙ ap (and_path (good_path files v)) (from-paths (n + 1) vs)

  pub goods-paths : (q : List ℕ) → map (λ g. g.1) (goods files q) ≡ good_paths files (verdicts q)
  goods-paths q = ap (map (λ (g : ℕ × List ℕ). g.1)) (goods-are files q) ∙ from-paths 1 (verdicts q)

  -- ---- more bytes

  pub wanted-grow : (q z : List ℕ) → IsPrefix (good_paths files (verdicts q)) (good_paths files (verdicts (q ++ z)))
  wanted-grow q z = good-prefix (verdicts q) (verdicts (q ++ z)) (verdicts-grow q z)

-- those that were answered are as they were
pub answered-grow : (n : ℕ) (q z : List ℕ) → n ≤ length (verdicts q) → take n (verdicts (q ++ z)) ≡ take n (verdicts q)
answered-grow n q z le = let g = verdicts-grow q z in ap (take n) g.1 ∙ take-append-le n (verdicts q) g.0 le
