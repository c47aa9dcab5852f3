-- The requests for files among all that is answered, each with its number.
use Rattle.std.proofs.Common.{◌≡◌, ℕ, zero, suc, ◌+◌, ◌<◌, ◌⊎◌, ◌↔◌, List, [], ◌∷◌, ◌++◌, length, Option, Some, None, get_or, refl, sym, ap, ◌∙◌, subst, inl, inr, arith}
use Rattle.std.specs.List.{Contains, slice_get}
use Rattle.lard_request.specs.declared.verdict.Verdict.{Verdict}
use Rattle.lard_answers.specs.Answers.{FilesAt, verdicts, good_path, numbered, goods_from, goods, IsGoodAt, Rises, IsPrefix}
use Rattle.lard_answers.proofs.Growing.{verdicts-grow}

pub goods-are : (files : FilesAt) (q : List ℕ) → goods files q ≡ goods_from files 1 (verdicts q)
unfolding goods
goods-are files q = refl

-- ---- members of a list

abbrev Good : Type 0
Good = ℕ × List ℕ

first-in : (x : Good) (xs : List Good) → Contains (x ∷ xs) x
first-in x xs = (zero, omega arith, refl)

later-in : (x y : Good) (xs : List Good) → Contains xs x → Contains (y ∷ xs) x
later-in x y xs c = (suc c.0, omega (arith, c.1), c.2)

none-in : (x : Good) → Contains [] x → ⊥
none-in x c = omega (arith, c.1)

in-cons : (x y : Good) (xs : List Good) → Contains (y ∷ xs) x → (y ≡ x) ⊎ Contains xs x
in-cons x y xs c = go c.0 c.1 c.2 where
  go : (k : ℕ) → k < length (y ∷ xs) → get_or (y ∷ xs) k x ≡ x → (y ≡ x) ⊎ Contains xs x
  go zero h e = inl e
  go (suc k) h e = inr (k, omega (arith, h), e)

-- ---- a request for a file, counted from n

abbrev IsGoodFrom : FilesAt → ℕ → List Verdict → ℕ → List ℕ → Type 0
IsGoodFrom files n vs r path = (i : ℕ) × (v : Verdict) × (r ≡ i + n) × (slice_get vs i ≡ Some v) × (good_path files v ≡ Some path)

-- each of them is one
from-goods : (files : FilesAt) (n : ℕ) (vs : List Verdict) (r : ℕ) (path : List ℕ) → Contains (goods_from files n vs) (r, path) → IsGoodFrom files n vs r path
from-goods files n [] r path c = absurd (none-in (r, path) c)
from-goods files n (v ∷ vs) r path c = go (from-goods files (n + 1) vs r path) (good_path files v) refl c where
  later : IsGoodFrom files (n + 1) vs r path → IsGoodFrom files n (v ∷ vs) r path
  later g = (suc g.0, g.1, omega (arith, g.2), g.3, g.4)

  go : (Contains (goods_from files (n + 1) vs) (r, path) → IsGoodFrom files (n + 1) vs r path) → (o : Option (List ℕ)) → good_path files v ≡ o
      → Contains (numbered n o (goods_from files (n + 1) vs)) (r, path) → IsGoodFrom files n (v ∷ vs) r path
  go ih None e d = later (ih d)
  go ih (Some p) e d = go2 (in-cons (r, path) (n, p) (goods_from files (n + 1) vs) d) where
    go2 : (◌≡◌ {A = Good} (n, p) (r, path)) ⊎ Contains (goods_from files (n + 1) vs) (r, path) → IsGoodFrom files n (v ∷ vs) r path
    go2 (inl s) = let a : n ≡ r = ap (λ (g : Good). g.0) s in let b : p ≡ path = ap (λ (g : Good). g.1) s in (zero, v, omega (arith, a), refl, e ∙ ap Some b)
    go2 (inr d) = later (ih d)

-- each one is among them
to-goods : (files : FilesAt) (n : ℕ) (vs : List Verdict) (r : ℕ) (path : List ℕ) (i : ℕ) (v : Verdict) → r ≡ i + n → slice_get vs i ≡ Some v → good_path files v ≡ Some path
    → Contains (goods_from files n vs) (r, path)
to-goods files n [] r path i v a b c = let e : None ≡ Some v = b in absurd (let f : ⊥ = cc in f)
to-goods files n (w ∷ vs) r path zero v a b c =
    let e : w ≡ v = let f : Some w ≡ Some v = b in cc in
    let g : good_path files w ≡ Some path = ap (good_path files) e ∙ c in
    let s : n ≡ r = omega (arith, a) in
    subst (λ o. Contains (numbered n o (goods_from files (n + 1) vs)) (r, path)) (sym g)
    (subst (λ m. Contains ((m, path) ∷ goods_from files (n + 1) vs) (r, path)) (sym s) (first-in (r, path) (goods_from files (n + 1) vs)))
to-goods files n (w ∷ vs) r path (suc i) v a b c = go (to-goods files (n + 1) vs r path i v (omega (arith, a)) b c) (good_path files w) where
  go : Contains (goods_from files (n + 1) vs) (r, path) → (o : Option (List ℕ)) → Contains (numbered n o (goods_from files (n + 1) vs)) (r, path)
  go ih None = ih
  go ih (Some p) = later-in (r, path) (n, p) (goods_from files (n + 1) vs) ih

pub goods-each : (files : FilesAt) (q : List ℕ) (r : ℕ) (path : List ℕ) → Contains (goods files q) (r, path) ↔ IsGoodAt files (verdicts q) r path
goods-each files q r path = (there, back) where
  there : Contains (goods files q) (r, path) → IsGoodAt files (verdicts q) r path
  there c = from-goods files 1 (verdicts q) r path (subst (λ (gs : List Good). Contains gs (r, path)) (goods-are files q) c)

  back : IsGoodAt files (verdicts q) r path → Contains (goods files q) (r, path)
  back g = subst (λ (gs : List Good). Contains gs (r, path)) (sym (goods-are files q)) (to-goods files 1 (verdicts q) r path g.0 g.1 g.2 g.3 g.4)

-- ---- their order

rise-from : (files : FilesAt) (m n : ℕ) (vs : List Verdict) → m < n → Rises m (goods_from files n vs)
rise-from files m n [] h = tt
rise-from files m n (v ∷ vs) h = go (λ k a. rise-from files k (n + 1) vs a) (good_path files v) where
  go : ((k : ℕ) → k < n + 1 → Rises k (goods_from files (n + 1) vs)) → (o : Option (List ℕ)) → Rises m (numbered n o (goods_from files (n + 1) vs))
  go ih None = ih m (omega (arith, h))
  go ih (Some p) = (h, ih n (omega arith))

pub goods-rise : (files : FilesAt) (q : List ℕ) → Rises 0 (goods files q)
goods-rise files q = subst (λ (gs : List Good). Rises 0 gs) (sym (goods-are files q)) (rise-from files 0 1 (verdicts q) (omega arith))

-- ---- more of them

numbered-append : (n : ℕ) (o : Option (List ℕ)) (xs ys : List Good) → numbered n o (xs ++ ys) ≡ numbered n o xs ++ ys
numbered-append n None xs ys = refl
numbered-append n (Some p) xs ys = refl

-- those of verdicts behind others begin with the others' number
pub goods_from-append : (files : FilesAt) (n : ℕ) (vs ws : List Verdict) → goods_from files n (vs ++ ws) ≡ goods_from files n vs ++ goods_from files (n + length vs) ws
goods_from-append files n [] ws = let e : n ≡ n + 0 = omega arith in ap (λ m. goods_from files m ws) e
goods_from-append files n (v ∷ vs) ws =
    let e : n + 1 + length vs ≡ n + suc (length vs) = omega arith in
    ap (numbered n (good_path files v)) (goods_from-append files (n + 1) vs ws)
    ∙ numbered-append n (good_path files v) (goods_from files (n + 1) vs) (goods_from files (n + 1 + length vs) ws)
    ∙ ap (λ m. numbered n (good_path files v) (goods_from files (n + 1) vs) ++ goods_from files m ws) e

-- those of more bytes begin with those of fewer
pub goods-grow : (files : FilesAt) (q z : List ℕ) → IsPrefix (goods files q) (goods files (q ++ z))
goods-grow files q z =
    let g : IsPrefix (verdicts q) (verdicts (q ++ z)) = verdicts-grow q z in (
      goods_from files (1 + length (verdicts q)) g.0,
      goods-are files (q ++ z) ∙ ap (goods_from files 1) g.1 ∙ goods_from-append files 1 (verdicts q) g.0
          ∙ ap (λ w. w ++ goods_from files (1 + length (verdicts q)) g.0) (sym (goods-are files q)),
    )
