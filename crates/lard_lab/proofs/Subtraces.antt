-- How the parts of a report grow by one request.
use Rattle.std.proofs.Common.{◌≡◌, ◌≢◌, ℕ, zero, suc, ◌+◌, ◌<◌, ◌≤◌, Bool, true, false, max, cond, List, [], ◌∷◌, ◌++◌, length, map, Option, Some, slice_get, refl, sym, ap, ◌∙◌, arith, append_assoc}
use Rattle.std.proofs.Math.ListN.{set}
use Rattle.std.proofs.lemmas.List.{length-append}
use Rattle.std.specs.List.{range_with_len}
use Rattle.lard_cache.specs.Recency.{Recency, has_path}
use Rattle.lard_lab.specs.declared.backends.Backend.{Backend}
use Rattle.lard_lab.specs.Backends.{backend_after, empty, fed, one_if}
use Rattle.lard_lab.specs.Report.{Request, backend_of, count_true, full_among, hits_of, is_node_at, kept_by, lines_from, outcome_of, subtrace}
use Rattle.lard_lab.specs.Text.{request_line}

-- ---- paths

pub kept-behind : (size : List ℕ → ℕ) (c : Recency) (ps : List (List ℕ)) (p : List ℕ) → kept_by size c (ps ++ p ∷ []) ≡ fed (kept_by size c ps) p (size p)
kept-behind size c [] p = refl
kept-behind size c (q ∷ qs) p = kept-behind size (fed c q (size q)) qs p

pub hits-behind : (size : List ℕ → ℕ) (c : Recency) (ps : List (List ℕ)) (p : List ℕ)
    → count_true (hits_of size c (ps ++ p ∷ [])) ≡ count_true (hits_of size c ps) + one_if (has_path (kept_by size c ps).entries p)
hits-behind size c [] p = omega arith
hits-behind size c (q ∷ qs) p = let more = hits-behind size (fed c q (size q)) qs p in omega (arith, more)

-- ---- requests

-- the paths of a node with one request more
abbrev pub with_one : Bool → List (List ℕ) → List ℕ → List (List ℕ)
with_one b ps p = cond b (ps ++ p ∷ []) ps

pub subtrace-behind : (n : ℕ) (rs : List Request) (r : Request) → subtrace n (rs ++ r ∷ []) ≡ with_one (is_node_at n r.1) (subtrace n rs) r.0
subtrace-behind n [] r = refl
subtrace-behind n (q ∷ qs) r = go (is_node_at n q.1) (is_node_at n r.1) (subtrace-behind n qs r) where
  go : (a b : Bool) → subtrace n (qs ++ r ∷ []) ≡ with_one b (subtrace n qs) r.0
      → cond a (q.0 ∷ subtrace n (qs ++ r ∷ [])) (subtrace n (qs ++ r ∷ [])) ≡ with_one b (cond a (q.0 ∷ subtrace n qs) (subtrace n qs)) r.0
  go true true e = ap (λ (ps : List (List ℕ)). q.0 ∷ ps) e
  go true false e = ap (λ (ps : List (List ℕ)). q.0 ∷ ps) e
  go false true e = e
  go false false e = e

pub full-behind : (rs : List Request) (r : Request) → full_among (rs ++ r ∷ []) ≡ full_among rs + full_among (r ∷ [])
full-behind [] r = omega arith
full-behind (q ∷ qs) r = let more = full-behind qs r in omega (arith, more)

pub lines-behind : (size : List ℕ → ℕ) (limit : ℕ) (before rs more : List Request)
    → lines_from size limit before (rs ++ more) ≡ lines_from size limit before rs ++ lines_from size limit (before ++ rs) more
lines-behind size limit before [] more = ap (λ (b : List Request). lines_from size limit b more) (sym (append-nil before)) where
  append-nil : (xs : List Request) → xs ++ [] ≡ xs
  append-nil [] = refl
  append-nil (x ∷ xs) = ap (λ (ys : List Request). x ∷ ys) (append-nil xs)
lines-behind size limit before (r ∷ rs) more =
    let one : List ℕ = request_line (length before + 1) r.0 (outcome_of size limit before r.0 r.1) in
    ap (λ (t : List ℕ). one ++ t) (lines-behind size limit (before ++ r ∷ []) rs more
    ∙ ap (λ (b : List Request). lines_from size limit (before ++ r ∷ []) rs ++ lines_from size limit b more) (append_assoc before (r ∷ []) rs))
    ∙ sym (append_assoc one (lines_from size limit (before ++ r ∷ []) rs) (lines_from size limit (before ++ r ∷ rs) more))

-- ---- rows of nodes

-- what agrees on the numbers of a row makes the same of it
pub same-row : {X : Type 0} (f g : ℕ → X) (a k : ℕ) → ((q : ℕ) → a ≤ q → q < a + k → f q ≡ g q) → map f (range_with_len a k) ≡ map g (range_with_len a k)
same-row f g a zero same = refl
same-row {X} f g a (suc k) same = go (same a (omega arith) (omega arith)) (same-row f g (a + 1) k (λ q l h. same q (omega (arith, l)) (omega (arith, h)))) where
  go : f a ≡ g a → map f (range_with_len (a + 1) k) ≡ map g (range_with_len (a + 1) k) → f a ∷ map f (range_with_len (a + 1) k) ≡ g a ∷ map g (range_with_len (a + 1) k)
  go e es = ap (λ (x : X). x ∷ map f (range_with_len (a + 1) k)) e ∙ ap (λ (xs : List X). g a ∷ xs) es

-- the number at a place of a row
pub at-row : {X : Type 0} (f : ℕ → X) (a k i c : ℕ) → c ≡ a + i → i < k → slice_get (map f (range_with_len a k)) i ≡ Some (f c)
at-row f a zero i c is low = absurd (omega (arith, low))
at-row f a (suc k) zero c is low = let same : a ≡ c = omega (arith, is) in ap (λ (q : ℕ). Some (f q)) same
at-row f a (suc k) (suc i) c is low = at-row f (a + 1) k i c (omega (arith, is)) (omega (arith, low))

-- one of a row is replaced, and the others agree
pub set-row : {X : Type 0} (f g : ℕ → X) (a k i c : ℕ) → c ≡ a + i → i < k → ((q : ℕ) → q ≢ c → g q ≡ f q) → set (map f (range_with_len a k)) i (g c) ≡ map g (range_with_len a k)
set-row f g a zero i c is low others = absurd (omega (arith, low))
set-row {X} f g a (suc k) zero c is low others = go (omega (arith, is)) (same-row f g (a + 1) k (λ q l h. sym (others q (λ e. omega (arith, e, is, l))))) where
  go : c ≡ a → map f (range_with_len (a + 1) k) ≡ map g (range_with_len (a + 1) k) → g c ∷ map f (range_with_len (a + 1) k) ≡ g a ∷ map g (range_with_len (a + 1) k)
  go e es = ap (λ (q : ℕ). g q ∷ map f (range_with_len (a + 1) k)) e ∙ ap (λ (xs : List X). g a ∷ xs) es
set-row {X} f g a (suc k) (suc i) c is low others = go (sym (others a (λ e. omega (arith, e, is)))) (set-row f g (a + 1) k i c (omega (arith, is)) (omega (arith, low)) others) where
  go : f a ≡ g a → set (map f (range_with_len (a + 1) k)) i (g c) ≡ map g (range_with_len (a + 1) k) → f a ∷ set (map f (range_with_len (a + 1) k)) i (g c) ≡ g a ∷ map g (range_with_len (a + 1) k)
  go e es = ap (λ (x : X). x ∷ set (map f (range_with_len (a + 1) k)) i (g c)) e ∙ ap (λ (xs : List X). g a ∷ xs) es

-- ---- nodes

-- a node with one request more, and any other
pub backend-behind : (size : List ℕ → ℕ) (limit : ℕ) (rs : List Request) (path : List ℕ) (o : Option ℕ) (peaks : ℕ → ℕ) (n load : ℕ) → is_node_at n o ≡ true
    → backend_of size limit (rs ++ (path, o) ∷ []) (λ m. max (peaks m) load) n ≡ backend_after (backend_of size limit rs peaks n) path (size path) load
backend-behind size limit rs path o peaks n load at =
    let same : subtrace n (rs ++ (path, o) ∷ []) ≡ subtrace n rs ++ path ∷ [] = subtrace-behind n rs (path, o) ∙ ap (λ (b : Bool). with_one b (subtrace n rs) path) at in
    let whole : List (List ℕ) → Backend = λ ps. record { cache = kept_by size (empty limit) ps; requests = length ps; hits = count_true (hits_of size (empty limit) ps); peak = max (peaks n) load } in
    ap whole same ∙ parts (kept-behind size (empty limit) (subtrace n rs) path) (length-append (subtrace n rs) (path ∷ [])) (hits-behind size (empty limit) (subtrace n rs) path) where
      parts : {c d : Recency} {r s h i : ℕ} → c ≡ d → r ≡ s → h ≡ i → let p : ℕ = max (peaks n) load in
          let a : Backend = record { cache = c; requests = r; hits = h; peak = p } in let b : Backend = record { cache = d; requests = s; hits = i; peak = p } in a ≡ b
      parts x y z = cc

pub backend-other : (size : List ℕ → ℕ) (limit : ℕ) (rs : List Request) (path : List ℕ) (o : Option ℕ) (peaks : ℕ → ℕ) (n p : ℕ) → is_node_at n o ≡ false → p ≡ peaks n
    → backend_of size limit (rs ++ (path, o) ∷ []) (λ m. p) n ≡ backend_of size limit rs peaks n
backend-other size limit rs path o peaks n p at same =
    let paths : subtrace n (rs ++ (path, o) ∷ []) ≡ subtrace n rs = subtrace-behind n rs (path, o) ∙ ap (λ (b : Bool). with_one b (subtrace n rs) path) at in
    let whole : List (List ℕ) → ℕ → Backend = λ ps k. record { cache = kept_by size (empty limit) ps; requests = length ps; hits = count_true (hits_of size (empty limit) ps); peak = k } in
    ap (λ (ps : List (List ℕ)). whole ps p) paths ∙ ap (whole (subtrace n rs)) same
