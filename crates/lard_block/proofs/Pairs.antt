-- The leading pairs CR LF of some bytes.
use Rattle.std.proofs.Common.{◌≡◌, ℕ, suc, ◌+◌, ◌-◌, ◌≤◌, ◌&&◌, Bool, true, false, List, [], ◌∷◌, ◌++◌, length, take, drop, cond, refl, sym, ap, ◌∙◌, subst, arith, nat_eq, take_all}
use Rattle.std.proofs.lemmas.List.{length-take-le, length-take, length-drop, drop-drop}
use Rattle.std.specs.List.{starts_with}
use lib.Pointwise.{pointwise}
use Rattle.lard_block.specs.Blocks.{skipped}

-- whether bytes begin with a pair
abbrev pub pair_here : List ℕ → Bool
pair_here xs = starts_with nat_eq xs (13 ∷ 10 ∷ [])

-- the cases of the definition
pub pair-hit : (a b : ℕ) (rest : List ℕ) → pair_here (a ∷ b ∷ rest) ≡ true → skipped (a ∷ b ∷ rest) ≡ suc (suc (skipped rest))
unfolding skipped
pair-hit a b rest e = let s : skipped rest + 2 ≡ suc (suc (skipped rest)) = omega arith in ap (λ t. cond t (skipped rest + 2) 0) e ∙ s

pub pair-miss : (xs : List ℕ) → pair_here xs ≡ false → skipped xs ≡ 0
unfolding skipped
pair-miss [] e = refl
pair-miss (a ∷ []) e = refl
pair-miss (a ∷ b ∷ rest) e = ap (λ t. cond t (skipped rest + 2) 0) e

-- one byte is no pair
pub pair-lone : (a : ℕ) → skipped (a ∷ []) ≡ 0
pair-lone a = pair-miss (a ∷ []) (never (nat_eq 13 a)) where
  never : (b : Bool) → (b && false) ≡ false
  never true = refl
  never false = refl

-- the pairs lie within the bytes
pub skipped-within : (xs : List ℕ) → skipped xs ≤ length xs
skipped-within [] = let e : skipped [] ≡ 0 = pair-miss [] refl in omega (arith, e)
skipped-within (a ∷ []) = let e : skipped (a ∷ []) ≡ 0 = pair-lone a in omega (arith, e)
skipped-within (a ∷ b ∷ rest) = go (skipped-within rest) (pair_here (a ∷ b ∷ rest)) refl where
  go : skipped rest ≤ length rest → (t : Bool) → pair_here (a ∷ b ∷ rest) ≡ t → skipped (a ∷ b ∷ rest) ≤ length (a ∷ b ∷ rest)
  go ih true e = let f : skipped (a ∷ b ∷ rest) ≡ suc (suc (skipped rest)) = pair-hit a b rest e in omega (arith, f, ih)
  go ih false e = let f : skipped (a ∷ b ∷ rest) ≡ 0 = pair-miss (a ∷ b ∷ rest) e in omega (arith, f)

-- two bytes that begin alike are both two or more
two-more : (w v : List ℕ) → 2 ≤ length w → take 2 w ≡ take 2 v → 2 ≤ length v
two-more w v h e = let l : length (take 2 w) ≡ length (take 2 v) = ap length e in omega (arith, l, length-take-le 2 w h, length-take 2 v)

-- the pairs are the same before any bytes that begin as those behind them
pub skipped-alone : (xs w : List ℕ) → 2 ≤ length w → take 2 w ≡ take 2 (drop (skipped xs) xs) → skipped (take (skipped xs) xs ++ w) ≡ skipped xs
skipped-alone [] w h e = absurd (let l : 2 ≤ length (drop (skipped []) []) = two-more w (drop (skipped []) []) h e in omega (arith, l, length-drop {A = ℕ} (skipped []) []))
skipped-alone (a ∷ []) w h e = absurd (let l : 2 ≤ length (drop (skipped (a ∷ [])) (a ∷ [])) = two-more w (drop (skipped (a ∷ [])) (a ∷ [])) h e in omega (arith, l, length-drop (skipped (a ∷ [])) (a ∷ [])))
skipped-alone (a ∷ b ∷ rest) w h e = go (skipped-alone rest w h) (pair_here (a ∷ b ∷ rest)) refl e where
  go : (take 2 w ≡ take 2 (drop (skipped rest) rest) → skipped (take (skipped rest) rest ++ w) ≡ skipped rest) → (t : Bool) → pair_here (a ∷ b ∷ rest) ≡ t
      → take 2 w ≡ take 2 (drop (skipped (a ∷ b ∷ rest)) (a ∷ b ∷ rest)) → skipped (take (skipped (a ∷ b ∷ rest)) (a ∷ b ∷ rest) ++ w) ≡ skipped (a ∷ b ∷ rest)
  go ih true e = subst (λ k. take 2 w ≡ take 2 (drop k (a ∷ b ∷ rest)) → skipped (take k (a ∷ b ∷ rest) ++ w) ≡ k) (sym (pair-hit a b rest e))
      (λ f. pair-hit a b (take (skipped rest) rest ++ w) e ∙ ap (λ n. suc (suc n)) (ih f))
  go ih false e = subst (λ k. take 2 w ≡ take 2 (drop k (a ∷ b ∷ rest)) → skipped (take k (a ∷ b ∷ rest) ++ w) ≡ k) (sym (pair-miss (a ∷ b ∷ rest) e))
      (λ f. pair-miss w (ap (pointwise nat_eq (13 ∷ 10 ∷ [])) f ∙ e))

-- ---- the loop that skips a pair at a turn

-- bytes that begin with a pair
pair-step : (xs : List ℕ) → pair_here xs ≡ true → (2 ≤ length xs) × (skipped xs ≡ 2 + skipped (drop 2 xs))
pair-step [] e = absurd (let f : false ≡ true = e in cc)
pair-step (a ∷ []) e = absurd (never (nat_eq 13 a) e) where
  never : (b : Bool) → (b && false) ≡ true → ⊥
  never true e = let f : false ≡ true = e in cc
  never false e = let f : false ≡ true = e in cc
pair-step (a ∷ b ∷ rest) e = let f : skipped (a ∷ b ∷ rest) ≡ suc (suc (skipped rest)) = pair-hit a b rest e in (omega arith, omega (arith, f))

-- the bytes behind a place, as the code takes them
pub behind : (bs : List ℕ) (at : ℕ) → take (length bs - at) (drop at bs) ≡ drop at bs
behind bs at = take_all (length bs - at) (drop at bs) (omega (arith, length-drop at bs))

-- one pair more, and none
pub pairs-on : (bs : List ℕ) (at : ℕ) → at ≤ length bs → skipped bs ≡ at + skipped (drop at bs) → pair_here (take (length bs - at) (drop at bs)) ≡ true
    → (at + 2 ≤ length bs) × (skipped bs ≡ at + 2 + skipped (drop (at + 2) bs))
pairs-on bs at h i e =
    let p : (2 ≤ length (drop at bs)) × (skipped (drop at bs) ≡ 2 + skipped (drop 2 (drop at bs))) = pair-step (drop at bs) (ap pair_here (sym (behind bs at)) ∙ e) in
    let d : skipped (drop 2 (drop at bs)) ≡ skipped (drop (at + 2) bs) = ap skipped (drop-drop 2 at bs) in
    (omega (arith, p, length-drop at bs), omega (arith, i, p, d))

pub pairs-over : (bs : List ℕ) (at : ℕ) → skipped bs ≡ at + skipped (drop at bs) → pair_here (take (length bs - at) (drop at bs)) ≡ false → at ≡ skipped bs
pairs-over bs at i e = let f : skipped (drop at bs) ≡ 0 = pair-miss (drop at bs) (ap pair_here (sym (behind bs at)) ∙ e) in omega (arith, i, f)
