-- The first CR LF CR LF of some bytes.
use Rattle.std.proofs.Common.{◌≡◌, ℕ, suc, ◌+◌, ◌≤◌, ◌<◌, Bool, true, false, List, [], ◌∷◌, ◌++◌, length, take, drop, get_or, Option, Some, None, cond, refl, sym, ap, ◌∙◌, subst, arith, nat_eq}
use Rattle.std.proofs.Math.Seq.{drop-cons, take-append_seam}
use Rattle.std.proofs.Math.ListN.{drop_of_length-le}
use Rattle.std.proofs.lemmas.List.{take-append-le, take-append-drop, length-take-le}
use Rattle.std.proofs.lemmas.Slice.Eq.{starts_is}
use Rattle.std.proofs.lemmas.Bool.Decides.{Decides-eqb}
use Rattle.std.specs.List.{starts_with}
use lib.Pointwise.{pointwise}
use Rattle.std.specs.Option.{option_map}
use Rattle.lard_block.specs.Blocks.{head_end}

-- whether bytes begin with CR LF CR LF
abbrev pub ends_here : List ℕ → Bool
ends_here xs = starts_with nat_eq xs (13 ∷ 10 ∷ 13 ∷ 10 ∷ [])

-- the three cases of the definition
pub head-none : head_end [] ≡ None
unfolding head_end
head-none = refl

pub head-hit : (a : ℕ) (rest : List ℕ) → ends_here (a ∷ rest) ≡ true → head_end (a ∷ rest) ≡ Some 4
unfolding head_end
head-hit a rest e = ap (λ b. cond {A = Option ℕ} b (Some 4) (option_map (λ n. n + 1) (head_end rest))) e

pub head-miss : (a : ℕ) (rest : List ℕ) → ends_here (a ∷ rest) ≡ false → head_end (a ∷ rest) ≡ option_map (λ n. n + 1) (head_end rest)
unfolding head_end
head-miss a rest e = ap (λ b. cond {A = Option ℕ} b (Some 4) (option_map (λ n. n + 1) (head_end rest))) e

-- bytes that begin with it, taken apart
pub apart : (xs : List ℕ) → ends_here xs ≡ true → xs ≡ (13 ∷ 10 ∷ 13 ∷ 10 ∷ []) ++ drop 4 xs
apart xs e = (starts_is Decides-eqb xs (13 ∷ 10 ∷ 13 ∷ 10 ∷ []) (ends_here xs) refl).0 e

-- how a place behind a head comes: at the front, or in the rest
pub data Ending (a : ℕ) (rest : List ℕ) (n : ℕ) : Type 0 where
  here : ends_here (a ∷ rest) ≡ true → 4 ≡ n → Ending a rest n
  there : (m : ℕ) → ends_here (a ∷ rest) ≡ false → head_end rest ≡ Some m → suc m ≡ n → Ending a rest n

pub ending : (a : ℕ) (rest : List ℕ) (n : ℕ) → head_end (a ∷ rest) ≡ Some n → Ending a rest n
ending a rest n h = go (ends_here (a ∷ rest)) refl where
  later : (o : Option ℕ) → ends_here (a ∷ rest) ≡ false → head_end rest ≡ o → option_map (λ n. n + 1) o ≡ Some n → Ending a rest n
  later None e f g = cc
  later (Some m) e f g = let k : m + 1 ≡ n = cc in there m e f (omega (arith, k))

  go : (b : Bool) → ends_here (a ∷ rest) ≡ b → Ending a rest n
  go true e = let f : Some 4 ≡ Some n = sym (head-hit a rest e) ∙ h in here e cc
  go false e = later (head_end rest) e refl (sym (head-miss a rest e) ∙ h)

-- the place lies within the bytes, four or more from the front
pub end-within : (xs : List ℕ) (n : ℕ) → head_end xs ≡ Some n → (4 ≤ n) × (n ≤ length xs)
end-within [] n h = let e : None ≡ Some n = sym head-none ∙ h in cc
end-within (a ∷ rest) n h = go (end-within rest) (ending a rest n h) where
  go : ((m : ℕ) → head_end rest ≡ Some m → (4 ≤ m) × (m ≤ length rest)) → Ending a rest n → (4 ≤ n) × (n ≤ length (a ∷ rest))
  go ih (here e f) = let l : length (a ∷ rest) ≡ suc (suc (suc (suc (length (drop 4 (a ∷ rest)))))) = ap length (apart (a ∷ rest) e) in (omega (arith, f), omega (arith, f, l))
  go ih (there m e f g) = let i : (4 ≤ m) × (m ≤ length rest) = ih m f in (omega (arith, g, i), omega (arith, g, i))

-- a test of four bytes depends on no others
pub same-front : (a : ℕ) (xs ys : List ℕ) → take 3 xs ≡ take 3 ys → ends_here (a ∷ xs) ≡ ends_here (a ∷ ys)
same-front a xs ys e = ap (λ t. pointwise nat_eq (13 ∷ 10 ∷ 13 ∷ 10 ∷ []) (a ∷ t)) e

plus : (n : ℕ) → n + 1 ≡ suc n
plus n = omega arith

-- the head by itself has the same end, whatever follows
pub end-alone : (xs : List ℕ) (n : ℕ) → head_end xs ≡ Some n → (z : List ℕ) → head_end (take n xs ++ z) ≡ Some n
end-alone [] n h z = let e : None ≡ Some n = sym head-none ∙ h in cc
end-alone (a ∷ rest) n h z = go (λ m f. end-alone rest m f z) (ending a rest n h) where
  go : ((m : ℕ) → head_end rest ≡ Some m → head_end (take m rest ++ z) ≡ Some m) → Ending a rest n → head_end (take n (a ∷ rest) ++ z) ≡ Some n
  go ih (here e f) =
      let front : take 4 (a ∷ rest) ≡ 13 ∷ 10 ∷ 13 ∷ 10 ∷ [] = ap (take 4) (apart (a ∷ rest) e) ∙ take-append_seam (13 ∷ 10 ∷ 13 ∷ 10 ∷ []) (drop 4 (a ∷ rest)) in
      subst (λ k. head_end (take k (a ∷ rest) ++ z) ≡ Some k) f (ap (λ w. head_end (w ++ z)) front ∙ head-hit 13 (10 ∷ 13 ∷ 10 ∷ z) refl)
  go ih (there m e f g) =
      let i : (4 ≤ m) × (m ≤ length rest) = end-within rest m f in
      let l : length (take m rest) ≡ m = length-take-le m rest i.1 in
      let front : take 3 (take m rest ++ z) ≡ take 3 rest =
      take-append-le 3 (take m rest) z (omega (arith, i, l)) ∙ sym (take-append-le 3 (take m rest) (drop m rest) (omega (arith, i, l))) ∙ ap (take 3) (take-append-drop m rest) in
      let misses : ends_here (a ∷ (take m rest ++ z)) ≡ false = same-front a (take m rest ++ z) rest front ∙ e in
      subst (λ k. head_end (take k (a ∷ rest) ++ z) ≡ Some k) g (head-miss a (take m rest ++ z) misses ∙ ap (option_map (λ n. n + 1)) (ih m f) ∙ ap Some (plus m))

-- ---- the loop that looks at each place

-- no end at this place: one place further
pub end-further : (bs : List ℕ) (at : ℕ) → at < length bs → ends_here (drop at bs) ≡ false → option_map (λ n. n + at) (head_end (drop at bs)) ≡ option_map (λ n. n + (at + 1)) (head_end (drop (at + 1) bs))
end-further bs at h e =
    let front : drop at bs ≡ get_or bs at 0 ∷ drop (suc at) bs = drop-cons bs at 0 h in
    ap (λ w. option_map (λ n. n + at) (head_end w)) front
    ∙ ap (option_map (λ n. n + at)) (head-miss (get_or bs at 0) (drop (suc at) bs) (ap ends_here (sym front) ∙ e))
    ∙ twice (head_end (drop (suc at) bs))
    ∙ ap (λ k. option_map (λ n. n + (at + 1)) (head_end (drop k bs))) (sym (plus at)) where
      twice : (o : Option ℕ) → option_map (λ n. n + at) (option_map (λ n. n + 1) o) ≡ option_map (λ n. n + (at + 1)) o
      twice None = refl
      twice (Some n) = let e : n + 1 + at ≡ n + (at + 1) = omega arith in ap Some e

-- the end at this place, and none behind the last
pub end-found : (bs : List ℕ) (at : ℕ) → ends_here (drop at bs) ≡ true → option_map (λ n. n + at) (head_end (drop at bs)) ≡ Some (at + 4)
end-found bs at e = go (drop at bs) e where
  sum : 4 + at ≡ at + 4
  sum = omega arith

  go : (xs : List ℕ) → ends_here xs ≡ true → option_map (λ n. n + at) (head_end xs) ≡ Some (at + 4)
  go [] e = absurd (let f : false ≡ true = e in cc)
  go (a ∷ rest) e = ap (option_map (λ n. n + at)) (head-hit a rest e) ∙ ap Some sum

pub end-nowhere : (bs : List ℕ) (at : ℕ) → length bs ≤ at → option_map (λ n. n + at) (head_end (drop at bs)) ≡ None
end-nowhere bs at h = ap (λ w. option_map (λ n. n + at) (head_end w)) (drop_of_length-le bs h) ∙ ap (option_map (λ n. n + at)) head-none
