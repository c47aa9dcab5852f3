-- Leading pairs CR LF are cut into nothing.
use Rattle.std.proofs.Common.{◌≡◌, ℕ, suc, ◌+◌, Bool, true, false, List, [], ◌∷◌, ◌++◌, map, length, take, drop, Option, Some, None, cond, refl, sym, ap, ◌∙◌, subst, arith, nat_lt}
use Rattle.std.proofs.lemmas.Slice.Eq.{starts_is}
use Rattle.std.proofs.lemmas.Bool.Decides.{Decides-eqb}
use Rattle.lard_block.specs.declared.block.Found.{Found}
use Rattle.lard_block.specs.declared.block.Found.TheVariants.{Block, More, TooLong}
use Rattle.lard_block.specs.Blocks.{skipped, head_end, head_found, found_in, cut_of, Head, piece_moved, blocks, Cuts}
use Rattle.lard_block.proofs.Pairs.{pair_here, pair-hit, pair-miss, pair-lone}
use Rattle.lard_block.proofs.Cutting.{cut_is}
use Rattle.lard_block.proofs.Division.{block-first, none-yet, long-last, moved-twice, cuts-nothing, cuts-join}

-- the same answer with one pair more before it
abbrev further : Found → Found
further (Block skip len) = Block (suc (suc skip)) len
further (More skip) = More (suc (suc skip))
further (TooLong skip) = TooLong (suc (suc skip))

found-further : (s l : ℕ) (o : Option ℕ) → head_found (suc (suc s)) l o ≡ further (head_found s l o)
found-further s l (Some n) = refl
found-further s l None = go (nat_lt l 8192) where
  go : (b : Bool) → cond {A = Found} b (More (suc (suc s))) (TooLong (suc (suc s))) ≡ further (cond {A = Found} b (More s) (TooLong s))
  go true = refl
  go false = refl

cut-further : (z : List ℕ) → cut_of (13 ∷ 10 ∷ z) ≡ further (cut_of z)
cut-further z = cut_is (13 ∷ 10 ∷ z)
    ∙ ap (λ k. found_in k (drop k (13 ∷ 10 ∷ z))) (pair-hit 13 10 z refl)
    ∙ found-further (skipped z) (length (drop (skipped z) z)) (head_end (take 8192 (drop (skipped z) z)))
    ∙ ap further (sym (cut_is z))

-- a pair before other bytes
blocks-further : (z : List ℕ) → blocks (13 ∷ 10 ∷ z) ≡ map (piece_moved 2) (blocks z)
blocks-further z = go (cut_of z) refl where
  go : (f : Found) → cut_of z ≡ f → blocks (13 ∷ 10 ∷ z) ≡ map (piece_moved 2) (blocks z)
  go (More skip) e = none-yet (13 ∷ 10 ∷ z) (suc (suc skip)) (cut-further z ∙ ap further e) ∙ sym (ap (map (piece_moved 2)) (none-yet z skip e))
  go (TooLong skip) e = long-last (13 ∷ 10 ∷ z) (suc (suc skip)) (cut-further z ∙ ap further e) ∙ sym (ap (map (piece_moved 2)) (long-last z skip e))
  go (Block skip len) e =
      let k : suc (suc skip) + len ≡ suc (suc (skip + len)) = omega arith in
      let j : suc (suc (skip + len)) ≡ 2 + (skip + len) = omega arith in
      block-first (13 ∷ 10 ∷ z) (suc (suc skip)) len (cut-further z ∙ ap further e)
      ∙ ap (λ n. Head (take len (drop skip z)) n ∷ map (piece_moved n) (blocks (drop n (13 ∷ 10 ∷ z)))) k
      ∙ ap (λ n. Head (take len (drop skip z)) n ∷ map (piece_moved n) (blocks (drop (skip + len) z))) j
      ∙ ap (λ w. Head (take len (drop skip z)) (2 + (skip + len)) ∷ w) (sym (moved-twice 2 (skip + len) (blocks (drop (skip + len) z))))
      ∙ sym (ap (map (piece_moved 2)) (block-first z skip len e))

cuts-pair : Cuts (13 ∷ 10 ∷ []) []
cuts-pair z = blocks-further z

-- all leading pairs
pub cuts-pairs : (q : List ℕ) → Cuts (take (skipped q) q) []
cuts-pairs [] = subst (λ k. Cuts (take k []) []) (sym (pair-miss [] refl)) cuts-nothing
cuts-pairs (a ∷ []) = subst (λ k. Cuts (take k (a ∷ [])) []) (sym (pair-lone a)) cuts-nothing
cuts-pairs (a ∷ b ∷ rest) = go (cuts-pairs rest) (pair_here (a ∷ b ∷ rest)) refl where
  go : Cuts (take (skipped rest) rest) [] → (t : Bool) → pair_here (a ∷ b ∷ rest) ≡ t → Cuts (take (skipped (a ∷ b ∷ rest)) (a ∷ b ∷ rest)) []
  go ih true e =
      let p : a ∷ b ∷ rest ≡ (13 ∷ 10 ∷ []) ++ drop 2 (a ∷ b ∷ rest) = (starts_is Decides-eqb (a ∷ b ∷ rest) (13 ∷ 10 ∷ []) (pair_here (a ∷ b ∷ rest)) refl).0 e in
      let x : 13 ≡ a = cc in let y : 10 ≡ b = cc in
      subst (λ k. Cuts (take k (a ∷ b ∷ rest)) []) (sym (pair-hit a b rest e))
      (subst (λ n. Cuts (n ∷ b ∷ take (skipped rest) rest) []) x
      (subst (λ n. Cuts (13 ∷ n ∷ take (skipped rest) rest) []) y (cuts-join (13 ∷ 10 ∷ []) (take (skipped rest) rest) [] [] cuts-pair ih)))
  go ih false e = subst (λ k. Cuts (take k (a ∷ b ∷ rest)) []) (sym (pair-miss (a ∷ b ∷ rest) e)) cuts-nothing
