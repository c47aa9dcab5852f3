-- The division of some bytes: one block after another, and what follows changes nothing of what is there.
use Rattle.std.proofs.Common.{◌≡◌, ℕ, zero, suc, ◌+◌, ◌≤◌, List, [], ◌∷◌, ◌++◌, map, length, take, drop, refl, sym, ap, ◌∙◌, subst, append_assoc, arith}
use Rattle.std.proofs.Math.Seq.{take-append_seam, drop-append_seam}
use Rattle.std.proofs.lemmas.List.{take-append-le, drop-append-le, drop-take, map-append, append-nil, length-take-le, length-drop, length-append}
use Rattle.lard_block.specs.declared.block.Found.{Found}
use Rattle.lard_block.specs.declared.block.Found.TheVariants.{Block, More, TooLong}
use Rattle.lard_block.specs.Blocks.{head_found, found_in, cut_of, Piece, Head, Long, piece_moved, pieces_from, pieces, blocks, Divides, Cuts}
use Rattle.lard_block.proofs.Ends.{head-none}
use Rattle.lard_block.proofs.Pairs.{pair-miss}
use Rattle.lard_block.proofs.Cutting.{cut_is, IsCut, is_cut, block-alone, block-stays, long-stays}

-- ---- the definitions, unfolded once

blocks-are : (q : List ℕ) → blocks q ≡ pieces (length q) q
unfolding blocks
blocks-are q = refl

pieces-zero : (q : List ℕ) → pieces zero q ≡ []
unfolding pieces
pieces-zero q = refl

pieces-suc : (n : ℕ) (q : List ℕ) → pieces (suc n) q ≡ pieces_from q (λ used. map (piece_moved used) (pieces n (drop used q))) (cut_of q)
unfolding pieces
pieces-suc n q = refl

-- no bytes have no pieces
cut-nothing : cut_of [] ≡ More 0
cut-nothing = cut_is [] ∙ ap (λ k. found_in k (drop k [])) (pair-miss [] refl) ∙ ap (head_found 0 0) head-none

pieces-nothing : (n : ℕ) → pieces n [] ≡ []
pieces-nothing zero = pieces-zero []
pieces-nothing (suc n) = pieces-suc n [] ∙ ap (pieces_from [] (λ used. map (piece_moved used) (pieces n (drop used [])))) cut-nothing

-- the rest behind a block is shorter
rest-less : (q : List ℕ) (skip len n : ℕ) → cut_of q ≡ Block skip len → length q ≤ suc n → length (drop (skip + len) q) ≤ n
rest-less q skip len n e h = let c : IsCut q skip len = is_cut q skip len e in omega (arith, c.some, length-drop (skip + len) q)

-- as many turns as there are bytes are enough
turns : (n m : ℕ) (q : List ℕ) → length q ≤ n → length q ≤ m → pieces n q ≡ pieces m q
turns zero m [] h k = pieces-zero [] ∙ sym (pieces-nothing m)
turns zero m (x ∷ q) h k = absurd (omega (arith, h))
turns (suc n) zero [] h k = pieces-nothing (suc n) ∙ sym (pieces-zero [])
turns (suc n) zero (x ∷ q) h k = absurd (omega (arith, k))
turns (suc n) (suc m) q h k = pieces-suc n q ∙ go (λ used a b. turns n m (drop used q) a b) (cut_of q) refl ∙ sym (pieces-suc m q) where
  go : ((used : ℕ) → length (drop used q) ≤ n → length (drop used q) ≤ m → pieces n (drop used q) ≡ pieces m (drop used q)) → (f : Found) → cut_of q ≡ f
      → pieces_from q (λ used. map (piece_moved used) (pieces n (drop used q))) f ≡ pieces_from q (λ used. map (piece_moved used) (pieces m (drop used q))) f
  go ih (Block skip len) e = ap (λ w. Head (take len (drop skip q)) (skip + len) ∷ map (piece_moved (skip + len)) w) (ih (skip + len) (rest-less q skip len n e h) (rest-less q skip len m e k))
  go ih (More skip) e = refl
  go ih (TooLong skip) e = refl

-- the pieces are those that begin with what is found
pub divided : (q : List ℕ) → blocks q ≡ pieces_from q (λ used. map (piece_moved used) (blocks (drop used q))) (cut_of q)
divided [] = blocks-are [] ∙ pieces-zero [] ∙ sym (ap (pieces_from [] (λ used. map (piece_moved used) (blocks (drop used [])))) cut-nothing)
divided (x ∷ xs) = blocks-are (x ∷ xs) ∙ pieces-suc (length xs) (x ∷ xs) ∙ go (cut_of (x ∷ xs)) refl where
  go : (f : Found) → cut_of (x ∷ xs) ≡ f
      → pieces_from (x ∷ xs) (λ used. map (piece_moved used) (pieces (length xs) (drop used (x ∷ xs)))) f ≡ pieces_from (x ∷ xs) (λ used. map (piece_moved used) (blocks (drop used (x ∷ xs)))) f
  go (Block skip len) e =
      let l : length (x ∷ xs) ≤ suc (length xs) = omega arith in
      ap (λ w. Head (take len (drop skip (x ∷ xs))) (skip + len) ∷ map (piece_moved (skip + len)) w)
      (turns (length xs) (length (drop (skip + len) (x ∷ xs))) (drop (skip + len) (x ∷ xs)) (rest-less (x ∷ xs) skip len (length xs) e l) (omega arith)
      ∙ sym (blocks-are (drop (skip + len) (x ∷ xs))))
  go (More skip) e = refl
  go (TooLong skip) e = refl

pub block-first : (q : List ℕ) (skip len : ℕ) → cut_of q ≡ Block skip len → blocks q ≡ Head (take len (drop skip q)) (skip + len) ∷ map (piece_moved (skip + len)) (blocks (drop (skip + len) q))
block-first q skip len e = divided q ∙ ap (pieces_from q (λ used. map (piece_moved used) (blocks (drop used q)))) e

pub none-yet : (q : List ℕ) (skip : ℕ) → cut_of q ≡ More skip → blocks q ≡ []
none-yet q skip e = divided q ∙ ap (pieces_from q (λ used. map (piece_moved used) (blocks (drop used q)))) e

pub long-last : (q : List ℕ) (skip : ℕ) → cut_of q ≡ TooLong skip → blocks q ≡ Long ∷ []
long-last q skip e = divided q ∙ ap (pieces_from q (λ used. map (piece_moved used) (blocks (drop used q)))) e

-- no other division has this form
alike : (f : List ℕ → List Piece) → Divides f → (n : ℕ) (q : List ℕ) → length q ≤ n → f q ≡ blocks q
alike f d zero [] h = d [] ∙ ap (pieces_from [] (λ used. map (piece_moved used) (f (drop used [])))) cut-nothing ∙ sym (blocks-are [] ∙ pieces-zero [])
alike f d zero (x ∷ q) h = absurd (omega (arith, h))
alike f d (suc n) q h = d q ∙ go (λ used a. alike f d n (drop used q) a) (cut_of q) refl ∙ sym (divided q) where
  go : ((used : ℕ) → length (drop used q) ≤ n → f (drop used q) ≡ blocks (drop used q)) → (g : Found) → cut_of q ≡ g
      → pieces_from q (λ used. map (piece_moved used) (f (drop used q))) g ≡ pieces_from q (λ used. map (piece_moved used) (blocks (drop used q))) g
  go ih (Block skip len) e = ap (λ w. Head (take len (drop skip q)) (skip + len) ∷ map (piece_moved (skip + len)) w) (ih (skip + len) (rest-less q skip len n e h))
  go ih (More skip) e = refl
  go ih (TooLong skip) e = refl

pub unique : (f : List ℕ → List Piece) → Divides f → (q : List ℕ) → f q ≡ blocks q
unique f d q = alike f d (length q) q (omega arith)

-- ---- the division of more bytes begins with that of fewer

grown : (n : ℕ) (q z : List ℕ) → length q ≤ n → (later : List Piece) × (blocks (q ++ z) ≡ blocks q ++ later)
grown zero [] z h = (blocks z, ap (λ w. w ++ blocks z) (sym (blocks-are [] ∙ pieces-zero [])))
grown zero (x ∷ q) z h = absurd (omega (arith, h))
grown (suc n) q z h = go (λ used a. grown n (drop used q) z a) (cut_of q) refl where
  go : ((used : ℕ) → length (drop used q) ≤ n → (later : List Piece) × (blocks (drop used q ++ z) ≡ blocks (drop used q) ++ later)) → (f : Found) → cut_of q ≡ f
      → (later : List Piece) × (blocks (q ++ z) ≡ blocks q ++ later)
  go ih (More skip) e = (blocks (q ++ z), ap (λ w. w ++ blocks (q ++ z)) (sym (none-yet q skip e)))
  go ih (TooLong skip) e = ([], long-last (q ++ z) skip (long-stays q skip e z) ∙ sym (append-nil (Long ∷ [])) ∙ ap (λ w. w ++ []) (sym (long-last q skip e)))
  go ih (Block skip len) e =
      let c : IsCut q skip len = is_cut q skip len e in
      let r : (later : List Piece) × (blocks (drop (skip + len) q ++ z) ≡ blocks (drop (skip + len) q) ++ later) = ih (skip + len) (rest-less q skip len n e h) in
      let d : drop skip (q ++ z) ≡ drop skip q ++ z = drop-append-le skip q z (omega (arith, c.within)) in
      let same : take len (drop skip (q ++ z)) ≡ take len (drop skip q) = ap (take len) d ∙ take-append-le len (drop skip q) z (omega (arith, c.within, length-drop skip q)) in
      let rest : drop (skip + len) (q ++ z) ≡ drop (skip + len) q ++ z = drop-append-le (skip + len) q z c.within in (
        map (piece_moved (skip + len)) r.0,
        block-first (q ++ z) skip len (block-stays q skip len e z)
            ∙ ap (λ w. Head w (skip + len) ∷ map (piece_moved (skip + len)) (blocks (drop (skip + len) (q ++ z)))) same
            ∙ ap (λ w. Head (take len (drop skip q)) (skip + len) ∷ map (piece_moved (skip + len)) (blocks w)) rest
            ∙ ap (λ w. Head (take len (drop skip q)) (skip + len) ∷ map (piece_moved (skip + len)) w) r.1
            ∙ ap (λ w. Head (take len (drop skip q)) (skip + len) ∷ w) (map-append (piece_moved (skip + len)) (blocks (drop (skip + len) q)) r.0)
            ∙ ap (λ w. w ++ map (piece_moved (skip + len)) r.0) (sym (block-first q skip len e)),
      )

pub grows : (q z : List ℕ) → (later : List Piece) × (blocks (q ++ z) ≡ blocks q ++ later)
grows q z = grown (length q) q z (omega arith)

-- ---- pieces further on

moved-none : (ps : List Piece) → map (piece_moved 0) ps ≡ ps
moved-none [] = refl
moved-none (Head block after ∷ ps) = let e : 0 + after ≡ after = omega arith in ap (λ n. Head block n ∷ map (piece_moved 0) ps) e ∙ ap (λ w. Head block after ∷ w) (moved-none ps)
moved-none (Long ∷ ps) = ap (λ w. Long ∷ w) (moved-none ps)

pub moved-twice : (m n : ℕ) (ps : List Piece) → map (piece_moved m) (map (piece_moved n) ps) ≡ map (piece_moved (m + n)) ps
moved-twice m n [] = refl
moved-twice m n (Head block after ∷ ps) =
    let e : m + (n + after) ≡ m + n + after = omega arith in
    ap (λ k. Head block k ∷ map (piece_moved m) (map (piece_moved n) ps)) e ∙ ap (λ w. Head block (m + n + after) ∷ w) (moved-twice m n ps)
moved-twice m n (Long ∷ ps) = ap (λ w. Long ∷ w) (moved-twice m n ps)

-- ---- what is cut, whatever follows

pub cuts-nothing : Cuts [] []
cuts-nothing z = sym (moved-none (blocks z))

pub cuts-block : (q : List ℕ) (skip len : ℕ) → cut_of q ≡ Block skip len → Cuts (take (skip + len) q) (Head (take len (drop skip q)) (skip + len) ∷ [])
cuts-block q skip len e z =
    let c : IsCut q skip len = is_cut q skip len e in
    let l : length (take (skip + len) q) ≡ skip + len = length-take-le (skip + len) q c.within in
    let n : length (take len (drop skip q)) ≡ len = length-take-le len (drop skip q) (omega (arith, c.within, length-drop skip q)) in
    let d : drop skip (take (skip + len) q ++ z) ≡ take len (drop skip q) ++ z =
    drop-append-le skip (take (skip + len) q) z (omega (arith, l)) ∙ ap (λ w. w ++ z) (drop-take skip len q) in
    let same : take len (drop skip (take (skip + len) q ++ z)) ≡ take len (drop skip q) =
    ap (take len) d ∙ subst (λ k. take k (take len (drop skip q) ++ z) ≡ take len (drop skip q)) n (take-append_seam (take len (drop skip q)) z) in
    let rest : drop (skip + len) (take (skip + len) q ++ z) ≡ z = subst (λ k. drop k (take (skip + len) q ++ z) ≡ z) l (drop-append_seam (take (skip + len) q) z) in
    block-first (take (skip + len) q ++ z) skip len (block-alone q skip len e z)
    ∙ ap (λ w. Head w (skip + len) ∷ map (piece_moved (skip + len)) (blocks (drop (skip + len) (take (skip + len) q ++ z)))) same
    ∙ ap (λ w. Head (take len (drop skip q)) (skip + len) ∷ map (piece_moved (skip + len)) (blocks w)) rest
    ∙ ap (λ k. Head (take len (drop skip q)) (skip + len) ∷ map (piece_moved k) (blocks z)) (sym l)

pub cuts-join : (x y : List ℕ) (ps rs : List Piece) → Cuts x ps → Cuts y rs → Cuts (x ++ y) (ps ++ map (piece_moved (length x)) rs)
cuts-join x y ps rs c d z =
    let k : length (x ++ y) ≡ length x + length y = length-append x y in
    ap blocks (append_assoc x y z) ∙ c (y ++ z)
    ∙ ap (λ w. ps ++ map (piece_moved (length x)) w) (d z)
    ∙ ap (λ w. ps ++ w) (map-append (piece_moved (length x)) rs (map (piece_moved (length y)) (blocks z)) ∙ ap (λ w. map (piece_moved (length x)) rs ++ w) (moved-twice (length x) (length y) (blocks z)))
    ∙ sym (append_assoc ps (map (piece_moved (length x)) rs) (map (piece_moved (length x + length y)) (blocks z)))
    ∙ ap (λ i. (ps ++ map (piece_moved (length x)) rs) ++ map (piece_moved i) (blocks z)) (sym k)
