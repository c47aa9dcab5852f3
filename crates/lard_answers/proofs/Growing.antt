-- The answers to more bytes begin with the answers to fewer, and what one block alone is answered with.
use Rattle.std.proofs.Common.{◌≡◌, ℕ, ◌+◌, Bool, true, false, List, [], ◌∷◌, ◌++◌, map, length, take, drop, cond, refl, sym, ap, ◌∙◌, append_assoc, arith, take_all}
use Rattle.std.specs.List.{concat}
use Rattle.std.proofs.Math.ListN.{drop_of_length-le}
use Rattle.std.proofs.lemmas.List.{map-append}
use Rattle.std.proofs.lemmas.List.Folds.{concat-append}
use Rattle.lard_block.specs.declared.block.Found.TheVariants.{Block}
use Rattle.lard_block.specs.Blocks.{cut_of, Piece, Head, piece_moved, pieces, blocks}
use Rattle.lard_block.proofs.Division.{grows, block-first}
use Rattle.lard_request.specs.declared.verdict.Verdict.{Verdict}
use Rattle.lard_request.specs.Verdict.{closes, verdict}
use Rattle.lard_answers.specs.Answers.{FilesAt, answer, piece_verdict, until_close, verdicts, answers, answer_bytes, IsPrefix}

-- ---- fronts

pub map-IsPrefix : {A B : Type 0} (f : A → B) (xs ys : List A) → IsPrefix xs ys → IsPrefix (map f xs) (map f ys)
map-IsPrefix f xs ys h = (map f h.0, ap (map f) h.1 ∙ map-append f xs h.0)

pub concat-IsPrefix : (xs ys : List (List ℕ)) → IsPrefix xs ys → IsPrefix (concat xs) (concat ys)
concat-IsPrefix xs ys h = (concat h.0, ap concat h.1 ∙ concat-append xs h.0)

pub IsPrefix-trans : {A : Type 0} (xs ys zs : List A) → IsPrefix xs ys → IsPrefix ys zs → IsPrefix xs zs
IsPrefix-trans xs ys zs h k = (h.0 ++ k.0, k.1 ∙ ap (λ w. w ++ k.0) h.1 ∙ append_assoc xs h.0 k.0)

-- ---- the definitions, unfolded once

pub until_close-nil : until_close [] ≡ []
unfolding until_close
until_close-nil = refl

pub until_close-cons : (v : Verdict) (vs : List Verdict) → until_close (v ∷ vs) ≡ v ∷ cond (closes v) [] (until_close vs)
unfolding until_close
until_close-cons v vs = refl

pub until_close-closed : (v : Verdict) (vs : List Verdict) → closes v ≡ true → until_close (v ∷ vs) ≡ v ∷ []
until_close-closed v vs e = until_close-cons v vs ∙ ap (λ b. v ∷ cond b [] (until_close vs)) e

pub until_close-open : (v : Verdict) (vs : List Verdict) → closes v ≡ false → until_close (v ∷ vs) ≡ v ∷ until_close vs
until_close-open v vs e = until_close-cons v vs ∙ ap (λ b. v ∷ cond b [] (until_close vs)) e

pub verdicts-are : (q : List ℕ) → verdicts q ≡ until_close (map piece_verdict (blocks q))
unfolding verdicts
verdicts-are q = refl

pub answers-are : (files : FilesAt) (q : List ℕ) → answers files q ≡ map (answer files) (verdicts q)
unfolding answers
answers-are files q = refl

-- ---- more bytes

pub until_close-grows : (vs ws : List Verdict) → IsPrefix (until_close vs) (until_close (vs ++ ws))
until_close-grows [] ws = (until_close ws, ap (λ w. w ++ until_close ws) (sym until_close-nil))
until_close-grows (v ∷ vs) ws = go (until_close-grows vs ws) (closes v) refl where
  go : IsPrefix (until_close vs) (until_close (vs ++ ws)) → (b : Bool) → closes v ≡ b → IsPrefix (until_close (v ∷ vs)) (until_close (v ∷ (vs ++ ws)))
  go ih true e = ([], until_close-closed v (vs ++ ws) e ∙ ap (λ w. w ++ []) (sym (until_close-closed v vs e)))
  go ih false e = (ih.0, until_close-open v (vs ++ ws) e ∙ ap (λ w. v ∷ w) ih.1 ∙ ap (λ w. w ++ ih.0) (sym (until_close-open v vs e)))

-- the verdicts on more bytes begin with those on fewer
pub verdicts-grow : (q z : List ℕ) → IsPrefix (verdicts q) (verdicts (q ++ z))
verdicts-grow q z =
    let g : (later : List Piece) × (blocks (q ++ z) ≡ blocks q ++ later) = grows q z in
    let k : IsPrefix (until_close (map piece_verdict (blocks q))) (until_close (map piece_verdict (blocks q) ++ map piece_verdict g.0)) =
    until_close-grows (map piece_verdict (blocks q)) (map piece_verdict g.0) in (
      k.0,
      verdicts-are (q ++ z) ∙ ap (λ ps. until_close (map piece_verdict ps)) g.1 ∙ ap until_close (map-append piece_verdict (blocks q) g.0) ∙ k.1
          ∙ ap (λ w. w ++ k.0) (sym (verdicts-are q)),
    )

-- so do the answers
pub answers-grow : (files : FilesAt) (q z : List ℕ) → IsPrefix (answers files q) (answers files (q ++ z))
answers-grow files q z =
    let h : IsPrefix (map (answer files) (verdicts q)) (map (answer files) (verdicts (q ++ z))) = map-IsPrefix (answer files) (verdicts q) (verdicts (q ++ z)) (verdicts-grow q z) in
    (h.0, answers-are files (q ++ z) ∙ h.1 ∙ ap (λ w. w ++ h.0) (sym (answers-are files q)))

-- and their bytes
pub answer_bytes-grow : (files : FilesAt) (q z : List ℕ) → IsPrefix (answer_bytes files q) (answer_bytes files (q ++ z))
answer_bytes-grow files q z = concat-IsPrefix (answers files q) (answers files (q ++ z)) (answers-grow files q z)

-- ---- nothing, and one block alone

pub blocks-nothing : blocks [] ≡ []
unfolding blocks pieces
blocks-nothing = refl

pub verdicts-nothing : verdicts [] ≡ []
verdicts-nothing = verdicts-are [] ∙ ap (λ ps. until_close (map piece_verdict ps)) blocks-nothing ∙ until_close-nil

pub answers-nothing : (files : FilesAt) → answers files [] ≡ []
answers-nothing files = answers-are files [] ∙ ap (map (answer files)) verdicts-nothing

pub blocks-alone : (q : List ℕ) → cut_of q ≡ Block 0 (length q) → blocks q ≡ Head q (length q) ∷ []
blocks-alone q e =
    let n : 0 + length q ≡ length q = omega arith in
    block-first q 0 (length q) e
    ∙ ap (λ k. Head (take (length q) q) k ∷ map (piece_moved k) (blocks (drop k q))) n
    ∙ ap (λ w. Head w (length q) ∷ map (piece_moved (length q)) (blocks (drop (length q) q))) (take_all (length q) q (omega arith))
    ∙ ap (λ w. Head q (length q) ∷ map (piece_moved (length q)) (blocks w)) (drop_of_length-le q (omega arith))
    ∙ ap (λ w. Head q (length q) ∷ map (piece_moved (length q)) w) blocks-nothing

pub until_close-alone : (v : Verdict) → until_close (v ∷ []) ≡ v ∷ []
until_close-alone v = go (closes v) refl where
  go : (b : Bool) → closes v ≡ b → until_close (v ∷ []) ≡ v ∷ []
  go true e = until_close-closed v [] e
  go false e = until_close-open v [] e ∙ ap (λ w. v ∷ w) until_close-nil

-- one whole block has one verdict
pub verdicts-alone : (q : List ℕ) → cut_of q ≡ Block 0 (length q) → verdicts q ≡ verdict q ∷ []
verdicts-alone q e = verdicts-are q ∙ ap (λ ps. until_close (map piece_verdict ps)) (blocks-alone q e) ∙ until_close-alone (verdict q)

-- and one answer
pub answers-alone : (files : FilesAt) (q : List ℕ) → cut_of q ≡ Block 0 (length q) → answers files q ≡ answer files (verdict q) ∷ []
answers-alone files q e = answers-are files q ∙ ap (map (answer files)) (verdicts-alone q e)
