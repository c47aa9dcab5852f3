-- There are no more requests in some bytes than bytes.
use Rattle.std.proofs.Common.{◌≡◌, ◌≤◌, ◌+◌, ℕ, zero, suc, List, [], ◌∷◌, map, length, drop, refl, sym, ap, subst, arith}
use Rattle.std.proofs.lemmas.Bool.{cond_both}
use Rattle.lard_law_view.specs.Prelude.{Found, Head, Long, Verdict, blocks, cut_of, piece_moved, pieces, pieces_from, until_close, verdicts, verdicts_on}
use Rattle.lard_answers.proofs.Growing.{until_close-cons, until_close-nil, verdicts-are}
use Rattle.lard_block.specs.declared.block.Found.TheVariants.{Block, More, TooLong}
use Rattle.lard_block.specs.Blocks.{Piece}

abbrev IsFew : ℕ → List Piece → Type 0
IsFew n ps = length ps ≤ n

moved-few : (by : ℕ) (ps : List Piece) → length (map (piece_moved by) ps) ≡ length ps
moved-few by [] = refl
moved-few by (p ∷ ps) = ap suc (moved-few by ps)

from-few : (n : ℕ) (q : List ℕ) (later : ℕ → List Piece) → ((k : ℕ) → IsFew n (later k)) → (f : Found) → IsFew (suc n) (pieces_from q later f)
from-few n q later h (Block skip len) = let le = h (skip + len) in omega (arith, le)
from-few n q later h (More skip) = omega arith
from-few n q later h (TooLong skip) = omega arith

pieces-few : (n : ℕ) (q : List ℕ) → IsFew n (pieces n q)
unfolding pieces
pieces-few zero q = omega arith
pieces-few (suc n) q = from-few n q (λ used. map (piece_moved used) (pieces n (drop used q)))
    (λ used. let le = pieces-few n (drop used q) in let same = moved-few used (pieces n (drop used q)) in omega (arith, le, same)) (cut_of q)

pub blocks-few : (q : List ℕ) → length (blocks q) ≤ length q
unfolding blocks
blocks-few q = pieces-few (length q) q

pub on-few : (ps : List Piece) → length (verdicts_on ps) ≤ length ps
on-few [] = omega arith
on-few (Head block after ∷ ps) = let le = on-few ps in omega (arith, le)
on-few (Long ∷ ps) = let le = on-few ps in omega (arith, le)

until-few : (vs : List Verdict) → length (until_close vs) ≤ length vs
until-few [] = subst (λ (us : List Verdict). length us ≤ 0) (sym until_close-nil) (omega arith)
until-few (v ∷ vs) = subst (λ (us : List Verdict). length us ≤ suc (length vs)) (sym (until_close-cons v vs))
    (let le = until-few vs in cond_both _ [] (until_close vs) (λ (us : List Verdict). suc (length us) ≤ suc (length vs)) (λ t. omega arith) (λ t. omega (arith, le)))

pub verdicts-few : (q : List ℕ) → length (verdicts q) ≤ length q
verdicts-few q = subst (λ (us : List Verdict). length us ≤ length q) (sym (verdicts-are q))
    (let a = until-few (verdicts_on (blocks q)) in let b = on-few (blocks q) in let c = blocks-few q in omega (arith, a, b, c))
