-- Pairs CR LF and bare line feeds, counted from the front.
use Rattle.std.proofs.Common.{◌≡◌, ℕ, suc, ◌+◌, ◌-◌, ◌≤◌, ◌<◌, Bool, true, false, ◌&&◌, ◌||◌, not, List, [], ◌∷◌, length, take, drop, get_or, cond, refl, sym, ap, ◌∙◌, arith, nat_eq, ◌⊎◌, inl, inr, take_all, drop-cons}
use Rattle.std.proofs.Math.ListN.{drop_of_length-le}
use Rattle.std.proofs.lemmas.List.{length-drop}
use Rattle.std.proofs.lemmas.Bool.{ne_eqb}
use Rattle.std.specs.List.{starts_with}
use Rattle.lard_request.specs.Verdict.{pairs_in, has_bare_feed}

-- bytes begin with a pair
abbrev pub pair_here : List ℕ → Bool
pair_here bs = starts_with nat_eq bs (13 ∷ 10 ∷ [])

-- the bytes behind a place, as the code takes them
behind : (bs : List ℕ) (at : ℕ) → take (length bs - at) (drop at bs) ≡ drop at bs
behind bs at = take_all (length bs - at) (drop at bs) (omega (arith, length-drop at bs))

from_here : (bs : List ℕ) (at : ℕ) → at < length bs → drop at bs ≡ get_or bs at 0 ∷ drop (at + 1) bs
from_here bs at inside = let next : suc at ≡ at + 1 = omega arith in drop-cons bs at 0 inside ∙ ap (λ k. get_or bs at 0 ∷ drop k bs) next

-- ---- pairs

pub pairs-cons : (b : ℕ) (rest : List ℕ) → pairs_in (b ∷ rest) ≡ cond (pair_here (b ∷ rest)) 1 0 + pairs_in rest
unfolding pairs_in
pairs-cons b rest = refl

pub pairs-none : (bs : List ℕ) (at : ℕ) → length bs ≤ at → pairs_in (drop at bs) ≡ 0
unfolding pairs_in
pairs-none bs at over = ap pairs_in (drop_of_length-le bs over)

pairs-from : (bs : List ℕ) (at : ℕ) (here : Bool) → at < length bs → here ≡ pair_here (take (length bs - at) (drop at bs)) → pairs_in (drop at bs) ≡ cond here 1 0 + pairs_in (drop (at + 1) bs)
pairs-from bs at here inside test =
    let same : pair_here (get_or bs at 0 ∷ drop (at + 1) bs) ≡ here = sym (ap pair_here (from_here bs at inside)) ∙ sym (test ∙ ap pair_here (behind bs at)) in
    ap pairs_in (from_here bs at inside) ∙ pairs-cons (get_or bs at 0) (drop (at + 1) bs) ∙ ap (λ t. cond t 1 0 + pairs_in (drop (at + 1) bs)) same

pub count-hit : (bs : List ℕ) (at count after : ℕ) → at < length bs → (count ≤ at) × (count + pairs_in (drop at bs) ≡ pairs_in bs)
    → true ≡ pair_here (take (length bs - at) (drop at bs)) → after ≡ count + 1 → (after ≤ at + 1) × (after + pairs_in (drop (at + 1) bs) ≡ pairs_in bs)
count-hit bs at count after inside so_far test next = let from : pairs_in (drop at bs) ≡ 1 + pairs_in (drop (at + 1) bs) = pairs-from bs at true inside test in (omega arith, omega arith)

pub count-miss : (bs : List ℕ) (at count after : ℕ) → at < length bs → (count ≤ at) × (count + pairs_in (drop at bs) ≡ pairs_in bs)
    → false ≡ pair_here (take (length bs - at) (drop at bs)) → after ≡ count → (after ≤ at + 1) × (after + pairs_in (drop (at + 1) bs) ≡ pairs_in bs)
count-miss bs at count after inside so_far test next = let from : pairs_in (drop at bs) ≡ 0 + pairs_in (drop (at + 1) bs) = pairs-from bs at false inside test in (omega arith, omega arith)

-- ---- bare line feeds

pub bare-from : (bs : List ℕ) (at : ℕ) (after : Bool) → at < length bs
    → has_bare_feed after (drop at bs) ≡ ((nat_eq (get_or bs at 0) 10 && not after) || has_bare_feed (nat_eq (get_or bs at 0) 13) (drop (at + 1) bs))
unfolding has_bare_feed
bare-from bs at after inside = ap (has_bare_feed after) (from_here bs at inside)

pub bare-none : (bs : List ℕ) (at : ℕ) (after : Bool) → length bs ≤ at → has_bare_feed after (drop at bs) ≡ false
unfolding has_bare_feed
bare-none bs at after over = ap (has_bare_feed after) (drop_of_length-le bs over)

pub bare-hit : (bs : List ℕ) (at : ℕ) (after : Bool) → at < length bs → has_bare_feed after (drop at bs) ≡ has_bare_feed false bs
    → get_or bs at 0 ≡ 10 → after ≡ false → true ≡ has_bare_feed false bs
bare-hit bs at after inside so_far feed alone =
    sym (sym so_far ∙ bare-from bs at after inside
    ∙ ap (λ b. (nat_eq b 10 && not after) || has_bare_feed (nat_eq (get_or bs at 0) 13) (drop (at + 1) bs)) feed
    ∙ ap (λ a. not a || has_bare_feed (nat_eq (get_or bs at 0) 13) (drop (at + 1) bs)) alone)

-- a byte that is no bare line feed
no_feed : (b : ℕ) (after : Bool) → ((b ≡ 10) × (after ≡ true)) ⊎ (b ≡ 10 → ⊥) → (nat_eq b 10 && not after) ≡ false
no_feed b after is = elim is [
  | inl e ↦ ap (λ a. nat_eq b 10 && not a) e.1 ∙ and-false (nat_eq b 10)
  | inr n ↦ ap (λ t. t && not after) (ne_eqb b 10 n)
] where
  and-false : (t : Bool) → (t && false) ≡ false
  and-false true = refl
  and-false false = refl

pub bare-miss : (bs : List ℕ) (at : ℕ) (after : Bool) → at < length bs → has_bare_feed after (drop at bs) ≡ has_bare_feed false bs
    → ((get_or bs at 0 ≡ 10) × (after ≡ true)) ⊎ (get_or bs at 0 ≡ 10 → ⊥) → has_bare_feed (nat_eq (get_or bs at 0) 13) (drop (at + 1) bs) ≡ has_bare_feed false bs
bare-miss bs at after inside so_far fine =
    ap (λ t. t || has_bare_feed (nat_eq (get_or bs at 0) 13) (drop (at + 1) bs)) (sym (no_feed (get_or bs at 0) after fine)) ∙ sym (bare-from bs at after inside) ∙ so_far
