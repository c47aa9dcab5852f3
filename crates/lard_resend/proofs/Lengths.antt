-- How many messages are kept: of a kind and number no more, or one more.
use Rattle.std.proofs.Common.{◌≡◌, ◌≤◌, ◌+◌, ℕ, suc, not, List, [], ◌∷◌, length, arith}
use Rattle.std.proofs.lemmas.Bool.{cond_both}
use Rattle.std.proofs.lemmas.List.Edits.{length-insert}
use Rattle.lard_base.specs.declared.place.TimerKind.{TimerKind}
use Rattle.lard_resend.specs.declared.kept.Kept.{Kept}
use Rattle.lard_resend.specs.Kept.{anew, comes_before, is_under, kept_place_of, without}

module _ (kind : TimerKind) (r : ℕ) where
  pub without-less : (ks : List Kept) → length (without kind r ks) ≤ length ks
  without-less [] = omega arith
  without-less (k ∷ ks) =
      let rest = without-less ks in
      cond_both (not (is_under kind r k)) (k ∷ without kind r ks) (without kind r ks) (λ (xs : List Kept). length xs ≤ suc (length ks)) (λ t. omega (arith, rest)) (λ t. omega (arith, rest))

  within : (ks : List Kept) → kept_place_of kind r ks ≤ length ks
  within [] = omega arith
  within (k ∷ ks) = let rest = within ks in cond_both (comes_before kind r k) (kept_place_of kind r ks + 1) 0 (λ n. n ≤ suc (length ks)) (λ t. omega (arith, rest)) (λ t. omega arith)

-- a message takes the place of those of its kind and number
pub length-anew : (k : Kept) (ks : List Kept) → length (anew k ks) ≡ length (without k.kind k.r ks) + 1
length-anew k ks = length-insert (without k.kind k.r ks) (kept_place_of k.kind k.r (without k.kind k.r ks)) k (within k.kind k.r (without k.kind k.r ks))

pub anew-more : (k : Kept) (ks : List Kept) → length (anew k ks) ≤ length ks + 1
anew-more k ks = let is = length-anew k ks in let less = without-less k.kind k.r ks in omega (arith, is, less)
