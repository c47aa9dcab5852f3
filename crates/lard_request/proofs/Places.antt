-- Places in a target, as the code finds them.
use Rattle.std.proofs.Common.{◌≡◌, ℕ, ◌≤◌, min, Bool, true, false, List, length, take, drop, Option, Some, None, cond, refl, sym, ap, ◌∙◌, arith, nat_lt, nat_le, nat_eq, codes}
use Rattle.std.proofs.lemmas.List.{take_min}
use Rattle.std.proofs.Math.ListN.{drop_of_length-le}
use Rattle.std.proofs.lemmas.List.Sums.{prefix_len-le-length}
use Rattle.std.proofs.lemmas.Bool.Decides.{nat_tests}
use Rattle.std.specs.List.{starts_with, position, position_or_len, before_first}
use Rattle.std.specs.Option.{unwrap_or}
use Rattle.std.specs.Str.{str_eq_ignore_ascii_case}
use Rattle.lard_request.specs.Target.{without_query, absolute_path, path_of}

-- the first place that passes, or the length
pub place-or-len : (p : ℕ → Bool) (bs : List ℕ) → unwrap_or (position p bs) (length bs) ≡ position_or_len p bs
place-or-len p bs = go (nat_lt (position_or_len p bs) (length bs)) refl where
  go : (t : Bool) → nat_lt (position_or_len p bs) (length bs) ≡ t → unwrap_or (cond t (Some (position_or_len p bs)) None) (length bs) ≡ position_or_len p bs
  go true e = refl
  go false e = let most : position_or_len p bs ≤ length bs = prefix_len-le-length _ bs in grind (arith, nat_tests, e, most)

-- the bytes before the first place that passes, or all
pub before-place : (p : ℕ → Bool) (bs : List ℕ) (o : Option ℕ) → o ≡ position p bs → take (unwrap_or o (length bs)) bs ≡ before_first p bs
before-place p bs o e = ap (λ k. take k bs) (ap (λ o. unwrap_or o (length bs)) e ∙ place-or-len p bs)

-- a place past the end is the end
pub take-place : (n : ℕ) (bs : List ℕ) → take (min (length bs) n) bs ≡ take n bs
take-place n bs = let e : min (length bs) n ≡ min n (length bs) = omega arith in ap (λ k. take k bs) e ∙ take_min n bs

drop-place : (n : ℕ) (bs : List ℕ) → drop (min (length bs) n) bs ≡ drop n bs
drop-place n bs = go (nat_le n (length bs)) refl where
  go : (t : Bool) → nat_le n (length bs) ≡ t → drop (min (length bs) n) bs ≡ drop n bs
  go true e = let m : min (length bs) n ≡ n = grind (arith, nat_tests, e) in ap (λ k. drop k bs) m
  go false e =
      let m : min (length bs) n ≡ length bs = grind (arith, nat_tests, e) in
      ap (λ k. drop k bs) m ∙ drop_of_length-le bs (omega arith) ∙ sym (drop_of_length-le bs (grind (arith, nat_tests, e)))

-- ---- the forms of a target

pub path-origin : (target path : List ℕ) → starts_with nat_eq target (codes "/") ≡ true → path ≡ without_query target → Some path ≡ path_of target
unfolding path_of
path-origin target path slash is =
    sym (ap (λ t. cond {A = Option (List ℕ)} t (Some (without_query target)) (cond {A = Option (List ℕ)} (str_eq_ignore_ascii_case (codes "http://") (take 7 target)) (absolute_path (drop 7 target)) None)) slash ∙ ap Some (sym is))

pub path-other : (target scheme : List ℕ) → starts_with nat_eq target (codes "/") ≡ false → scheme ≡ take (min (length target) 7) target
    → str_eq_ignore_ascii_case (codes "http://") scheme ≡ false → None ≡ path_of target
unfolding path_of
path-other target scheme slash front none =
    sym (ap (λ t. cond {A = Option (List ℕ)} t (Some (without_query target)) (cond {A = Option (List ℕ)} (str_eq_ignore_ascii_case (codes "http://") (take 7 target)) (absolute_path (drop 7 target)) None)) slash
    ∙ ap (λ t. cond {A = Option (List ℕ)} t (absolute_path (drop 7 target)) None) (ap (λ s. str_eq_ignore_ascii_case (codes "http://") s) (sym (front ∙ take-place 7 target)) ∙ none))

pub path-absolute : (target scheme rest : List ℕ) (path : Option (List ℕ)) → starts_with nat_eq target (codes "/") ≡ false → scheme ≡ take (min (length target) 7) target
    → rest ≡ drop (min (length target) 7) target → str_eq_ignore_ascii_case (codes "http://") scheme ≡ true → path ≡ absolute_path rest → path ≡ path_of target
unfolding path_of
path-absolute target scheme rest path slash front behind named is =
    is ∙ ap absolute_path (behind ∙ drop-place 7 target)
    ∙ sym (ap (λ t. cond {A = Option (List ℕ)} t (Some (without_query target)) (cond {A = Option (List ℕ)} (str_eq_ignore_ascii_case (codes "http://") (take 7 target)) (absolute_path (drop 7 target)) None)) slash
    ∙ ap (λ t. cond {A = Option (List ℕ)} t (absolute_path (drop 7 target)) None) (ap (λ s. str_eq_ignore_ascii_case (codes "http://") s) (sym (front ∙ take-place 7 target)) ∙ named))
