-- The lists of a map, of which the empty one is not kept: what is found after one was put, and two of them at one number.
use Rattle.std.proofs.Common.{◌≡◌, ℕ, List, [], ◌∷◌, Option, Some, None, refl, sym, ap, ◌∙◌}
use Rattle.std.specs.FinMap.{FinMap, get, insert}
use Rattle.std.specs.Ordering.{nat_cmp}
use Rattle.lard_table.proofs.Map.{get_put_same, get_put_other, put_twice, put_got}
use Rattle.lard_table.specs.Table.{put_or}
use Rattle.lard_resend.specs.declared.kept.Kept.{Kept}
use Rattle.lard_resend.specs.Pending.{held, list_of, put_list}

-- a list as a value or none
abbrev pub kept_of : List Kept → Option (List Kept)
kept_of [] = None
kept_of (k ∷ ks) = Some (k ∷ ks)

list_is : (m : FinMap nat_cmp (List Kept)) (c : ℕ) (ks : List Kept) → put_list m c ks ≡ put_or m c (kept_of ks)
list_is m c [] = refl
list_is m c (k ∷ ks) = refl

-- what was put is held
pub held_put : (m : FinMap nat_cmp (List Kept)) (c : ℕ) (ks : List Kept) → held (put_list m c ks) c ≡ ks
held_put m c [] = ap list_of (get_put_same m c None)
held_put m c (k ∷ ks) = ap list_of (get_put_same m c (Some (k ∷ ks)))

-- and of other connections what was
pub found_other : (m : FinMap nat_cmp (List Kept)) (c q : ℕ) (ks : List Kept) → (q ≡ c → ⊥) → get (put_list m c ks) q ≡ get m q
found_other m c q ks n = ap (λ (l : FinMap nat_cmp (List Kept)). get l q) (list_is m c ks) ∙ get_put_other m c q (kept_of ks) n

-- the second put counts
pub list_twice : (m : FinMap nat_cmp (List Kept)) (c : ℕ) (ks ls : List Kept) → put_list (put_list m c ks) c ls ≡ put_list m c ls
list_twice m c ks ls =
    list_is (put_list m c ks) c ls ∙ ap (λ (n : FinMap nat_cmp (List Kept)). put_or n c (kept_of ls)) (list_is m c ks) ∙ put_twice m c (kept_of ks) (kept_of ls) ∙ sym (list_is m c ls)

-- the same, where the second is not empty, or the first
pub insert_list : (m : FinMap nat_cmp (List Kept)) (c : ℕ) (ks ls : List Kept) → insert (put_list m c ks) c ls ≡ insert m c ls
insert_list m c ks ls = ap (λ (n : FinMap nat_cmp (List Kept)). put_or n c (Some ls)) (list_is m c ks) ∙ put_twice m c (kept_of ks) (Some ls)

pub list_insert : (m : FinMap nat_cmp (List Kept)) (c : ℕ) (ks ls : List Kept) → put_list (insert m c ks) c ls ≡ put_list m c ls
list_insert m c ks ls = list_is (insert m c ks) c ls ∙ put_twice m c (Some ks) (kept_of ls) ∙ sym (list_is m c ls)

-- what is held is put, where no empty list is kept
pub list_got : (m : FinMap nat_cmp (List Kept)) (c : ℕ) → (get m c ≡ Some [] → ⊥) → put_list m c (held m c) ≡ m
list_got m c some = list_is m c (held m c) ∙ ap (put_or m c) (go (get m c) some) ∙ put_got m c where
  go : (o : Option (List Kept)) → (o ≡ Some [] → ⊥) → kept_of (list_of o) ≡ o
  go None f = refl
  go (Some []) f = absurd (f refl)
  go (Some (k ∷ ks)) f = refl

-- no empty list is put
pub some_put : (m : FinMap nat_cmp (List Kept)) (c : ℕ) (ks : List Kept) → get (put_list m c ks) c ≡ Some [] → ⊥
some_put m c [] h = let none : None ≡ Some [] = sym (get_put_same m c None) ∙ h in absurd cc
some_put m c (k ∷ ks) h = let none : Some (k ∷ ks) ≡ Some [] = sym (get_put_same m c (Some (k ∷ ks))) ∙ h in absurd cc
