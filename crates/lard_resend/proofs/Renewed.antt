-- A message in place of what is held under its kind and number: what is held there is dropped, and then the message held.
use Rattle.std.proofs.Common.{◌≡◌, ℕ, Bool, true, false, cond, not, List, [], ◌∷◌, Some, is_some, Result, Ok, Err, OnOk, find, refl, sym, ap, ◌∙◌}
use Rattle.std.specs.FinMap.{FinMap, get, insert}
use Rattle.std.specs.Ordering.{nat_cmp}
use Rattle.lard_base.specs.declared.place.TimerKind.{TimerKind}
use Rattle.lard_resend.specs.declared.kept.Kept.{Kept}
use Rattle.lard_resend.specs.Kept.{anew, is_under, put_in, without}
use Rattle.lard_resend.specs.Pending.{held, holding, put_list, renewed, pending_settled, under}
use Rattle.lard_resend.proofs.Held.{put_some}
use Rattle.lard_resend.proofs.Lists.{held_put, insert_list, list_got}
use Rattle.lard_resend.proofs.Ordered.{drops}

-- where nothing is found under a key, all are left
all_left : (kind : TimerKind) (r : ℕ) (ks : List Kept) → is_some (find (is_under kind r) ks) ≡ false → without kind r ks ≡ ks
all_left kind r [] h = refl
all_left kind r (k ∷ ks) h = go (is_under kind r k) h (all_left kind r ks) where
  go : (t : Bool) → is_some (cond t (Some k) (find (is_under kind r) ks)) ≡ false → (is_some (find (is_under kind r) ks) ≡ false → without kind r ks ≡ ks)
      → cond (not t) (k ∷ without kind r ks) (without kind r ks) ≡ k ∷ ks
  go true g ih = absurd cc
  go false g ih = ap (λ (ls : List Kept). k ∷ ls) (ih g)

-- those that are left are held
pub held_settled : (m : FinMap nat_cmp (List Kept)) (c : ℕ) (kind : TimerKind) (r : ℕ) → held (pending_settled m c kind r) c ≡ without kind r (held m c)
held_settled m c kind r = go (is_some (under m c kind r)) refl where
  go : (t : Bool) → is_some (under m c kind r) ≡ t → held (cond t (put_list m c (without kind r (held m c))) m) c ≡ without kind r (held m c)
  go true e = held_put m c (without kind r (held m c))
  go false e = sym (all_left kind r (held m c) e)

-- nothing is held under the key then
pub none_left : (m : FinMap nat_cmp (List Kept)) (c : ℕ) (kind : TimerKind) (r : ℕ) → is_some (under (pending_settled m c kind r) c kind r) ≡ false
none_left m c kind r = ap (λ (ks : List Kept). is_some (find (is_under kind r) ks)) (held_settled m c kind r) ∙ ap is_some (drops kind r (held m c))

-- a list that is set in counts alone
insert_settled : (m : FinMap nat_cmp (List Kept)) (c : ℕ) (kind : TimerKind) (r : ℕ) (ks : List Kept) → insert (pending_settled m c kind r) c ks ≡ insert m c ks
insert_settled m c kind r ks = go (is_some (under m c kind r)) where
  go : (t : Bool) → insert (cond t (put_list m c (without kind r (held m c))) m) c ks ≡ insert m c ks
  go true = insert_list m c (without kind r (held m c)) ks
  go false = refl

pub held_anew : (m : FinMap nat_cmp (List Kept)) (c : ℕ) (k : Kept) → holding (pending_settled m c k.kind k.r) c k ≡ renewed m c k
held_anew m c k =
    ap (λ (ks : List Kept). insert (pending_settled m c k.kind k.r) c (put_in k ks)) (held_settled m c k.kind k.r) ∙ insert_settled m c k.kind k.r (anew k (held m c))

pub renewing : {A E : Type 0} (m n o : FinMap nat_cmp (List Kept)) (c : ℕ) (k : Kept) (r : Result A E) → n ≡ pending_settled m c k.kind k.r → OnOk r (o ≡ holding n c k) → OnOk r (o ≡ renewed m c k)
renewing m n o c k (Ok done) dropped ok = ok ∙ ap (λ (l : FinMap nat_cmp (List Kept)). holding l c k) dropped ∙ held_anew m c k
renewing m n o c k (Err e) dropped ok = tt

-- ---- the same as lists that are put

-- a list with a message is not empty
pub renewed_is : (m : FinMap nat_cmp (List Kept)) (c : ℕ) (k : Kept) → renewed m c k ≡ put_list m c (anew k (held m c))
renewed_is m c k = go (anew k (held m c)) (put_some k (without k.kind k.r (held m c))) where
  go : (ks : List Kept) → (ks ≡ [] → ⊥) → insert m c ks ≡ put_list m c ks
  go [] some = absurd (some refl)
  go (x ∷ xs) some = refl

pub settled_is : (m : FinMap nat_cmp (List Kept)) (c : ℕ) (kind : TimerKind) (r : ℕ) → (get m c ≡ Some [] → ⊥) → pending_settled m c kind r ≡ put_list m c (without kind r (held m c))
settled_is m c kind r some = go (is_some (under m c kind r)) refl where
  go : (t : Bool) → is_some (under m c kind r) ≡ t → cond t (put_list m c (without kind r (held m c))) m ≡ put_list m c (without kind r (held m c))
  go true e = refl
  go false e = sym (list_got m c some) ∙ ap (put_list m c) (sym (all_left kind r (held m c) e))
