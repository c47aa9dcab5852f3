-- What is found under a number, once a value was put under another, or under it.
use Rattle.std.proofs.Common.{◌≡◌, ◌≢◌, ℕ, Bool, true, false, nat_eq, cond, List, [], ◌∷◌, ◌++◌, Option, Some, None, unwrap_or, refl, sym, ap, subst, ◌∙◌}
use Rattle.std.proofs.lemmas.Bool.{eqb-true, eq-eqb}
use Rattle.std.proofs.lemmas.List.Sums.{fold-append}
use Rattle.std.specs.List.{fold}
use Rattle.indexmap.specs.IndexMap.{insert_entry}
use Rattle.lard_history.proofs.Seeing.{by_number, other_number, same_number}
use Rattle.lard_journal.specs.declared.rec.Rec.{Rec}
use Rattle.lard_audit.specs.declared.owners.Holder.{Holder}
use Rattle.lard_audit.specs.Network.{holder, audit_nobody}
use Rattle.lard_audit.specs.Register.{kept}

-- a fold with one record more
pub once-more : {A : Type 0} (f : A → Rec → A) (a : A) (J : List Rec) (r : Rec) → fold f a (J ++ r ∷ []) ≡ f (fold f a J) r
once-more f a J r = fold-append f a J (r ∷ [])

module _ {V : Type 0} where
  pub kept-same : (es : List (ℕ × V)) (k : ℕ) (v : V) → kept (insert_entry nat_eq es k v) k ≡ Some v
  kept-same [] k v = ap (λ (b : Bool). cond {A = Option V} b (Some v) None) (same_number k)
  kept-same (e ∷ es) k v = go (nat_eq k e.0) refl (kept-same es k v) where
    go : (b : Bool) → nat_eq k e.0 ≡ b → kept (insert_entry nat_eq es k v) k ≡ Some v → kept (cond b ((e.0, v) ∷ es) (e ∷ insert_entry nat_eq es k v)) k ≡ Some v
    go true is more = ap (λ (b : Bool). cond {A = Option V} b (Some v) (kept es k)) is
    go false is more = ap (λ (b : Bool). cond {A = Option V} b (Some e.1) (kept (insert_entry nat_eq es k v) k)) is ∙ more

  pub kept-other : (es : List (ℕ × V)) (k q : ℕ) (v : V) → q ≢ k → kept (insert_entry nat_eq es k v) q ≡ kept es q
  kept-other [] k q v n = ap (λ (b : Bool). cond {A = Option V} b (Some v) None) (other_number q k n)
  kept-other (e ∷ es) k q v n = go (nat_eq k e.0) refl (kept-other es k q v n) where
    go : (b : Bool) → nat_eq k e.0 ≡ b → kept (insert_entry nat_eq es k v) q ≡ kept es q → kept (cond b ((e.0, v) ∷ es) (e ∷ insert_entry nat_eq es k v)) q ≡ cond {A = Option V} (nat_eq q e.0) (Some e.1) (kept es q)
    go true is more =
        let apart : nat_eq q e.0 ≡ false = other_number q e.0 (λ s. n (s ∙ sym (eqb-true k e.0 is))) in
        ap (λ (b : Bool). cond {A = Option V} b (Some v) (kept es q)) apart ∙ sym (ap (λ (b : Bool). cond {A = Option V} b (Some e.1) (kept es q)) apart)
    go false is more = ap (λ (o : Option V). cond {A = Option V} (nat_eq q e.0) (Some e.1) o) more

-- what is told of a holder, once another was put, or this one
pub holder-put : {X : Type 0} (told : Holder → X) (owners : List (ℕ × Holder)) (d c : ℕ) (v : Holder)
    → told (holder (insert_entry nat_eq owners d v) c) ≡ cond (nat_eq d c) (told v) (told (holder owners c))
holder-put {X} told owners d c v = by_number _ d c same other where
  same : d ≡ c → told (holder (insert_entry nat_eq owners d v) c) ≡ cond (nat_eq d c) (told v) (told (holder owners c))
  same e =
      subst (λ (n : ℕ). told (holder (insert_entry nat_eq owners d v) n) ≡ told v) e (ap (λ (o : Option Holder). told (unwrap_or o audit_nobody)) (kept-same owners d v))
      ∙ sym (ap (λ (b : Bool). cond {A = X} b (told v) (told (holder owners c))) (eq-eqb d c e))

  other : d ≢ c → told (holder (insert_entry nat_eq owners d v) c) ≡ cond (nat_eq d c) (told v) (told (holder owners c))
  other n =
      ap (λ (o : Option Holder). told (unwrap_or o audit_nobody)) (kept-other owners d c v (λ s. n (sym s)))
      ∙ sym (ap (λ (b : Bool). cond {A = X} b (told v) (told (holder owners c))) (other_number d c n))

-- what is the same wherever two numbers are the same
pub either-way : {X : Type 0} (f : ℕ → X) (d c : ℕ) → cond (nat_eq d c) (f d) (f c) ≡ f c
either-way {X} f d c = by_number _ d c (λ e. ap (λ (b : Bool). cond {A = X} b (f d) (f c)) (eq-eqb d c e) ∙ ap f e) (λ n. ap (λ (b : Bool). cond {A = X} b (f d) (f c)) (other_number d c n))
