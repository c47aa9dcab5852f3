-- Messages in the order of their kinds and numbers: one more, and one less.
use Rattle.std.proofs.Common.{◌≡◌, ℕ, Bool, true, false, cond, not, ◌==◌, nat_lt, ◌&&◌, List, [], ◌∷◌, Some, None, insert, find, refl, sym, ap, ◌∙◌, subst, arith, add-one}
use Rattle.std.specs.List.{AllByRecursion}
use Rattle.std.proofs.lemmas.Bool.{and_parts, and_from, eqb-true, eq-eqb, cond-true, cond-false}
use Rattle.std.proofs.lemmas.Bool.Decides.{nat_tests}
use Rattle.lard_base.specs.declared.place.TimerKind.{TimerKind}
use Rattle.lard_resend.specs.declared.kept.Kept.{Kept}
use Rattle.lard_resend.specs.Kept.{kind_rank, is_under, comes_before, kept_place_of, put_in, without, AreInOrder}
use Rattle.lard_resend.specs.Laws.{HeldIsFound, DropsIt, LeavesOthers, KeepsTheOrder}

-- ---- the order

-- a's number r before b's number s
abbrev is_before : ℕ → ℕ → ℕ → ℕ → Bool
is_before a r b s = cond (a == b) (nat_lt r s) (nat_lt a b)

total : (a r b s : ℕ) → is_before a r b s ≡ false → (a == b && r == s) ≡ false → is_before b s a r ≡ true
total a r b s p q = grind (arith, nat_tests)

through : (a r b s c t : ℕ) → is_before a r b s ≡ true → is_before b s c t ≡ true → is_before a r c t ≡ true
through a r b s c t p q = grind (arith, nat_tests)

itself : (a r : ℕ) → is_before a r a r ≡ false
itself a r = grind (arith, nat_tests)

-- ---- one more

pub put_behind : (k x : Kept) (xs : List Kept) → comes_before k.kind k.r x ≡ true → put_in k (x ∷ xs) ≡ x ∷ put_in k xs
put_behind k x xs h = ap (λ (n : ℕ). insert (x ∷ xs) n k) (cond-true (comes_before k.kind k.r x) _ _ h ∙ add-one (kept_place_of k.kind k.r xs))

pub put_here : (k x : Kept) (xs : List Kept) → comes_before k.kind k.r x ≡ false → put_in k (x ∷ xs) ≡ k ∷ x ∷ xs
put_here k x xs h = ap (λ (n : ℕ). insert (x ∷ xs) n k) (cond-false (comes_before k.kind k.r x) _ _ h)

-- what holds of each, and of one more
pub put_all : (P : Kept → Type 0) (k : Kept) (ks : List Kept) → P k → AllByRecursion P ks → AllByRecursion P (put_in k ks)
put_all P k [] p h = (p, tt)
put_all P k (x ∷ xs) p h = go (comes_before k.kind k.r x) refl (put_all P k xs p h.1) where
  go : (t : Bool) → comes_before k.kind k.r x ≡ t → AllByRecursion P (put_in k xs) → AllByRecursion P (put_in k (x ∷ xs))
  go true e ih = subst (AllByRecursion P) (sym (put_behind k x xs e)) (h.0, ih)
  go false e ih = subst (AllByRecursion P) (sym (put_here k x xs e)) (p, h)

-- where nothing is found under a key, the first is not under it, and nothing is found behind it
none_first : (p : Kept → Bool) (x : Kept) (xs : List Kept) → find p (x ∷ xs) ≡ None → (p x ≡ false) × (find p xs ≡ None)
none_first p x xs h = go (p x) refl h where
  go : (t : Bool) → p x ≡ t → cond t (Some x) (find p xs) ≡ None → (p x ≡ false) × (find p xs ≡ None)
  go true e g = let none : Some x ≡ None = g in absurd cc
  go false e g = (e, g)

under_itself : (k : Kept) → is_under k.kind k.r k ≡ true
under_itself k = and_from _ _ (eq-eqb (kind_rank k.kind) (kind_rank k.kind) refl) (eq-eqb k.r k.r refl)

pub holds : HeldIsFound
holds k [] h = cond-true (is_under k.kind k.r k) _ _ (under_itself k)
holds k (x ∷ xs) h = go (comes_before k.kind k.r x) refl (none_first (is_under k.kind k.r) x xs h) (λ n. holds k xs n) where
  go : (t : Bool) → comes_before k.kind k.r x ≡ t → (is_under k.kind k.r x ≡ false) × (find (is_under k.kind k.r) xs ≡ None)
      → (find (is_under k.kind k.r) xs ≡ None → find (is_under k.kind k.r) (put_in k xs) ≡ Some k) → find (is_under k.kind k.r) (put_in k (x ∷ xs)) ≡ Some k
  go true e n ih = ap (find (is_under k.kind k.r)) (put_behind k x xs e) ∙ cond-false (is_under k.kind k.r x) _ _ n.0 ∙ ih n.1
  go false e n ih = ap (find (is_under k.kind k.r)) (put_here k x xs e) ∙ cond-true (is_under k.kind k.r k) _ _ (under_itself k)

put_others : (kind : TimerKind) (r : ℕ) (k : Kept) (ks : List Kept) → is_under kind r k ≡ false → find (is_under kind r) (put_in k ks) ≡ find (is_under kind r) ks
put_others kind r k [] n = cond-false (is_under kind r k) _ _ n
put_others kind r k (x ∷ xs) n = go (comes_before k.kind k.r x) refl (put_others kind r k xs n) where
  go : (t : Bool) → comes_before k.kind k.r x ≡ t → find (is_under kind r) (put_in k xs) ≡ find (is_under kind r) xs → find (is_under kind r) (put_in k (x ∷ xs)) ≡ find (is_under kind r) (x ∷ xs)
  go true e ih = ap (find (is_under kind r)) (put_behind k x xs e) ∙ ap (cond (is_under kind r x) (Some x)) ih
  go false e ih = ap (find (is_under kind r)) (put_here k x xs e) ∙ cond-false (is_under kind r k) _ _ n

-- ---- one less

pub drops : DropsIt
drops kind r [] = refl
drops kind r (x ∷ xs) = go (is_under kind r x) refl (drops kind r xs) where
  go : (t : Bool) → is_under kind r x ≡ t → find (is_under kind r) (without kind r xs) ≡ None → find (is_under kind r) (cond (not t) (x ∷ without kind r xs) (without kind r xs)) ≡ None
  go true e ih = ih
  go false e ih = cond-false (is_under kind r x) _ _ e ∙ ih

-- what is under one key is not under another
apart : (kind : TimerKind) (r : ℕ) (k x : Kept) → is_under kind r k ≡ false → is_under k.kind k.r x ≡ true → is_under kind r x ≡ false
apart kind r k x n h =
    let same = and_parts _ _ h in
    let a : kind_rank x.kind ≡ kind_rank k.kind = eqb-true _ _ same.0 in
    let b : x.r ≡ k.r = eqb-true _ _ same.1 in
    ap (λ (i : ℕ). i == kind_rank kind && x.r == r) a ∙ ap (λ (i : ℕ). kind_rank k.kind == kind_rank kind && i == r) b ∙ n

drop_others : (kind : TimerKind) (r : ℕ) (k : Kept) (ks : List Kept) → is_under kind r k ≡ false → find (is_under kind r) (without k.kind k.r ks) ≡ find (is_under kind r) ks
drop_others kind r k [] n = refl
drop_others kind r k (x ∷ xs) n = go (is_under k.kind k.r x) refl (drop_others kind r k xs n) where
  go : (t : Bool) → is_under k.kind k.r x ≡ t → find (is_under kind r) (without k.kind k.r xs) ≡ find (is_under kind r) xs
      → find (is_under kind r) (cond (not t) (x ∷ without k.kind k.r xs) (without k.kind k.r xs)) ≡ find (is_under kind r) (x ∷ xs)
  go true e ih = ih ∙ sym (cond-false (is_under kind r x) _ _ (apart kind r k x n e))
  go false e ih = ap (cond (is_under kind r x) (Some x)) ih

pub leaves : LeavesOthers
leaves kind r k ks n = (put_others kind r k ks n, drop_others kind r k ks n)

-- ---- both keep the order

pub drop_all : (P : Kept → Type 0) (kind : TimerKind) (r : ℕ) (ks : List Kept) → AllByRecursion P ks → AllByRecursion P (without kind r ks)
drop_all P kind r [] h = tt
drop_all P kind r (x ∷ xs) h = go (is_under kind r x) (drop_all P kind r xs h.1) where
  go : (t : Bool) → AllByRecursion P (without kind r xs) → AllByRecursion P (cond (not t) (x ∷ without kind r xs) (without kind r xs))
  go true ih = ih
  go false ih = (h.0, ih)

pub drop_keeps : (kind : TimerKind) (r : ℕ) (ks : List Kept) → AreInOrder ks → AreInOrder (without kind r ks)
drop_keeps kind r [] h = tt
drop_keeps kind r (x ∷ xs) h = go (is_under kind r x) (drop_keeps kind r xs h.1) where
  go : (t : Bool) → AreInOrder (without kind r xs) → AreInOrder (cond (not t) (x ∷ without kind r xs) (without kind r xs))
  go true ih = ih
  go false ih = (drop_all _ kind r xs h.0, ih)

-- what stands before one stands before those behind it
before_all : (k x : Kept) (xs : List Kept) → comes_before x.kind x.r k ≡ true → AllByRecursion (λ later. comes_before later.kind later.r x ≡ true) xs
    → AllByRecursion (λ later. comes_before later.kind later.r k ≡ true) xs
before_all k x [] h all = tt
before_all k x (y ∷ ys) h all = (through (kind_rank k.kind) k.r (kind_rank x.kind) x.r (kind_rank y.kind) y.r h all.0, before_all k x ys h all.1)

put_keeps : (k : Kept) (ks : List Kept) → AreInOrder ks → find (is_under k.kind k.r) ks ≡ None → AreInOrder (put_in k ks)
put_keeps k [] h n = (tt, tt)
put_keeps k (x ∷ xs) h n =
    let first = none_first (is_under k.kind k.r) x xs n in
    go (comes_before k.kind k.r x) refl first.0 (put_keeps k xs h.1 first.1) where
      go : (t : Bool) → comes_before k.kind k.r x ≡ t → is_under k.kind k.r x ≡ false → AreInOrder (put_in k xs) → AreInOrder (put_in k (x ∷ xs))
      go true e m ih = subst AreInOrder (sym (put_behind k x xs e)) (put_all _ k xs e h.0, ih)
      go false e m ih =
          let before : comes_before x.kind x.r k ≡ true = total (kind_rank x.kind) x.r (kind_rank k.kind) k.r e m in
          subst AreInOrder (sym (put_here k x xs e)) ((before, before_all k x xs before h.0), h)

pub keeps : KeepsTheOrder
keeps k ks h n = (put_keeps k ks h n, drop_keeps k.kind k.r ks h)
