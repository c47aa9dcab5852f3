-- Two lists within a third in which no number stands twice are one, where they have the same numbers.
use Rattle.std.proofs.Common.{◌≡◌, ℕ, ◌+◌, ◌≤◌, nat_eq, ◌||◌, Bool, true, false, cond, List, [], ◌∷◌, inl, ⊎_elim, arith, refl, sym, ap, ◌∙◌, subst}
use Rattle.std.specs.List.{filter, list_any}
use Rattle.lard_law_connections.proofs.PolicyIns.{count}
use Rattle.lard_law_connections.proofs.PolicyWaiting.{within-wider}
use Rattle.lard_law_connections.specs.PolicyLine.{IsSublist}
use Rattle.lard_history.proofs.Seeing.{by_number, other_number, same_number}

abbrev has : ℕ → List ℕ → Bool
has c xs = list_any (nat_eq c) xs

-- what does not stand in a list does not in one within it
absent : (c : ℕ) (xs zs : List ℕ) → IsSublist xs zs → count c zs ≡ 0 → has c xs ≡ false
absent c [] zs h none = refl
absent c (x ∷ xs) [] h none = absurd h
absent c (x ∷ xs) (z ∷ zs) h none = ⊎_elim
    (λ (k : (x ≡ z) × IsSublist xs zs). go (nat_eq c z) refl none k.0 (λ n. absent c xs zs k.1 n))
    (λ (k : IsSublist (x ∷ xs) zs). absent c (x ∷ xs) zs k (less (nat_eq c z) (count c zs) none))
    h
  where
    less : (b : Bool) (n : ℕ) → cond b 1 0 + n ≡ 0 → n ≡ 0
    less true n e = absurd (omega (arith, e))
    less false n e = omega (arith, e)

    go : (b : Bool) → nat_eq c z ≡ b → cond b 1 0 + count c zs ≡ 0 → x ≡ z → (count c zs ≡ 0 → has c xs ≡ false) → (nat_eq c x || has c xs) ≡ false
    go true e n same later = absurd (omega (arith, n))
    go false e n same later = λ i. (ap (nat_eq c) same ∙ e) i || later (less false (count c zs) n) i

-- a number in front stands in no list within the rest
fresh : (z : ℕ) (zs : List ℕ) → count z (z ∷ zs) ≤ 1 → count z zs ≡ 0
fresh z zs once = let one : count z (z ∷ zs) ≡ 1 + count z zs = ap (λ (b : Bool). cond b 1 0 + count z zs) (same_number z) in omega (arith, one, once)

rest-once : (c z : ℕ) (zs : List ℕ) → count c (z ∷ zs) ≤ 1 → count c zs ≤ 1
rest-once c z zs once = go (nat_eq c z) once where
  go : (b : Bool) → cond b 1 0 + count c zs ≤ 1 → count c zs ≤ 1
  go true h = omega (arith, h)
  go false h = omega (arith, h)

none-has : (xs : List ℕ) → ((c : ℕ) → has c xs ≡ false) → xs ≡ []
none-has [] none = refl
none-has (x ∷ xs) none = let no : true ≡ false = sym (ap (λ (b : Bool). b || has x xs) (same_number x)) ∙ none x in absurd cc

-- behind the same number
same-rest : (x : ℕ) (xs ys : List ℕ) → has x xs ≡ false → has x ys ≡ false → ((c : ℕ) → has c (x ∷ xs) ≡ has c (x ∷ ys)) → (c : ℕ) → has c xs ≡ has c ys
same-rest x xs ys out too same c = by_number (has c xs ≡ has c ys) c x
    (λ e. subst (λ (n : ℕ). has n xs ≡ has n ys) (sym e) (out ∙ sym too))
    (λ n. let f : nat_eq c x ≡ false = other_number c x n in sym (ap (λ (b : Bool). b || has c xs) f) ∙ same c ∙ ap (λ (b : Bool). b || has c ys) f)

pub within-same : (zs xs ys : List ℕ) → ((c : ℕ) → count c zs ≤ 1) → IsSublist xs zs → IsSublist ys zs → ((c : ℕ) → has c xs ≡ has c ys) → xs ≡ ys
within-same zs [] ys once h k same = sym (none-has ys (λ c. sym (same c)))
within-same zs (x ∷ xs) [] once h k same = none-has (x ∷ xs) same
within-same [] (x ∷ xs) (y ∷ ys) once h k same = absurd h
within-same (z ∷ zs) (x ∷ xs) (y ∷ ys) once h k same =
    let later : (us vs : List ℕ) → IsSublist us zs → IsSublist vs zs → ((c : ℕ) → has c us ≡ has c vs) → us ≡ vs = λ us vs p q s. within-same zs us vs (λ c. rest-once c z zs (once c)) p q s in
    ⊎_elim
    (λ (p : (x ≡ z) × IsSublist xs zs). ⊎_elim
    (λ (q : (y ≡ z) × IsSublist ys zs). both later p.0 p.1 q.0 q.1)
    (λ (q : IsSublist (y ∷ ys) zs). absurd (one x xs (y ∷ ys) p.0 q (same z)))
    k)
    (λ (p : IsSublist (x ∷ xs) zs). ⊎_elim
    (λ (q : (y ≡ z) × IsSublist ys zs). absurd (one y ys (x ∷ xs) q.0 p (sym (same z))))
    (λ (q : IsSublist (y ∷ ys) zs). later (x ∷ xs) (y ∷ ys) p q same)
    k)
    h
  where
    none : count z zs ≡ 0
    none = fresh z zs (once z)

    -- one has the front, and the other has not
    one : (a : ℕ) (us vs : List ℕ) → a ≡ z → IsSublist vs zs → has z (a ∷ us) ≡ has z vs → ⊥
    one a us vs e w s =
        let there : has z (a ∷ us) ≡ true = ap (λ (n : ℕ). nat_eq z n || has z us) e ∙ ap (λ (b : Bool). b || has z us) (same_number z) in
        let no : true ≡ false = sym there ∙ s ∙ absent z vs zs w none in absurd cc

    both : ((us vs : List ℕ) → IsSublist us zs → IsSublist vs zs → ((c : ℕ) → has c us ≡ has c vs) → us ≡ vs) → x ≡ z → IsSublist xs zs → y ≡ z → IsSublist ys zs → x ∷ xs ≡ y ∷ ys
    both later e p f q =
        let front : y ≡ x = f ∙ sym e in
        let out : has x xs ≡ false = subst (λ (n : ℕ). has n xs ≡ false) (sym e) (absent z xs zs p none) in
        let too : has x ys ≡ false = subst (λ (n : ℕ). has n ys ≡ false) (sym e) (absent z ys zs q none) in
        let rest : xs ≡ ys = later xs ys p q (same-rest x xs ys out too (subst (λ (n : ℕ). (c : ℕ) → has c (x ∷ xs) ≡ has c (n ∷ ys)) front same)) in
        λ i. sym front i ∷ rest i

-- ---- what is taken out of both, or of one

-- whatever passes
pub both-within : (p : ℕ → Bool) (xs ys : List ℕ) → IsSublist xs ys → IsSublist (filter p xs) (filter p ys)
both-within p [] ys h = tt
both-within p (x ∷ xs) [] h = absurd h
both-within p (x ∷ xs) (y ∷ ys) h = ⊎_elim
    (λ (k : (x ≡ y) × IsSublist xs ys). subst (λ (n : ℕ). IsSublist (cond (p n) (n ∷ filter p xs) (filter p xs)) (filter p (y ∷ ys))) (sym k.0) (go (p y) (both-within p xs ys k.1)))
    (λ (k : IsSublist (x ∷ xs) ys). wider (p y) (filter p (x ∷ xs)) (both-within p (x ∷ xs) ys k))
    h
  where
    go : (b : Bool) → IsSublist (filter p xs) (filter p ys) → IsSublist (cond b (y ∷ filter p xs) (filter p xs)) (cond b (y ∷ filter p ys) (filter p ys))
    go true w = inl (refl, w)
    go false w = w

    wider : (b : Bool) (us : List ℕ) → IsSublist us (filter p ys) → IsSublist us (cond b (y ∷ filter p ys) (filter p ys))
    wider true us w = within-wider us (filter p ys) y w
    wider false us w = w

pub less-within : (p : ℕ → Bool) (xs ys : List ℕ) → IsSublist xs ys → IsSublist (filter p xs) ys
less-within p [] ys h = tt
less-within p (x ∷ xs) [] h = absurd h
less-within p (x ∷ xs) (y ∷ ys) h = ⊎_elim
    (λ (k : (x ≡ y) × IsSublist xs ys). go (p x) (less-within p xs ys k.1) k.0)
    (λ (k : IsSublist (x ∷ xs) ys). within-wider (filter p (x ∷ xs)) ys y (less-within p (x ∷ xs) ys k))
    h
  where
    go : (b : Bool) → IsSublist (filter p xs) ys → x ≡ y → IsSublist (cond b (x ∷ filter p xs) (filter p xs)) (y ∷ ys)
    go true w e = inl (e, w)
    go false w e = within-wider (filter p xs) ys y w
