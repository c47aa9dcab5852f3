-- Packets by their numbers, with one more packet, and with one that is lost.
use Rattle.std.proofs.Common.{◌≡◌, ℕ, zero, suc, ◌+◌, ◌-◌, List, [], ◌∷◌, ◌++◌, length, Bool, true, false, cond, Option, Some, None, refl, sym, ap, ◌∙◌, nat_eq, arith}
use Rattle.std.proofs.lemmas.Bool.Decides.{nat_tests}
use Rattle.std.specs.Prelude.{slice_get}
use Rattle.lard_law_view.specs.Prelude.{Packet, goal_in, lose_at, lost_in, packet_at}

next_same : (m n : ℕ) → nat_eq m n ≡ nat_eq (suc m) (suc n)
next_same m n = grind (arith, nat_tests)

none_later : (n : ℕ) → nat_eq 0 (suc n) ≡ false
none_later n = grind (arith, nat_tests)

some_first : (n : ℕ) → nat_eq (suc n) 0 ≡ false
some_first n = grind (arith, nat_tests)

never_zero : (n k : ℕ) → nat_eq k 0 ≡ true → nat_eq (n + 1) k ≡ false
never_zero n k e = grind (arith, nat_tests, e)

one_less : (n k : ℕ) → nat_eq k 0 ≡ false → nat_eq n (k - 1) ≡ nat_eq (n + 1) k
one_less n k e = grind (arith, nat_tests, e)

both_less : (j k : ℕ) → nat_eq j 0 ≡ false → nat_eq k 0 ≡ false → nat_eq (j - 1) (k - 1) ≡ nat_eq j k
both_less j k e f = grind (arith, nat_tests, e, f)

differ : (j k : ℕ) → nat_eq j 0 ≡ false → nat_eq k 0 ≡ true → nat_eq j k ≡ false
differ j k e f = grind (arith, nat_tests, e, f)

-- ---- one more

get_push : (net : List Packet) (p : Packet) (i : ℕ) → slice_get (net ++ p ∷ []) i ≡ cond (nat_eq (length net) i) (Some p) (slice_get net i)
get_push [] p zero = refl
get_push [] p (suc i) = ap (λ b. cond b (Some p) None) (sym (none_later i))
get_push (q ∷ qs) p zero = ap (λ b. cond b (Some p) (Some q)) (sym (some_first (length qs)))
get_push (q ∷ qs) p (suc i) = get_push qs p i ∙ ap (λ b. cond b (Some p) (slice_get qs i)) (next_same (length qs) i)

packet_push : (net : List Packet) (p : Packet) (k : ℕ) → packet_at (net ++ p ∷ []) k ≡ cond (nat_eq (length net + 1) k) (Some p) (packet_at net k)
packet_push net p k = go (nat_eq k 0) refl where
  go : (b : Bool) → nat_eq k 0 ≡ b → cond b None (slice_get (net ++ p ∷ []) (k - 1)) ≡ cond (nat_eq (length net + 1) k) (Some p) (cond b None (slice_get net (k - 1)))
  go true e = ap (λ t. cond t (Some p) None) (sym (never_zero (length net) k e))
  go false e = get_push net p (k - 1) ∙ ap (λ t. cond t (Some p) (slice_get net (k - 1))) (one_less (length net) k e)

goal_cond : (b : Bool) (p : Packet) (o : Option Packet) → goal_in (cond b (Some p) o) ≡ cond b (Some p.to) (goal_in o)
goal_cond true p o = refl
goal_cond false p o = refl

pub goal_push : (net : List Packet) (p : Packet) (k : ℕ) → goal_in (packet_at (net ++ p ∷ []) k) ≡ cond (nat_eq (length net + 1) k) (Some p.to) (goal_in (packet_at net k))
goal_push net p k = ap goal_in (packet_push net p k) ∙ goal_cond (nat_eq (length net + 1) k) p (packet_at net k)

get_beyond : (net : List Packet) (i : ℕ) → nat_eq (length net) i ≡ true → slice_get net i ≡ None
get_beyond [] zero e = refl
get_beyond [] (suc i) e = refl
get_beyond (q ∷ qs) zero e = let no : true ≡ false = sym e ∙ some_first (length qs) in absurd (cc)
get_beyond (q ∷ qs) (suc i) e = get_beyond qs i (next_same (length qs) i ∙ e)

packet_beyond : (net : List Packet) (k : ℕ) → nat_eq (length net + 1) k ≡ true → packet_at net k ≡ None
packet_beyond net k e = go (nat_eq k 0) refl where
  go : (b : Bool) → nat_eq k 0 ≡ b → cond b None (slice_get net (k - 1)) ≡ None
  go true f = refl
  go false f = get_beyond net (k - 1) (one_less (length net) k f ∙ e)

pub lost_push : (net : List Packet) (p : Packet) (k : ℕ) → p.lost ≡ false → lost_in (packet_at (net ++ p ∷ []) k) ≡ lost_in (packet_at net k)
lost_push net p k there = ap lost_in (packet_push net p k) ∙ go (nat_eq (length net + 1) k) refl where
  go : (b : Bool) → nat_eq (length net + 1) k ≡ b → lost_in (cond b (Some p) (packet_at net k)) ≡ lost_in (packet_at net k)
  go true e = there ∙ ap lost_in (sym (packet_beyond net k e))
  go false e = refl

-- ---- one that is lost

get_goal_lost : (n : ℕ) (net : List Packet) (i : ℕ) → goal_in (slice_get (lose_at n net) i) ≡ goal_in (slice_get net i)
get_goal_lost n [] i = refl
get_goal_lost zero (p ∷ ps) zero = refl
get_goal_lost zero (p ∷ ps) (suc i) = refl
get_goal_lost (suc n) (p ∷ ps) zero = refl
get_goal_lost (suc n) (p ∷ ps) (suc i) = get_goal_lost n ps i

pub goal_lost : (net : List Packet) (n k : ℕ) → goal_in (packet_at (lose_at n net) k) ≡ goal_in (packet_at net k)
goal_lost net n k = go (nat_eq k 0) where
  go : (b : Bool) → goal_in (cond b None (slice_get (lose_at n net) (k - 1))) ≡ goal_in (cond b None (slice_get net (k - 1)))
  go true = refl
  go false = get_goal_lost n net (k - 1)

get_lost : (n : ℕ) (net : List Packet) (i : ℕ) (p : Packet) → slice_get net n ≡ Some p → lost_in (slice_get (lose_at n net) i) ≡ cond (nat_eq n i) true (lost_in (slice_get net i))
get_lost n [] i p e = let no : None ≡ Some p = e in absurd (cc)
get_lost zero (q ∷ qs) zero p e = refl
get_lost zero (q ∷ qs) (suc i) p e = ap (λ b. cond b true (lost_in (slice_get qs i))) (sym (none_later i))
get_lost (suc n) (q ∷ qs) zero p e = ap (λ b. cond b true q.lost) (sym (some_first n))
get_lost (suc n) (q ∷ qs) (suc i) p e = get_lost n qs i p e ∙ ap (λ b. cond b true (lost_in (slice_get qs i))) (next_same n i)

pub lost_lost : (net : List Packet) (j k : ℕ) (p : Packet) → packet_at net j ≡ Some p → lost_in (packet_at (lose_at (j - 1) net) k) ≡ cond (nat_eq j k) true (lost_in (packet_at net k))
lost_lost net j k p e = go (nat_eq j 0) (nat_eq k 0) refl refl e where
  go : (a b : Bool) → nat_eq j 0 ≡ a → nat_eq k 0 ≡ b → cond a None (slice_get net (j - 1)) ≡ Some p
      → lost_in (cond b None (slice_get (lose_at (j - 1) net) (k - 1))) ≡ cond (nat_eq j k) true (lost_in (cond b None (slice_get net (k - 1))))
  go true b f g h = let no : None ≡ Some p = h in absurd (cc)
  go false true f g h = ap (λ t. cond t true false) (sym (differ j k f g))
  go false false f g h = get_lost (j - 1) net (k - 1) p h ∙ ap (λ t. cond t true (lost_in (slice_get net (k - 1)))) (both_less j k f g)
