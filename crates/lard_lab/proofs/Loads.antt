-- How many requests are open at a node, as one comes and one is done.
use Rattle.std.proofs.Common.{◌≡◌, ℕ, ◌+◌, ◌/◌, ◌≤◌, Bool, true, false, nat_eq, cond, Option, Some, None, refl, ap, arith, []}
use Rattle.std.proofs.lemmas.Bool.{eq-eqb}
use Rattle.std.specs.FinMap as map
use Rattle.lard_loads.specs.declared.loads.TheConstants.{WHOLE}
use Rattle.lard_loads.specs.Tally.{Standing, Tally, connected, load, released, units_of}
use Rattle.lard_loads.proofs.Sums.{load-put}

-- the load of a node with one connection more
pub load-connected : (t : Tally) (c n m : ℕ) → 1 ≤ c → c ≤ 16384 → map.get t.standings c ≡ None → load (connected t c n) m ≡ load t m + cond (nat_eq n m) 840 0
load-connected t c n m low high free =
    let put = load-put t.standings m c (Some (record { home = n; shares = [] })) low high in
    let none : units_of (map.get t.standings c) m ≡ 0 = ap (λ (o : Option Standing). units_of o m) free in
    omega (arith, put, none)

-- and the number of those that are open
pub more-open : (t : Tally) (c n : ℕ) → 1 ≤ c → c ≤ 16384 → map.get t.standings c ≡ None → load (connected t c n) n / WHOLE ≡ load t n / WHOLE + 1
more-open t c n low high free = go (nat_eq n n) (eq-eqb n n refl) (load-connected t c n n low high free) where
  go : (b : Bool) → b ≡ true → load (connected t c n) n ≡ load t n + cond b 840 0 → load (connected t c n) n / WHOLE ≡ load t n / WHOLE + 1
  go true e sum = omega (arith, sum)
  go false e sum = cc

pub same-open : (t : Tally) (c n m : ℕ) → 1 ≤ c → c ≤ 16384 → map.get t.standings c ≡ None → nat_eq n m ≡ false → load (connected t c n) m / WHOLE ≡ load t m / WHOLE
same-open t c n m low high free other = go (nat_eq n m) other (load-connected t c n m low high free) where
  go : (b : Bool) → b ≡ false → load (connected t c n) m ≡ load t m + cond b 840 0 → load (connected t c n) m / WHOLE ≡ load t m / WHOLE
  go true e sum = cc
  go false e sum = omega (arith, sum)

-- no more are open once one is done
pub fewer-open : (t : Tally) (c n : ℕ) → 1 ≤ c → c ≤ 16384 → load (released t c) n / WHOLE ≤ load t n / WHOLE
fewer-open t c n low high =
    let put = load-put t.standings n c None low high in
    let less : load (released t c) n ≤ load t n = omega (arith, put) in omega (arith, less)
