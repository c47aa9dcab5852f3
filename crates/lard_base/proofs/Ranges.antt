-- What the ranges of a configuration's numbers give.
use Rattle.std.proofs.Common.{◌≡◌, ◌≤◌, ◌<◌, ◌+◌, ◌-◌, ◌*◌, ◌&&◌, ℕ, Bool, true, false, IsTrue, nat_le, List, ◌∷◌, All, take, drop, length, get_or, suc, Result, Ok, Err, refl, sym, ap, ◌∙◌, add-one, drop-cons, arith, cond, lit<, subst, take_all}
use Rattle.std.proofs.lemmas.Nat.{mul-le}
use Rattle.std.proofs.lemmas.Bool.Decides.{nat_tests}
use Rattle.lard_base.specs.declared.config.Config.{Config}
use Rattle.lard_base.specs.declared.config.Key.{Key}
use Rattle.lard_base.specs.declared.config.Key.TheVariants.{Nodes, Low, High, Age, Idle, Over, Miss, Cache, Stream}
use Rattle.lard_base.specs.declared.config.ConfigFault.{ConfigFault}
use Rattle.lard_base.specs.declared.config.ConfigFault.TheVariants.{Range}
use Rattle.lard_base.specs.Config.{AreKeysInRange, is_in_range, range_check, value_of, checked_from, all_keys}

-- a range's test, as two bounds
pub within : (least most value : ℕ) → IsTrue (nat_le least value && nat_le value most) → (least ≤ value) × (value ≤ most)
within least most value h = (grind (arith, nat_tests, h), grind (arith, nat_tests, h))

-- the terms of the room
pub record IsRoomBound (c : Config) : Type 0 where
  pub some_node : 1 ≤ c.nodes
  pub some_low : 1 ≤ c.low
  pub few : (c.nodes - 1) * c.high + c.low ≤ 64000

pub room_bound : (c : Config) → AreKeysInRange c → IsRoomBound c
room_bound c h =
    let nodes : (1 ≤ c.nodes) × (c.nodes ≤ 64) = within 1 64 c.nodes (h Nodes) in
    let low : (1 ≤ c.low) × (c.low ≤ 1000) = within 1 1000 c.low (h Low) in
    let high : (1 ≤ c.high) × (c.high ≤ 1000) = within 1 1000 c.high (h High) in
    let others : (c.nodes - 1) * c.high ≤ 63 * 1000 = mul-le (c.nodes - 1) c.high 63 1000 (omega (arith, nodes)) high.1 in
    record { some_node = nodes.0; some_low = low.0; few = omega (arith, others, low) }

-- the test of a key gives the answer, or leaves it to the keys after it
stops : (c : Config) (key : Key) (keys : List Key) (fault : ConfigFault) → range_check key (value_of c key) ≡ Err fault → checked_from c (key ∷ keys) ≡ Err fault
stops c key keys fault h = go (is_in_range key (value_of c key)) h where
  go : (b : Bool) → cond {A = Result (Unit {0}) ConfigFault} b (Ok tt) (Err (Range key (value_of c key))) ≡ Err fault → cond b (checked_from c keys) (Err (Range key (value_of c key))) ≡ Err fault
  go true e = cc
  go false e = e

goes : (c : Config) (key : Key) (keys : List Key) → range_check key (value_of c key) ≡ Ok tt → (checked_from c (key ∷ keys) ≡ checked_from c keys) × IsTrue (is_in_range key (value_of c key))
goes c key keys h = go (is_in_range key (value_of c key)) h where
  go : (b : Bool) → cond {A = Result (Unit {0}) ConfigFault} b (Ok tt) (Err (Range key (value_of c key))) ≡ Ok tt → (cond b (checked_from c keys) (Err (Range key (value_of c key))) ≡ checked_from c keys) × IsTrue b
  go true e = (refl, refl)
  go false e = cc

-- the same of the key at a place
pub stops_at : (c : Config) (keys : List Key) (i : ℕ) (d : Key) (fault : ConfigFault) → i < length keys → range_check (get_or keys i d) (value_of c (get_or keys i d)) ≡ Err fault → checked_from c (drop i keys) ≡ Err fault
stops_at c keys i d fault h e = ap (checked_from c) (drop-cons keys i d h) ∙ stops c (get_or keys i d) (drop (suc i) keys) fault e

pub goes_at : (c : Config) (keys : List Key) (i : ℕ) (d : Key) → i < length keys → range_check (get_or keys i d) (value_of c (get_or keys i d)) ≡ Ok tt
    → (checked_from c (drop (i + 1) keys) ≡ checked_from c (drop i keys)) × IsTrue (is_in_range (get_or keys i d) (value_of c (get_or keys i d)))
goes_at c keys i d h e = let g = goes c (get_or keys i d) (drop (suc i) keys) e in
    (rw add-one (sym (ap (checked_from c) (drop-cons keys i d h) ∙ g.0)), g.1)

-- what holds at each of the keys holds at every key
each_key : (P : Key → Type 0) → All P all_keys → (key : Key) → P key
each_key P h Nodes = h 0 Nodes (lit< tt)
each_key P h Low = h 1 Nodes (lit< tt)
each_key P h High = h 2 Nodes (lit< tt)
each_key P h Age = h 3 Nodes (lit< tt)
each_key P h Idle = h 4 Nodes (lit< tt)
each_key P h Over = h 5 Nodes (lit< tt)
each_key P h Miss = h 6 Nodes (lit< tt)
each_key P h Cache = h 7 Nodes (lit< tt)
each_key P h Stream = h 8 Nodes (lit< tt)

-- once all keys have passed, every number is in its range
pub passed_all : (c : Config) (i : ℕ) → 9 ≤ i → All (λ key. IsTrue (is_in_range key (value_of c key))) (take i all_keys) → AreKeysInRange c
passed_all c i h passed = let P : Key → Type 0 = λ key. IsTrue (is_in_range key (value_of c key)) in each_key P (subst (All P) (take_all i all_keys h) passed)
