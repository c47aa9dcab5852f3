-- While no node has few connections, not all but one have many: there is no room for so many.
use Rattle.std.proofs.Common.{◌≡◌, ℕ, zero, suc, ◌+◌, ◌-◌, ◌*◌, ◌<◌, ◌≤◌, Bool, true, false, not, ◌&&◌, nat_eq, nat_le, nat_lt, cond, List, [], ◌∷◌, sum_by, count_by, Option, Some, None, IfSome, Result, Ok, Err, refl, ap, subst, ◌∙◌, arith}
use Rattle.std.proofs.Math.Nat.{suc-mul}
use Rattle.std.proofs.lemmas.Bool.Decides.{nat_tests}
use Rattle.std.proofs.lemmas.List.Sums.{sum_by-cons}
use Rattle.std.specs.FinMap as fin
use Rattle.std.specs.List.{range_with_len}
use Rattle.lard_base.specs.Config.{checked_from, config_check, is_in_range, room_of, value_of}
use Rattle.lard_base.specs.declared.config.Config.{Config}
use Rattle.lard_base.specs.declared.config.ConfigFault.{ConfigFault}
use Rattle.lard_base.specs.declared.config.ConfigFault.TheVariants.{LowHigh, NoRoom, Range}
use Rattle.lard_base.specs.declared.config.Key.{Key}
use Rattle.lard_base.specs.declared.config.Key.TheVariants.{Nodes, Low, High, Age, Idle, Over, Miss, Cache, Stream}
use Rattle.lard_loads.specs.Tally.{Standing, Tally, admitted, home_of, numbers}
use Rattle.lard_loads.proofs.Charged.{one_node, zeros}
use Rattle.lard_loads.proofs.Counts.{AreAmong, counted_once}
use Rattle.lard_loads.proofs.Standings.{one_if}
use Rattle.lard_dispatch.specs.Books.{dispatch_begun}
use Rattle.lard_dispatch.specs.Laws.{after_calls}
use Rattle.lard_dispatch.specs.Loads.{FewAreHighWhileNoneIsLow, connections_at, is_home_of_node, loads_after}
use Rattle.lard_dispatch.specs.Sound.{AreAtNodes, IsNode, IsDispatcherSound}
use Rattle.lard_dispatch.proofs.AllCalls.{configs-stay, within-room}
use Rattle.lard_dispatch.proofs.Counted.{counted-among, sound-after}

-- ---- a configuration that is fit for use

passed : (c : Config) (key : Key) (keys : List Key) → checked_from c (key ∷ keys) ≡ Ok tt → (checked_from c keys ≡ Ok tt) × (is_in_range key (value_of c key) ≡ true)
passed c key keys h = go (is_in_range key (value_of c key)) refl h where
  go : (b : Bool) → is_in_range key (value_of c key) ≡ b → cond b (checked_from c keys) (Err (Range key (value_of c key))) ≡ Ok tt → (checked_from c keys ≡ Ok tt) × (is_in_range key (value_of c key) ≡ true)
  go true e t = (t, e)
  go false e t = cc

pub record IsFit (c : Config) : Type 0 where
  pub some_node : 1 ≤ c.nodes
  pub some_low : 1 ≤ c.low
  pub ordered : c.low ≤ c.high

at_least : (least most value : ℕ) → nat_le least value && nat_le value most ≡ true → least ≤ value
at_least least most value h = grind (arith, nat_tests, h)

pub is-fit : (c : Config) → config_check c ≡ Ok tt → IsFit c
is-fit c h =
    let nodes = passed c Nodes (Low ∷ High ∷ Age ∷ Idle ∷ Over ∷ Miss ∷ Cache ∷ Stream ∷ []) h in
    let low = passed c Low (High ∷ Age ∷ Idle ∷ Over ∷ Miss ∷ Cache ∷ Stream ∷ []) nodes.0 in
    let high = passed c High (Age ∷ Idle ∷ Over ∷ Miss ∷ Cache ∷ Stream ∷ []) low.0 in
    let age = passed c Age (Idle ∷ Over ∷ Miss ∷ Cache ∷ Stream ∷ []) high.0 in
    let idle = passed c Idle (Over ∷ Miss ∷ Cache ∷ Stream ∷ []) age.0 in
    let over = passed c Over (Miss ∷ Cache ∷ Stream ∷ []) idle.0 in
    let miss = passed c Miss (Cache ∷ Stream ∷ []) over.0 in
    let cache = passed c Cache (Stream ∷ []) miss.0 in
    let stream = passed c Stream [] cache.0 in
    record { some_node = at_least 1 64 c.nodes nodes.1; some_low = at_least 1 1000 c.low low.1; ordered = last (nat_lt c.high c.low) refl stream.0 } where
      last : (b : Bool) → nat_lt c.high c.low ≡ b → cond {A = Result (Unit {0}) ConfigFault} b (Err (LowHigh c.low c.high)) (cond (nat_eq (room_of c) 0) (Err NoRoom) (Ok tt)) ≡ Ok tt → c.low ≤ c.high
      last true e t = cc
      last false e t = grind (arith, nat_tests, e)

-- ---- connections at their homes

-- what a connection counts at a node where only homes count
abbrev pub home_at : Option Standing → ℕ → ℕ
home_at o n = cond (is_home_of_node (home_of o) n) 1 0

-- the connections of all nodes are the admitted ones
one-home : (o : Option Standing) (nodes : ℕ) → IfSome o (λ s. IsNode nodes s.home) → sum_by (home_at o) (numbers nodes) ≡ one_if o
one-home None nodes node = zeros 1 nodes
one-home (Some s) nodes node = let most = node.1 in one_node s.home 1 1 nodes node.0 (omega (arith, most))

all-homes : (t : Tally) (nodes : ℕ) → AreAmong t → AreAtNodes nodes t.standings → sum_by (connections_at t) (numbers nodes) ≡ admitted t
all-homes t nodes are at = counted_once t nodes home_at are (λ c. one-home (fin.get t.standings c) nodes (at c))

-- ---- how many are high

module _ (f : ℕ → ℕ) (low high : ℕ) (ordered : low ≤ high) where
  abbrev is_high : ℕ → Bool
  is_high n = nat_le high (f n)

  -- where none is below low, the sum is at least what those that are high, and those that are not, come to
  highs-le-sum : (a k : ℕ) → ((n : ℕ) → a ≤ n → n < a + k → low ≤ f n) → count_by is_high (range_with_len a k) * high + count_by (λ n. not (is_high n)) (range_with_len a k) * low ≤ sum_by f (range_with_len a k)
  highs-le-sum a zero each = omega arith
  highs-le-sum a (suc k) each = go (highs-le-sum (a + 1) k (λ n some most. each n (omega (arith, some)) (omega (arith, most)))) (is_high a) refl where
    all : sum_by f (range_with_len a (suc k)) ≡ f a + sum_by f (range_with_len (a + 1) k)
    all = sum_by-cons f a (range_with_len (a + 1) k)

    highs : count_by is_high (range_with_len a (suc k)) ≡ cond (is_high a) 1 0 + count_by is_high (range_with_len (a + 1) k)
    highs = sum_by-cons (λ n. cond {A = ℕ} (is_high n) 1 0) a (range_with_len (a + 1) k)

    others : count_by (λ n. not (is_high n)) (range_with_len a (suc k)) ≡ cond (not (is_high a)) 1 0 + count_by (λ n. not (is_high n)) (range_with_len (a + 1) k)
    others = sum_by-cons (λ n. cond {A = ℕ} (not (is_high n)) 1 0) a (range_with_len (a + 1) k)

    go : count_by is_high (range_with_len (a + 1) k) * high + count_by (λ n. not (is_high n)) (range_with_len (a + 1) k) * low ≤ sum_by f (range_with_len (a + 1) k)
        → (b : Bool) → is_high a ≡ b → count_by is_high (range_with_len a (suc k)) * high + count_by (λ n. not (is_high n)) (range_with_len a (suc k)) * low ≤ sum_by f (range_with_len a (suc k))
    go rest true e =
        let more : count_by is_high (range_with_len a (suc k)) ≡ suc (count_by is_high (range_with_len (a + 1) k)) = highs ∙ ap (λ b. cond b 1 0 + count_by is_high (range_with_len (a + 1) k)) e ∙ omega arith in
        let same : count_by (λ n. not (is_high n)) (range_with_len a (suc k)) ≡ count_by (λ n. not (is_high n)) (range_with_len (a + 1) k) = others ∙ ap (λ b. cond (not b) 1 0 + count_by (λ n. not (is_high n)) (range_with_len (a + 1) k)) e ∙ omega arith in
        let one : high ≤ f a = grind (arith, nat_tests, e) in
        let left : count_by is_high (range_with_len a (suc k)) * high ≡ count_by is_high (range_with_len (a + 1) k) * high + high = ap (λ n. n * high) more ∙ suc-mul (count_by is_high (range_with_len (a + 1) k)) high in
        let right : count_by (λ n. not (is_high n)) (range_with_len a (suc k)) * low ≡ count_by (λ n. not (is_high n)) (range_with_len (a + 1) k) * low = ap (λ n. n * low) same in
        omega (arith, rest, all, one, left, right)
    go rest false e =
        let same : count_by is_high (range_with_len a (suc k)) ≡ count_by is_high (range_with_len (a + 1) k) = highs ∙ ap (λ b. cond b 1 0 + count_by is_high (range_with_len (a + 1) k)) e ∙ omega arith in
        let more : count_by (λ n. not (is_high n)) (range_with_len a (suc k)) ≡ suc (count_by (λ n. not (is_high n)) (range_with_len (a + 1) k)) = others ∙ ap (λ b. cond (not b) 1 0 + count_by (λ n. not (is_high n)) (range_with_len (a + 1) k)) e ∙ omega arith in
        let one : low ≤ f a = each a (omega arith) (omega arith) in
        let left : count_by is_high (range_with_len a (suc k)) * high ≡ count_by is_high (range_with_len (a + 1) k) * high = ap (λ n. n * high) same in
        let right : count_by (λ n. not (is_high n)) (range_with_len a (suc k)) * low ≡ count_by (λ n. not (is_high n)) (range_with_len (a + 1) k) * low + low = ap (λ n. n * low) more ∙ suc-mul (count_by (λ n. not (is_high n)) (range_with_len (a + 1) k)) low in
        omega (arith, rest, all, one, left, right)

  -- each is high or not
  parts : (a k : ℕ) → count_by is_high (range_with_len a k) + count_by (λ n. not (is_high n)) (range_with_len a k) ≡ k
  parts a zero = refl
  parts a (suc k) = go (is_high a) refl (parts (a + 1) k) where
    highs : count_by is_high (range_with_len a (suc k)) ≡ cond (is_high a) 1 0 + count_by is_high (range_with_len (a + 1) k)
    highs = sum_by-cons (λ n. cond {A = ℕ} (is_high n) 1 0) a (range_with_len (a + 1) k)

    others : count_by (λ n. not (is_high n)) (range_with_len a (suc k)) ≡ cond (not (is_high a)) 1 0 + count_by (λ n. not (is_high n)) (range_with_len (a + 1) k)
    others = sum_by-cons (λ n. cond {A = ℕ} (not (is_high n)) 1 0) a (range_with_len (a + 1) k)

    go : (b : Bool) → is_high a ≡ b → count_by is_high (range_with_len (a + 1) k) + count_by (λ n. not (is_high n)) (range_with_len (a + 1) k) ≡ k
        → count_by is_high (range_with_len a (suc k)) + count_by (λ n. not (is_high n)) (range_with_len a (suc k)) ≡ suc k
    go true e more =
        let one : cond {A = ℕ} (is_high a) 1 0 ≡ 1 = ap (λ b. cond {A = ℕ} b 1 0) e in
        let none : cond {A = ℕ} (not (is_high a)) 1 0 ≡ 0 = ap (λ b. cond {A = ℕ} (not b) 1 0) e in
        omega (arith, highs, others, more, one, none)
    go false e more =
        let none : cond {A = ℕ} (is_high a) 1 0 ≡ 0 = ap (λ b. cond {A = ℕ} b 1 0) e in
        let one : cond {A = ℕ} (not (is_high a)) 1 0 ≡ 1 = ap (λ b. cond {A = ℕ} (not b) 1 0) e in
        omega (arith, highs, others, more, one, none)

  -- with one node that is not high at most, there is no room
  few-high : (nodes highs others sum : ℕ) → 1 ≤ nodes → 1 ≤ low → highs + others ≡ nodes → highs * high + others * low ≤ sum → sum ≤ (nodes - 1) * high + low - 1 → highs + 2 ≤ nodes
  few-high nodes highs zero sum some_node some_low all least most =
      let count : highs ≡ suc (nodes - 1) = omega (arith, all, some_node) in
      let times : highs * high ≡ (nodes - 1) * high + high = ap (λ n. n * high) count ∙ suc-mul (nodes - 1) high in
      absurd (omega (arith, times, least, most, some_low, ordered))
  few-high nodes highs (suc zero) sum some_node some_low all least most =
      let count : highs ≡ nodes - 1 = omega (arith, all) in
      let times : highs * high ≡ (nodes - 1) * high = ap (λ n. n * high) count in
      absurd (omega (arith, times, least, most, some_low))
  few-high nodes highs (suc (suc others)) sum some_node some_low all least most = omega (arith, all)

pub few-are-high : FewAreHighWhileNoneIsLow
few-are-high cfg calls may none_low =
    let fit : IsFit cfg = is-fit cfg may.usable in
    let t : Tally = loads_after cfg calls in
    let sound : IsDispatcherSound (after_calls (dispatch_begun cfg) calls) = sound-after cfg calls may in
    let at : AreAtNodes cfg.nodes t.standings = subst (λ (c : Config). AreAtNodes c.nodes t.standings) (configs-stay (dispatch_begun cfg) calls) sound.at_nodes in
    let homes = all-homes t cfg.nodes (counted-among cfg calls may) at in
    let few : admitted t ≤ room_of cfg = within-room cfg calls may.usable may.allowed in
    few-high (connections_at t) cfg.low cfg.high fit.ordered cfg.nodes
    (count_by (λ n. nat_le cfg.high (connections_at t n)) (numbers cfg.nodes)) (count_by (λ n. not (nat_le cfg.high (connections_at t n))) (numbers cfg.nodes)) (sum_by (connections_at t) (numbers cfg.nodes))
    fit.some_node fit.some_low (parts (connections_at t) cfg.low cfg.high fit.ordered 1 cfg.nodes)
    (highs-le-sum (connections_at t) cfg.low cfg.high fit.ordered 1 cfg.nodes (λ n some most. none_low n some (omega (arith, most))))
    (omega (arith, homes, few))
