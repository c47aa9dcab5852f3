-- While no node is closed, no load is far above the thresholds: a connection goes to a node below twice T_high, and a share
-- to one that is not above L_overload. So no node has more than 2 T_high connections, either.
use Rattle.std.proofs.Common.{◌≡◌, ℕ, zero, suc, ◌+◌, ◌-◌, ◌*◌, ◌/◌, ◌<◌, ◌≤◌, Bool, true, false, ◌&&◌, ◌||◌, nat_eq, nat_lt, cond, List, [], ◌∷◌, ◌++◌, length, sum_by, Option, Some, None, IsSome, Ok, refl, sym, ap, subst, ◌∙◌, ◌⊎◌, inl, inr, ⊎_elim, arith}
use Rattle.std.proofs.Math.Nat.{div-le_self, mul_assoc, suc-mul}
use Rattle.std.proofs.lemmas.Bool.{cases_lt, cond_both, both_ways, eq-eqb}
use Rattle.std.proofs.lemmas.Bool.Decides.{nat_tests}
use Rattle.std.proofs.lemmas.List.Sums.{sum_by-cons, sum_by_push}
use Rattle.std.proofs.lemmas.Nat.{mul-le}
use Rattle.std.specs.FinMap as fin
use Rattle.std.specs.List.{AllByRecursion, range_with_len}
use Rattle.lard_base.specs.Config.{config_check, room_of}
use Rattle.lard_base.specs.declared.config.Config.{Config}
use Rattle.lard_base.specs.declared.ids.Millis.{Millis}
use Rattle.lard_base.specs.Members.{has}
use Rattle.lard_table.specs.Table.{put_or}
use Rattle.lard_loads.specs.Charges.{IsConnection}
use Rattle.lard_loads.specs.declared.slot.Share.{Share as Part}
use Rattle.lard_loads.specs.Order.{first_in, is_before}
use Rattle.lard_loads.specs.Tally.{Standing, Tally, admitted, batch_ended, connected, batch_ended_with, home, home_of, least, load, load_of, numbers, released, shared, sharing, units_of, units_of_share}
use Rattle.lard_loads.proofs.Counts.{AreAmong, all_among, among-all, among-kept, load_above, loads_within, sum-empty, sum-put}
use Rattle.lard_loads.proofs.Firsts.{IsIn, in_range}
use Rattle.lard_loads.proofs.Sums.{load-empty, load-put}
use Rattle.lard_sets.specs.Sets.{set_of}
use Rattle.lard_policy.proofs.Order.{by_load, first_in-none_before}
use Rattle.lard_policy.proofs.Relief.{relieves}
use Rattle.lard_costs.specs.Costs.{cost_at, cost_locality, cost_replacement, is_less, more}
use Rattle.lard_costs.specs.declared.cost.Cost.{Cost}
use Rattle.lard_costs.specs.declared.cost.Cost.TheVariants.{Over, Units}
use Rattle.lard_dispatch.specs.declared.dispatch.Ask.{Ask}
use Rattle.lard_dispatch.specs.declared.line.Waiting.{Waiting}
use Rattle.lard_dispatch.specs.Books.{Books, Dispatcher, dispatch_begun}
use Rattle.lard_dispatch.specs.Calls.{all_shared, batch_over, choice_at, is_full, later_choice_at, next_admitted, released_from, shared_with}
use Rattle.lard_dispatch.specs.Laws.{AreAllowed, Call, IsAllowed, after_call, after_calls}
use Rattle.lard_dispatch.specs.Laws.Call.{First, Later, Ended, Leave, Close}
use Rattle.lard_dispatch.specs.Loads.{ClosesNone, IsCallInRange, NoLoadExceedsTheThresholds, NoNodeHasTooMany, connections_at, counted_calls}
use Rattle.lard_dispatch.specs.Sound.{AreApart, IsDispatcherSound}
use Rattle.lard_dispatch.proofs.AllCalls.{call-kept, config-stays, configs-stay, some-node}
use Rattle.lard_dispatch.proofs.Counted.{AreConnections, call-counted, call-line, call-may, later-has}
use Rattle.lard_dispatch.proofs.Homes.{IsFit, home_at, is-fit}
use Rattle.lard_dispatch.proofs.Shares.{AreShared, call-shared, put-shared, start-shared, within-all}
use Rattle.lard_dispatch.proofs.Sharing.{home-ended, home-shared}
use Rattle.lard_dispatch.proofs.Soundness.{HasRoom, begun-sound, is-in, released-room, room-left}

-- ---- a first choice

-- where no term is below a bound, the sum is not below as many of it
lower_sum : (f : ℕ → ℕ) (m a k : ℕ) → ((q : ℕ) → a ≤ q → q < a + k → m ≤ f q) → k * m ≤ sum_by f (range_with_len a k)
lower_sum f m a zero each = omega arith
lower_sum f m a (suc k) each =
    let rest = lower_sum f m (a + 1) k (λ q some most. each q (omega (arith, some)) (omega (arith, most))) in
    let one = each a (omega arith) (omega arith) in
    omega (arith, rest, one, suc-mul k m, sum_by-cons f a (range_with_len (a + 1) k))

not_before : (l m k p : ℕ) → nat_lt l m || (nat_eq l m && nat_lt k p) ≡ false → m ≤ l
not_before l m k p h = grind (arith, nat_tests, h)

-- the least loaded of all nodes has less than twice T_high, where there is room for one more
least-low : (cfg : Config) (t : Tally) (p : ℕ) → IsFit cfg → t.open_nodes ≡ numbers cfg.nodes → sum_by (load t) (numbers cfg.nodes) ≤ 840 * (2 * admitted t) → admitted t < room_of cfg
    → least t ≡ Some p → load t p < 2 * (cfg.high * 840)
least-low cfg t p fit all_open total room found = ⊎_elim (λ below. below) above (cases_lt (load t p) (2 * (cfg.high * 840))) where
  no_less : (q : ℕ) → 1 ≤ q → q < 1 + cfg.nodes → load t p ≤ load t q
  no_less q some most =
      let in_ : IsIn q t.open_nodes = subst (IsIn q) (sym all_open) (in_range 1 cfg.nodes q some most) in
      not_before (load t q) (load t p) q p (first_in-none_before (is_before (load t)) (by_load (load t)) t.open_nodes p q found in_)

  above : 2 * (cfg.high * 840) ≤ load t p → load t p < 2 * (cfg.high * 840)
  above ge =
      let sum : cfg.nodes * load t p ≤ sum_by (load t) (numbers cfg.nodes) = lower_sum (load t) (load t p) 1 cfg.nodes no_less in
      let many : cfg.nodes * (2 * (cfg.high * 840)) ≤ cfg.nodes * load t p = mul-le cfg.nodes (2 * (cfg.high * 840)) cfg.nodes (load t p) (omega arith) ge in
      let one : 2 * (cfg.high * 840) ≡ cfg.high * 1680 = omega arith in
      let all : cfg.nodes * (2 * (cfg.high * 840)) ≡ cfg.nodes * cfg.high * 1680 = ap (λ (x : ℕ). cfg.nodes * x) one ∙ sym (mul_assoc cfg.nodes cfg.high 1680) in
      let count : cfg.nodes ≡ suc (cfg.nodes - 1) = let some = fit.some_node in omega (arith, some) in
      let split : cfg.nodes * cfg.high ≡ (cfg.nodes - 1) * cfg.high + cfg.high = ap (λ (x : ℕ). x * cfg.high) count ∙ suc-mul (cfg.nodes - 1) cfg.high in
      let ordered = fit.ordered in
      absurd (omega (arith, sum, many, all, split, total, room, ordered))

some-least : (before : ℕ → ℕ → Bool) (ns : List ℕ) → 0 < length ns → IsSome (first_in before ns)
some-least before [] some = absurd (omega (arith, some))
some-least before (n ∷ ns) some = refl

-- so has the node of a first choice
first-low : (cfg : Config) (b : Books) (target : List ℕ) (now : Millis) → IsFit cfg → HasRoom cfg b → b.loads.open_nodes ≡ numbers cfg.nodes → AreShared b.loads.standings → AreAmong b.loads
    → load b.loads (choice_at cfg b target now).node < 2 * (cfg.high * 840)
first-low cfg b target now fit h all_open shared among =
    ⊎_elim
    (λ may. ⊎_elim (λ le. few le) (λ m. m.1) may)
    (λ found. least-low cfg b.loads (choice_at cfg b target now).node fit all_open (loads_within b.loads cfg.nodes among (within-all b.loads cfg.nodes shared)) h.room found)
    (relieves b.loads (set_of b.sets target).members now (set_of b.sets target).modified cfg (some-least (is_before (load b.loads)) b.loads.open_nodes h.some_open))
  where
    few : load b.loads (choice_at cfg b target now).node ≤ cfg.high * 840 → load b.loads (choice_at cfg b target now).node < 2 * (cfg.high * 840)
    few le = let some = fit.some_low in let ordered = fit.ordered in omega (arith, le, some, ordered)

-- ---- what a change of one connection does

-- the loads are near the thresholds, and there are few connections at each node
pub record AreWithin (most few : ℕ) (t : Tally) : Type 0 where
  pub near : (n : ℕ) → load t n ≤ 840 * (most + 1)
  pub homes : (n : ℕ) → connections_at t n ≤ few

-- it counts no more than before
less-within : (most few : ℕ) (t : Tally) (c : ℕ) (o : Option Standing) → IsConnection c → ((n : ℕ) → units_of o n ≤ units_of (fin.get t.standings c) n) → ((n : ℕ) → home_at o n ≤ home_at (fin.get t.standings c) n)
    → AreWithin most few t → AreWithin most few (record t { standings = put_or t.standings c o })
less-within most few t c o one less fewer are = record {
  near = λ n. let sum = load-put t.standings n c o one.0 one.1 in let here = less n in let was = are.near n in omega (arith, sum, here, was);
  homes = λ n. let sum = sum-put (λ x. home_at x n) t.standings c o one.0 one.1 in let here = fewer n in let was = are.homes n in omega (arith, sum, here, was);
}

-- it counts so much more at one node, which has room for it
near-more : (most : ℕ) (t : Tally) (c p u : ℕ) (o : Option Standing) → IsConnection c → ((n : ℕ) → units_of o n ≤ units_of (fin.get t.standings c) n + cond (nat_eq p n) u 0) → load t p + u ≤ 840 * (most + 1)
    → ((n : ℕ) → load t n ≤ 840 * (most + 1)) → (n : ℕ) → load_of (put_or t.standings c o) n ≤ 840 * (most + 1)
near-more most t c p u o one more room near n = go (nat_eq p n) refl where
  sum : load_of (put_or t.standings c o) n + units_of (fin.get t.standings c) n ≡ load_of t.standings n + units_of o n
  sum = load-put t.standings n c o one.0 one.1

  here : (b : Bool) → nat_eq p n ≡ b → units_of o n ≤ units_of (fin.get t.standings c) n + cond b u 0
  here b e = subst (λ a. units_of o n ≤ units_of (fin.get t.standings c) n + cond a u 0) e (more n)

  go : (b : Bool) → nat_eq p n ≡ b → load_of (put_or t.standings c o) n ≤ 840 * (most + 1)
  go true e =
      let some = here true e in
      let same : p ≡ n = grind (arith, nat_tests, e) in
      let at : load t n + u ≤ 840 * (most + 1) = subst (λ k. load t k + u ≤ 840 * (most + 1)) same room in
      omega (arith, sum, some, at)
  go false e = let none = here false e in let was = near n in omega (arith, sum, none, was)

-- a connection counts a whole at its home
home-units : (n : ℕ) (o : Option Standing) → 840 * home_at o n ≤ units_of o n
home-units n None = omega arith
home-units n (Some s) = go (nat_eq s.home n) where
  go : (b : Bool) → 840 * cond b 1 0 ≤ cond b 840 0 + sum_by (units_of_share n) s.shares
  go true = omega arith
  go false = omega arith

-- one is connected to a node below twice T_high
connected-within : (most high : ℕ) (t : Tally) (c p : ℕ) → IsConnection c → 2 * high ≤ most → load t p < 2 * (high * 840) → AreWithin most (2 * high) t → AreWithin most (2 * high) (connected t c p)
connected-within most high t c p one below low are = record {
  near = near-more most t c p 840 (Some (record { home = p; shares = [] })) one (λ n. omega arith) (omega (arith, below, low)) are.near;
  homes = λ n. go n (nat_eq p n) refl;
}
  where
    room : connections_at t p + 1 ≤ 2 * high
    room = let above = load_above t p (λ o. home_at o p) (home-units p) in omega (arith, above, low)

    sum : (n : ℕ) → connections_at (connected t c p) n + home_at (fin.get t.standings c) n ≡ connections_at t n + cond (nat_eq p n) 1 0
    sum n = sum-put (λ o. home_at o n) t.standings c (Some (record { home = p; shares = [] })) one.0 one.1

    go : (n : ℕ) (b : Bool) → nat_eq p n ≡ b → connections_at (connected t c p) n ≤ 2 * high
    go n true e =
        let more : connections_at (connected t c p) n + home_at (fin.get t.standings c) n ≡ connections_at t n + 1 = sum n ∙ ap (λ b. connections_at t n + cond b 1 0) e in
        let same : p ≡ n = grind (arith, nat_tests, e) in
        let at : connections_at t n + 1 ≤ 2 * high = subst (λ k. connections_at t k + 1 ≤ 2 * high) same room in
        omega (arith, more, at)
    go n false e =
        let more : connections_at (connected t c p) n + home_at (fin.get t.standings c) n ≡ connections_at t n + 0 = sum n ∙ ap (λ b. connections_at t n + cond b 1 0) e in
        let was = are.homes n in
        omega (arith, more, was)

released-within : (most few : ℕ) (t : Tally) (c : ℕ) → IsConnection c → AreWithin most few t → AreWithin most few (released t c)
released-within most few t c one are = less-within most few t c None one (λ n. omega arith) (λ n. omega arith) are

ended-within : (most few : ℕ) (t : Tally) (c : ℕ) → IsConnection c → AreWithin most few t → AreWithin most few (batch_ended t c)
ended-within most few t c one are = go (fin.get t.standings c) refl where
  go : (o : Option Standing) → fin.get t.standings c ≡ o → AreWithin most few (batch_ended_with t c o)
  go None e = are
  go (Some s) e = less-within most few t c (Some (record s { shares = [] })) one
      (λ n. subst (λ (o : Option Standing). units_of (Some (record s { shares = [] })) n ≤ units_of o n) (sym e) (omega arith))
      (λ n. subst (λ (o : Option Standing). home_at (Some (record s { shares = [] })) n ≤ home_at o n) (sym e) (omega arith)) are

shared-within : (most few : ℕ) (t : Tally) (c h p size : ℕ) → IsConnection c → home t c ≡ Some h → (nat_eq p h ≡ false → load t p ≤ 840 * most) → AreWithin most few t → AreWithin most few (shared t c p size)
shared-within most few t c h p size one at low are = go (fin.get t.standings c) refl at where
  go : (o : Option Standing) → fin.get t.standings c ≡ o → home_of o ≡ Some h → AreWithin most few (sharing t c p size o)
  go None e is = cc
  go (Some s) e is = cond_both (nat_eq p s.home) t _ (AreWithin most few) (λ _. are) pushed where
    at_home : s.home ≡ h
    at_home = cc

    x : Part
    x = record { node = p; units = 840 / size }

    next : Standing
    next = record s { shares = s.shares ++ x ∷ [] }

    more : (n : ℕ) → units_of (Some next) n ≤ units_of (fin.get t.standings c) n + cond (nat_eq p n) (840 / size) 0
    more n =
        let push : sum_by (units_of_share n) (s.shares ++ x ∷ []) ≡ sum_by (units_of_share n) s.shares + cond (nat_eq p n) (840 / size) 0 = sum_by_push (units_of_share n) s.shares x in
        subst (λ (o : Option Standing). units_of (Some next) n ≤ units_of o n + cond (nat_eq p n) (840 / size) 0) (sym e) (omega (arith, push))

    same_home : (n : ℕ) → home_at (fin.get t.standings c) n ≡ home_at (Some next) n
    same_home n = ap (λ o. home_at o n) e

    pushed : nat_eq p s.home ≡ false → AreWithin most few (record t { standings = fin.insert t.standings c next })
    pushed away =
        let few_there : load t p ≤ 840 * most = low (subst (λ k. nat_eq p k ≡ false) at_home away) in
        let part : 840 / size ≤ 840 = div-le_self 840 size in
        record {
          near = near-more most t c p (840 / size) (Some next) one more (omega (arith, few_there, part)) are.near;
          homes = λ n. let sum = sum-put (λ o. home_at o n) t.standings c (Some next) one.0 one.1 in let same = same_home n in let was = are.homes n in omega (arith, sum, same, was);
        }

-- ---- a later choice

-- a node that costs less than another is not above L_overload, or is below L_idle
cheap-low : (cfg : Config) (most : ℕ) (t : Tally) (set m : ℕ) (other : Cost) → cfg.over ≤ most → cfg.idle ≤ most → is_less (cost_at t cfg set m) other ≡ true → load t m ≤ 840 * most
cheap-low cfg most t set m other over idle less = go (nat_lt (load t m) (cfg.idle * 840)) refl (nat_lt (cfg.over * 840) (load t m)) refl less where
  go : (a : Bool) → nat_lt (load t m) (cfg.idle * 840) ≡ a → (b : Bool) → nat_lt (cfg.over * 840) (load t m) ≡ b
      → is_less (more (cond a (Units 0) (cond b Over (Units (load t m - cfg.idle * 840)))) (cost_locality cfg (has set m) + cost_replacement cfg (load t m) (has set m))) other ≡ true → load t m ≤ 840 * most
  go true e b f h = let below : load t m < cfg.idle * 840 = grind (arith, nat_tests, e) in omega (arith, below, idle)
  go false e true f h = cc
  go false e false f h = let within : load t m ≤ cfg.over * 840 = grind (arith, nat_tests, f) in omega (arith, within, over)

-- a share that is not at home is at such a node
later-low : (cfg : Config) (most : ℕ) (b : Books) (ask : Ask) (target : List ℕ) → cfg.over ≤ most → cfg.idle ≤ most → nat_eq (later_choice_at cfg b ask target).node ask.home ≡ false
    → load b.loads (later_choice_at cfg b ask target).node ≤ 840 * most
later-low cfg most b ask target over idle away =
    ⊎_elim (λ e. absurd (both_ways (nat_eq (later_choice_at cfg b ask target).node ask.home) away e)) (λ low. low)
    (later-has (λ n. (nat_eq n ask.home ≡ true) ⊎ (load b.loads n ≤ 840 * most)) b.loads ask.home (set_of b.sets target).members ask.queue cfg (inl (same ask.home))
    (λ m k some e less. inr (cheap-low cfg most b.loads (set_of b.sets target).members m (cost_at b.loads cfg (set_of b.sets target).members k) over idle less)))
  where
    same : (h : ℕ) → nat_eq h h ≡ true
    same h = grind (arith, nat_tests)

batch-within : (cfg : Config) (most few : ℕ) (ask : Ask) (now : Millis) (ps : List (List ℕ)) (b : Books) → cfg.over ≤ most → cfg.idle ≤ most → IsConnection ask.c → home b.loads ask.c ≡ Some ask.home → AreWithin most few b.loads
    → AreWithin most few (all_shared cfg ask now ps b).loads
batch-within cfg most few ask now [] b over idle one at are = are
batch-within cfg most few ask now (p ∷ ps) b over idle one at are =
    batch-within cfg most few ask now ps (shared_with cfg b ask p now) over idle one (home-shared b.loads ask.c (later_choice_at cfg b ask p).node ask.size ∙ at)
    (shared-within most few b.loads ask.c ask.home (later_choice_at cfg b ask p).node ask.size one at (later-low cfg most b ask p over idle) are)

-- ---- all nodes stay open

open-shared : (t : Tally) (c n size : ℕ) → (shared t c n size).open_nodes ≡ t.open_nodes
open-shared t c n size = go (fin.get t.standings c) where
  go : (o : Option Standing) → (sharing t c n size o).open_nodes ≡ t.open_nodes
  go None = refl
  go (Some s) = cond_both (nat_eq n s.home) t _ (λ (x : Tally). x.open_nodes ≡ t.open_nodes) (λ _. refl) (λ _. refl)

open-ended : (t : Tally) (c : ℕ) → (batch_ended t c).open_nodes ≡ t.open_nodes
open-ended t c = go (fin.get t.standings c) where
  go : (o : Option Standing) → (batch_ended_with t c o).open_nodes ≡ t.open_nodes
  go None = refl
  go (Some s) = refl

batch-open : (cfg : Config) (ask : Ask) (now : Millis) (ps : List (List ℕ)) (b : Books) → (all_shared cfg ask now ps b).loads.open_nodes ≡ b.loads.open_nodes
batch-open cfg ask now [] b = refl
batch-open cfg ask now (p ∷ ps) b = batch-open cfg ask now ps (shared_with cfg b ask p now) ∙ open-shared b.loads ask.c (later_choice_at cfg b ask p).node ask.size

-- ---- each call

-- the thresholds are within a bound
pub record AreBelow (cfg : Config) (most : ℕ) : Type 0 where
  pub high : 2 * cfg.high ≤ most
  pub over : cfg.over ≤ most
  pub idle : cfg.idle ≤ most

-- What holds between two calls while no node is closed.
pub record IsSteady (most : ℕ) (d : Dispatcher) : Type 0 where
  pub sound : IsDispatcherSound d
  pub below : AreBelow d.config most
  pub line : AreConnections d.books.line
  pub shared : AreShared d.books.loads.standings
  pub among : AreAmong d.books.loads
  pub all_open : d.books.loads.open_nodes ≡ numbers d.config.nodes
  pub within : AreWithin most (2 * d.config.high) d.books.loads

admitted-within : (most : ℕ) (cfg : Config) (b : Books) (c : ℕ) (target : List ℕ) (now : Millis) → AreBelow cfg most → HasRoom cfg b → IsConnection c → b.loads.open_nodes ≡ numbers cfg.nodes → AreShared b.loads.standings → AreAmong b.loads
    → AreWithin most (2 * cfg.high) b.loads → AreWithin most (2 * cfg.high) (connected b.loads c (choice_at cfg b target now).node)
admitted-within most cfg b c target now below h one all_open shared among are =
    connected-within most cfg.high b.loads c (choice_at cfg b target now).node one below.high (first-low cfg b target now (is-fit cfg h.usable) h all_open shared among) are

-- the loads after a call are within the same bounds, with the same nodes open
pub record AreStill (most few : ℕ) (t u : Tally) : Type 0 where
  pub within : AreWithin most few u
  pub nodes : u.open_nodes ≡ t.open_nodes

call-still : (most : ℕ) (d : Dispatcher) (call : Call) → IsSteady most d → IsAllowed d call → IsCallInRange call → ClosesNone call → AreStill most (2 * d.config.high) d.books.loads (after_call d call).books.loads
call-still most d (First c target now) s a r none =
    cond_both (is_full d) _ _ (λ (x : Dispatcher). AreStill most (2 * d.config.high) d.books.loads x.books.loads) (λ _. record { within = s.within; nodes = refl })
    (λ f. record {
      within = admitted-within most d.config d.books c target now s.below (room-left d s.sound (λ e. both_ways (is_full d) f (eq-eqb (admitted d.books.loads) (room_of d.config) e))) r s.all_open s.shared s.among s.within;
      nodes = refl;
    })
call-still most d (Later ask now) s a r none = record {
  within = batch-within d.config most (2 * d.config.high) ask now ask.paths (batch_over d.books ask) s.below.over s.below.idle r.0 (home-ended d.books.loads ask.c ∙ a) (ended-within most (2 * d.config.high) d.books.loads ask.c r.0 s.within);
  nodes = batch-open d.config ask now ask.paths (batch_over d.books ask) ∙ open-ended d.books.loads ask.c;
}
call-still most d (Ended c now) s a r none = go d.books.line s.line s.sound.apart s.sound.full where
  go : (ws : List Waiting) → AreConnections ws → AreApart d.books.loads.standings ws → (0 < length ws → admitted d.books.loads ≡ room_of d.config)
      → AreStill most (2 * d.config.high) d.books.loads (next_admitted d.config now (released_from d.books c) ws).loads
  go [] ones apart full = record { within = released-within most (2 * d.config.high) d.books.loads c r s.within; nodes = refl }
  go (w ∷ ws) ones apart full =
      let f : admitted d.books.loads ≡ room_of d.config = full (omega arith) in
      let h : HasRoom d.config (record (released_from d.books c) { line = ws }) = released-room d c ws s.sound (is-in d.books.loads c a) apart.2 (λ _. f) in
      record {
        within = admitted-within most d.config (record (released_from d.books c) { line = ws }) w.c w.target now s.below h ones.0 s.all_open
            (put-shared d.books.loads.standings c None s.shared tt) (among-kept d.books.loads c None r.0 r.1 s.among) (released-within most (2 * d.config.high) d.books.loads c r s.within);
        nodes = refl;
      }
call-still most d (Leave c) s a r none = record { within = s.within; nodes = refl }
call-still most d (Close n) s a r none = absurd none

call-steady : (most : ℕ) (d : Dispatcher) (call : Call) → IsSteady most d → IsAllowed d call → IsCallInRange call → ClosesNone call → IsSteady most (after_call d call)
call-steady most d call s a r none =
    let next : AreStill most (2 * d.config.high) d.books.loads (after_call d call).books.loads = call-still most d call s a r none in
    let ns : List ℕ = numbers d.config.nodes in
    record {
      sound = call-kept d call s.sound a;
      below = subst (λ (cfg : Config). AreBelow cfg most) (sym (config-stays d call)) s.below;
      line = call-line d call r s.line;
      shared = call-shared d call r s.shared;
      among = subst AreAmong (call-counted ns d call) (among-all (record d.books.loads { open_nodes = ns }) (counted_calls d call) (call-may ns d call s.sound a r s.line) s.among);
      all_open = next.nodes ∙ s.all_open ∙ ap (λ (cfg : Config). numbers cfg.nodes) (sym (config-stays d call));
      within = subst (λ (cfg : Config). AreWithin most (2 * cfg.high) (after_call d call).books.loads) (sym (config-stays d call)) next.within;
    }

calls-steady : (most : ℕ) (d : Dispatcher) (calls : List Call) → IsSteady most d → AreAllowed d calls → AllByRecursion IsCallInRange calls → AllByRecursion ClosesNone calls → IsSteady most (after_calls d calls)
calls-steady most d [] s a r none = s
calls-steady most d (call ∷ calls) s a r none = calls-steady most (after_call d call) calls (call-steady most d call s a.0 r.0 none.0) a.1 r.1 none.1

start-steady : (most : ℕ) (cfg : Config) → config_check cfg ≡ Ok tt → AreBelow cfg most → IsSteady most (dispatch_begun cfg)
start-steady most cfg usable below = record {
  sound = begun-sound cfg usable (some-node cfg usable);
  below = below;
  line = tt;
  shared = start-shared cfg;
  among = all_among cfg.nodes [] tt;
  all_open = refl;
  within = record {
    near = λ n. let none = load-empty n in omega (arith, none);
    homes = λ n. let none = sum-empty (λ o. home_at o n) refl in omega (arith, none);
  };
}

pub near-the-thresholds : NoLoadExceedsTheThresholds
near-the-thresholds cfg calls may none most high over idle n =
    (calls-steady most (dispatch_begun cfg) calls (start-steady most cfg may.usable (record { high = high; over = over; idle = idle })) may.allowed may.in_range none).within.near n

pub few-at-homes : NoNodeHasTooMany
few-at-homes cfg calls may none n =
    let most : ℕ = 2 * cfg.high + cfg.over + cfg.idle in
    let all = calls-steady most (dispatch_begun cfg) calls (start-steady most cfg may.usable (record { high = omega arith; over = omega arith; idle = omega arith })) may.allowed may.in_range none in
    subst (λ (c : Config). connections_at (after_calls (dispatch_begun cfg) calls).books.loads n ≤ 2 * c.high) (configs-stay (dispatch_begun cfg) calls) (all.within.homes n)
