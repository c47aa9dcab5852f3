-- The open shares of a connection are at other nodes than its home, and count a whole at most together.
use Rattle.std.proofs.Common.{◌≡◌, ◌≢◌, ℕ, suc, ◌+◌, ◌*◌, ◌/◌, ◌≤◌, false, nat_eq, cond, List, [], ◌∷◌, ◌++◌, length, sum_by, Option, Some, None, IfSome, refl, sym, ap, subst, ⊎_elim, arith}
use Rattle.std.proofs.Math.Nat.{mul-div-le, suc-mul}
use Rattle.std.proofs.lemmas.Bool.{cases_eq, cond_both}
use Rattle.std.proofs.lemmas.List.Sums.{sum_by_push}
use Rattle.std.proofs.lemmas.Nat.{mul-le}
use Rattle.std.specs.FinMap as fin
use Rattle.std.specs.FinMap.{FinMap, get-empty}
use Rattle.std.specs.List.{AllByRecursion}
use Rattle.std.specs.Ordering.{eq_by_cmp, nat_cmp}
use Rattle.lard_base.specs.Config.{room_of}
use Rattle.lard_base.specs.declared.config.Config.{Config}
use Rattle.lard_base.specs.declared.ids.Millis.{Millis}
use Rattle.lard_table.specs.Table.{put_or}
use Rattle.lard_table.proofs.Map.{get_inserted, get_other, get_put}
use Rattle.lard_loads.specs.declared.slot.Share.{Share as Part}
use Rattle.lard_loads.specs.Tally.{Standing, Tally, admitted, batch_ended, batch_ended_with, is_open, load, numbers, released, shared, sharing, units_of, units_of_share}
use Rattle.lard_loads.proofs.Counts.{all_nodes_within, load_within, loads_within, one_node_within}
use Rattle.lard_loads.proofs.Standings.{one_if}
use Rattle.lard_dispatch.specs.declared.dispatch.Ask.{Ask}
use Rattle.lard_dispatch.specs.declared.line.Waiting.{Waiting}
use Rattle.lard_dispatch.specs.Books.{Books, Dispatcher, dispatch_begun}
use Rattle.lard_dispatch.specs.Calls.{all_shared, batch_over, is_full, later_choice_at, next_admitted, released_from, shared_with}
use Rattle.lard_dispatch.specs.Laws.{Call, after_call, after_calls}
use Rattle.lard_dispatch.specs.Laws.Call.{First, Later, Ended, Leave, Close}
use Rattle.lard_dispatch.specs.Loads.{IsCallInRange, MayBeMade, NoLoadExceedsTheRoom, SharesAreWithinWholes, loads_after, open_charges, share_units}
use Rattle.lard_dispatch.proofs.AllCalls.{within-room}
use Rattle.lard_dispatch.proofs.Counted.{counted-among, loads-add-up}

abbrev Standings : Type 0
Standings = FinMap nat_cmp Standing

-- no share is at home, and together they count so much at most
pub record IsShared (most : ℕ) (s : Standing) : Type 0 where
  pub away : sum_by (units_of_share s.home) s.shares ≡ 0
  pub within : sum_by (λ x. x.units) s.shares ≤ most

abbrev pub AreShared : Standings → Type 0
AreShared m = (q : ℕ) → IfSome (fin.get m q) (IsShared 840)

-- the same, where one connection's shares have another bound
pub record AreSharedBut (m : Standings) (c most : ℕ) : Type 0 where
  pub others : (q : ℕ) → q ≢ c → IfSome (fin.get m q) (IsShared 840)
  pub own : IfSome (fin.get m c) (IsShared most)

none-shared : (most h : ℕ) → IsShared most (record { home = h; shares = [] })
none-shared most h = record { away = refl; within = omega arith }

more-shared : (most more : ℕ) (o : Option Standing) → most ≤ more → IfSome o (IsShared most) → IfSome o (IsShared more)
more-shared most more None le is = tt
more-shared most more (Some s) le is = record { away = is.away; within = let few = is.within in omega (arith, few, le) }

all-but : (m : Standings) (c most : ℕ) → most ≤ 840 → AreSharedBut m c most → AreShared m
all-but m c most le are = λ q. ⊎_elim
    (λ e. subst (λ k. IfSome (fin.get m k) (IsShared 840)) (sym e) (more-shared most 840 (fin.get m c) le are.own))
    (λ f. are.others q f)
    (cases_eq q c)

pub put-shared : (m : Standings) (c : ℕ) (o : Option Standing) → AreShared m → IfSome o (IsShared 840) → AreShared (put_or m c o)
put-shared m c o all own = λ q.
    subst (λ (x : Option Standing). IfSome x (IsShared 840)) (sym (get_put m c q o))
    (cond_both (eq_by_cmp nat_cmp q c) o (fin.get m q) (λ (x : Option Standing). IfSome x (IsShared 840)) (λ _. own) (λ _. all q))

-- ---- a batch

-- a batch that is over has no shares
ended-shared : (t : Tally) (c : ℕ) → AreShared t.standings → AreSharedBut (batch_ended t c).standings c 0
ended-shared t c all = go (fin.get t.standings c) refl where
  go : (o : Option Standing) → fin.get t.standings c ≡ o → AreSharedBut (batch_ended_with t c o).standings c 0
  go None e = record { others = λ q f. all q; own = subst (λ (o : Option Standing). IfSome o (IsShared 0)) (sym e) tt }
  go (Some s) e = record {
    others = λ q f. subst (λ (o : Option Standing). IfSome o (IsShared 840)) (sym (get_other t.standings c q (record s { shares = [] }) f)) (all q);
    own = subst (λ (o : Option Standing). IfSome o (IsShared 0)) (sym (get_inserted t.standings c (record s { shares = [] }))) (none-shared 0 s.home);
  }

-- one more share, away from home
pushed-shared : (s : Standing) (n u most : ℕ) → nat_eq n s.home ≡ false → IsShared most s → IsShared (most + u) (record s { shares = s.shares ++ record { node = n; units = u } ∷ [] })
pushed-shared s n u most away is =
    let x : Part = record { node = n; units = u } in
    let none : units_of_share s.home x ≡ 0 = ap (λ b. cond b u 0) away in
    let before = is.away in
    let few = is.within in
    let home = sum_by_push (units_of_share s.home) s.shares x in
    let all = sum_by_push (λ (y : Part). y.units) s.shares x in
    record { away = omega (arith, none, before, home); within = omega (arith, few, all) }

one-shared : (t : Tally) (c n size most : ℕ) → AreSharedBut t.standings c most → AreSharedBut (shared t c n size).standings c (most + 840 / size)
one-shared t c n size most are = go (fin.get t.standings c) refl where
  as_before : AreSharedBut t.standings c (most + 840 / size)
  as_before = record { others = are.others; own = more-shared most (most + 840 / size) (fin.get t.standings c) (omega arith) are.own }

  go : (o : Option Standing) → fin.get t.standings c ≡ o → AreSharedBut (sharing t c n size o).standings c (most + 840 / size)
  go None e = as_before
  go (Some s) e = cond_both (nat_eq n s.home) t _ (λ (x : Tally). AreSharedBut x.standings c (most + 840 / size)) (λ _. as_before)
      (λ away. record {
        others = λ q f. subst (λ (o : Option Standing). IfSome o (IsShared 840)) (sym (get_other t.standings c q (record s { shares = s.shares ++ record { node = n; units = 840 / size } ∷ [] }) f)) (are.others q f);
        own = subst (λ (o : Option Standing). IfSome o (IsShared (most + 840 / size))) (sym (get_inserted t.standings c (record s { shares = s.shares ++ record { node = n; units = 840 / size } ∷ [] })))
            (pushed-shared s n (840 / size) most away (subst (λ (o : Option Standing). IfSome o (IsShared most)) e are.own));
      })

batch-shared : (cfg : Config) (ask : Ask) (now : Millis) (ps : List (List ℕ)) (b : Books) (most : ℕ) → AreSharedBut b.loads.standings ask.c most
    → AreSharedBut (all_shared cfg ask now ps b).loads.standings ask.c (most + length ps * (840 / ask.size))
batch-shared cfg ask now [] b most are =
    let e : most ≡ most + 0 * (840 / ask.size) = omega arith in
    subst (AreSharedBut b.loads.standings ask.c) e are
batch-shared cfg ask now (p ∷ ps) b most are =
    let next : Books = shared_with cfg b ask p now in
    let rest = batch-shared cfg ask now ps next (most + 840 / ask.size) (one-shared b.loads ask.c (later_choice_at cfg b ask p).node ask.size most are) in
    let times : suc (length ps) * (840 / ask.size) ≡ length ps * (840 / ask.size) + 840 / ask.size = suc-mul (length ps) (840 / ask.size) in
    let e : most + 840 / ask.size + length ps * (840 / ask.size) ≡ most + suc (length ps) * (840 / ask.size) = omega (arith, times) in
    subst (AreSharedBut (all_shared cfg ask now ps next).loads.standings ask.c) e rest

-- so many shares of a batch of at least as many requests count a whole at most
shares-of : (k size : ℕ) → k ≤ size → k * (840 / size) ≤ 840
shares-of k size le =
    let some : k * (840 / size) ≤ size * (840 / size) = mul-le k (840 / size) size (840 / size) le (omega arith) in
    let all : size * (840 / size) ≤ 840 = mul-div-le 840 size in
    omega (arith, some, all)

-- ---- each call

pub call-shared : (d : Dispatcher) (call : Call) → IsCallInRange call → AreShared d.books.loads.standings → AreShared (after_call d call).books.loads.standings
call-shared d (First c target now) r all = cond_both (is_full d) _ _ (λ (x : Dispatcher). AreShared x.books.loads.standings) (λ _. all) (λ _. put-shared d.books.loads.standings c (Some (record { home = _; shares = [] })) all (none-shared 840 _))
call-shared d (Later ask now) r all =
    all-but (all_shared d.config ask now ask.paths (batch_over d.books ask)).loads.standings ask.c (0 + length ask.paths * (840 / ask.size)) (let few = shares-of (length ask.paths) ask.size r.1 in omega (arith, few))
    (batch-shared d.config ask now ask.paths (batch_over d.books ask) 0 (ended-shared d.books.loads ask.c all))
call-shared d (Ended c now) r all = go d.books.line where
  left : AreShared (released d.books.loads c).standings
  left = put-shared d.books.loads.standings c None all tt

  go : (ws : List Waiting) → AreShared (next_admitted d.config now (released_from d.books c) ws).loads.standings
  go [] = left
  go (w ∷ ws) = put-shared (released d.books.loads c).standings w.c (Some (record { home = _; shares = [] })) left (none-shared 840 _)
call-shared d (Leave c) r all = all
call-shared d (Close n) r all = cond_both (is_open d.books.loads n) _ d (λ (x : Dispatcher). AreShared x.books.loads.standings) (λ _. all) (λ _. all)

calls-shared : (d : Dispatcher) (calls : List Call) → AllByRecursion IsCallInRange calls → AreShared d.books.loads.standings → AreShared (after_calls d calls).books.loads.standings
calls-shared d [] r all = all
calls-shared d (call ∷ calls) r all = calls-shared (after_call d call) calls r.1 (call-shared d call r.0 all)

pub start-shared : (cfg : Config) → AreShared (dispatch_begun cfg).books.loads.standings
start-shared cfg = λ q. subst (λ (o : Option Standing). IfSome o (IsShared 840)) (sym (get-empty nat_cmp q)) tt

-- ---- what all count

taken : (o : Option Standing) (s : Standing) → IfSome o (IsShared 840) → o ≡ Some s → IsShared 840 s
taken o s is e = subst (λ (x : Option Standing). IfSome x (IsShared 840)) e is

-- one node has a whole at most of each, and all nodes two
pub within-one : (t : Tally) → AreShared t.standings → (n c : ℕ) → units_of (fin.get t.standings c) n ≤ 840 * one_if (fin.get t.standings c)
within-one t all n c = one_node_within (fin.get t.standings c) n (λ s e. let is : IsShared 840 s = taken (fin.get t.standings c) s (all c) e in (is.away, is.within))

pub within-all : (t : Tally) (nodes : ℕ) → AreShared t.standings → (c : ℕ) → sum_by (units_of (fin.get t.standings c)) (numbers nodes) ≤ 840 * (2 * one_if (fin.get t.standings c))
within-all t nodes all c = all_nodes_within (fin.get t.standings c) nodes (λ s e. (taken (fin.get t.standings c) s (all c) e).within)

pub shared-after : (cfg : Config) (calls : List Call) → MayBeMade cfg calls → AreShared (loads_after cfg calls).standings
shared-after cfg calls may = calls-shared (dispatch_begun cfg) calls may.in_range (start-shared cfg)

pub within-the-room : NoLoadExceedsTheRoom
within-the-room cfg calls may n =
    let t : Tally = loads_after cfg calls in
    let most : load t n ≤ 840 * admitted t = load_within t n (counted-among cfg calls may) (within-one t (shared-after cfg calls may) n) in
    let few : admitted t ≤ room_of cfg = within-room cfg calls may.usable may.allowed in
    (most, omega (arith, most, few))

pub within-wholes : SharesAreWithinWholes
within-wholes cfg calls may =
    let t : Tally = loads_after cfg calls in
    let most : sum_by (load t) (numbers cfg.nodes) ≤ 840 * (2 * admitted t) = loads_within t cfg.nodes (counted-among cfg calls may) (within-all t cfg.nodes (shared-after cfg calls may)) in
    let sum : sum_by (load t) (numbers cfg.nodes) ≡ 840 * admitted t + sum_by share_units (open_charges cfg calls) = loads-add-up cfg calls may in
    omega (arith, most, sum)
