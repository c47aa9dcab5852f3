-- The loads are those of the calls of the loads that the dispatcher makes.
use Rattle.std.proofs.Common.{◌≡◌, ℕ, zero, suc, ◌+◌, ◌*◌, ◌<◌, ◌≤◌, Bool, true, false, not, nat_eq, cond, List, [], ◌∷◌, ◌++◌, length, filter, sum_by, Option, Some, None, is_some, refl, sym, ap, subst, ◌∙◌, arith}
use Rattle.std.proofs.lemmas.Bool.{cond_both}
use Rattle.std.specs.FinMap as fin
use Rattle.std.specs.List.{AllByRecursion, range_with_len}
use Rattle.lard_base.specs.declared.config.Config.{Config}
use Rattle.lard_base.specs.declared.ids.Millis.{Millis}
use Rattle.lard_base.specs.Members.{has, node_numbers}
use Rattle.lard_loads.specs.Charges.{BatchOver, Connect, IsConnection, MayCallAll, Release, Share, tally_after, tally_after_all}
use Rattle.lard_loads.specs.Charges.{LoadCall as Counted}
use Rattle.lard_loads.specs.Tally.{Standing, Tally, admitted, batch_ended_with, home, is_open, load, numbers, released, sharing, tally_start}
use Rattle.lard_loads.proofs.Charged.{IsCharged, all_add_up, all_charged}
use Rattle.lard_loads.proofs.Counts.{AreAmong, all_among}
use Rattle.lard_sets.specs.Sets.{set_of}
use Rattle.lard_costs.specs.declared.cost.Cost.{Cost}
use Rattle.lard_costs.specs.declared.later.LaterChoice.{LaterChoice}
use Rattle.lard_costs.specs.Later.{cheaper, cheapest, later_choice, members_of, stays}
use Rattle.lard_costs.specs.Costs.{cost_at, is_less}
use Rattle.lard_dispatch.specs.declared.dispatch.Ask.{Ask}
use Rattle.lard_dispatch.specs.declared.dispatch.First.TheVariants.{Go, Waits}
use Rattle.lard_dispatch.specs.declared.line.Waiting.{Waiting}
use Rattle.lard_dispatch.specs.Books.{Books, Dispatcher, dispatch_begun}
use Rattle.lard_dispatch.specs.Calls.{admitted_with, all_choices, all_shared, batch_over, choice_at, is_full, later_choice_at, next_admitted, next_admission, released_from, shared_with}
use Rattle.lard_dispatch.specs.Laws.{AreAllowed, Call, IsAllowed, after_call, after_calls}
use Rattle.lard_dispatch.specs.Laws.Call.{First, Later, Ended, Leave, Close}
use Rattle.lard_dispatch.specs.Line.{is_of, line_without}
use Rattle.lard_dispatch.specs.Loads.{IsCallInRange, LoadsAddUp, LoadsAreCharges, MayBeMade, all_counted, counted_calls, first_counted, later_counted, loads_after, next_counted, open_charges, share_units}
use Rattle.lard_dispatch.specs.Sound.{AreApart, IsNode, IsDispatcherSound}
use Rattle.lard_dispatch.proofs.AllCalls.{call-kept, calls-kept, some-node}
use Rattle.lard_dispatch.proofs.Chosen.{choice-within}
use Rattle.lard_dispatch.proofs.Sharing.{home-ended, home-shared}
use Rattle.lard_dispatch.proofs.Soundness.{begun-sound, ended-batch-kept, free-first, home-node, is-in, not-in, of, shares-kept}

-- ---- the loads, whichever nodes are open

abbrev pub reopened : List ℕ → Tally → Tally
reopened ns t = record t { open_nodes = ns }

-- no call asks which nodes are open
pub after-reopened : (ns : List ℕ) (t : Tally) (call : Counted) → tally_after (reopened ns t) call ≡ reopened ns (tally_after t call)
after-reopened ns t (Connect c n) = refl
after-reopened ns t (Release c) = refl
after-reopened ns t (Share c n size) = go (fin.get t.standings c) where
  pick : (b : Bool) (u : Tally) → cond b (reopened ns t) (reopened ns u) ≡ reopened ns (cond b t u)
  pick true u = refl
  pick false u = refl

  go : (o : Option Standing) → sharing (reopened ns t) c n size o ≡ reopened ns (sharing t c n size o)
  go None = refl
  go (Some s) = pick (nat_eq n s.home) _
after-reopened ns t (BatchOver c) = go (fin.get t.standings c) where
  go : (o : Option Standing) → batch_ended_with (reopened ns t) c o ≡ reopened ns (batch_ended_with t c o)
  go None = refl
  go (Some s) = refl

after-append : (t : Tally) (xs ys : List Counted) → tally_after_all t (xs ++ ys) ≡ tally_after_all (tally_after_all t xs) ys
after-append t [] ys = refl
after-append t (x ∷ xs) ys = after-append (tally_after t x) xs ys

-- ---- the same loads

batch-counted : (ns : List ℕ) (cfg : Config) (ask : Ask) (now : Millis) (ps : List (List ℕ)) (b : Books)
    → tally_after_all (reopened ns b.loads) (later_counted ask (all_choices cfg ask now ps b)) ≡ reopened ns (all_shared cfg ask now ps b).loads
batch-counted ns cfg ask now [] b = refl
batch-counted ns cfg ask now (p ∷ ps) b =
    let next : Books = shared_with cfg b ask p now in
    ap (λ (t : Tally). tally_after_all t (later_counted ask (all_choices cfg ask now ps next))) (after-reopened ns b.loads (Share ask.c (later_choice_at cfg b ask p).node ask.size))
    ∙ batch-counted ns cfg ask now ps next

pub call-counted : (ns : List ℕ) (d : Dispatcher) (call : Call) → tally_after_all (reopened ns d.books.loads) (counted_calls d call) ≡ reopened ns (after_call d call).books.loads
call-counted ns d (First c target now) = go (is_full d) where
  go : (b : Bool) → tally_after_all (reopened ns d.books.loads) (first_counted c (cond b Waits (Go (choice_at d.config d.books target now))))
      ≡ reopened ns (cond b (record d { books = record d.books { line = d.books.line ++ record { c = c; target = target } ∷ [] } }) (record d { books = admitted_with d.config d.books c target now })).books.loads
  go true = refl
  go false = refl
call-counted ns d (Later ask now) =
    ap (λ (t : Tally). tally_after_all t (later_counted ask (all_choices d.config ask now ask.paths (batch_over d.books ask)))) (after-reopened ns d.books.loads (BatchOver ask.c))
    ∙ batch-counted ns d.config ask now ask.paths (batch_over d.books ask)
call-counted ns d (Ended c now) = go d.books.line where
  go : (ws : List Waiting) → tally_after_all (reopened ns (released d.books.loads c)) (next_counted (next_admission d.config now (released_from d.books c) ws)) ≡ reopened ns (next_admitted d.config now (released_from d.books c) ws).loads
  go [] = refl
  go (w ∷ ws) = refl
call-counted ns d (Leave c) = refl
call-counted ns d (Close n) = cond_both (is_open d.books.loads n) _ d (λ (x : Dispatcher). reopened ns d.books.loads ≡ reopened ns x.books.loads) (λ _. refl) (λ _. refl)

calls-counted : (ns : List ℕ) (d : Dispatcher) (calls : List Call) → tally_after_all (reopened ns d.books.loads) (all_counted d calls) ≡ reopened ns (after_calls d calls).books.loads
calls-counted ns d [] = refl
calls-counted ns d (call ∷ calls) =
    after-append (reopened ns d.books.loads) (counted_calls d call) (all_counted (after_call d call) calls)
    ∙ ap (λ (t : Tally). tally_after_all t (all_counted (after_call d call) calls)) (call-counted ns d call)
    ∙ calls-counted ns (after_call d call) calls

-- ---- the conditions of these calls

-- the first choice is a node that there is
pub first-node : (cfg : Config) (b : Books) (target : List ℕ) (now : Millis) → b.loads.nodes ≡ cfg.nodes → AllByRecursion (IsNode cfg.nodes) b.loads.open_nodes → 0 < length b.loads.open_nodes
    → IsNode b.loads.nodes (choice_at cfg b target now).node
first-node cfg b target now nodes all some =
    subst (λ (k : ℕ). IsNode k (choice_at cfg b target now).node) (sym nodes)
    (choice-within b.loads (set_of b.sets target).members now (set_of b.sets target).modified cfg cfg.nodes nodes all some).node

-- what holds of a node, and of each that costs less than another, holds of the cheapest
pub cheapest-has : (P : ℕ → Type 0) (cost : ℕ → Cost) (n : ℕ) (ms : List ℕ) → P n → AllByRecursion (λ m. (k : ℕ) → is_less (cost m) (cost k) ≡ true → P m) ms → P (cheapest cost n ms)
cheapest-has P cost n [] own all = own
cheapest-has P cost n (m ∷ ms) own all =
    cheapest-has P cost (cheaper cost n m) ms (cond_both (is_less (cost m) (cost n)) m n P (λ e. all.0 n e) (λ _. own)) all.1

-- the members of a set are numbered from 1
all-members : (P : ℕ → Type 0) (set : ℕ) → ((m : ℕ) → 1 ≤ m → has set m ≡ true → P m) → AllByRecursion P (members_of set)
unfolding members_of node_numbers
all-members P set each = go 1 64 (omega arith) where
  go : (a k : ℕ) → 1 ≤ a → AllByRecursion P (filter (has set) (range_with_len a k))
  go a zero some = tt
  go a (suc k) some =
      let rest = go (a + 1) k (omega (arith, some)) in
      cond_both (has set a) (a ∷ filter (has set) (range_with_len (a + 1) k)) (filter (has set) (range_with_len (a + 1) k)) (AllByRecursion P) (λ e. (each a some e, rest)) (λ _. rest)

-- the later choice has what its connection's node has, and each member that costs less than another
pub later-has : (P : ℕ → Type 0) (t : Tally) (h set queue : ℕ) (cfg : Config) → P h → ((m k : ℕ) → 1 ≤ m → has set m ≡ true → is_less (cost_at t cfg set m) (cost_at t cfg set k) ≡ true → P m)
    → P (later_choice t h set queue cfg).node
unfolding later_choice
later-has P t h set queue cfg own each =
    cond_both (stays h set queue) h (cheapest (cost_at t cfg set) h (members_of set)) P (λ _. own)
    (λ _. cheapest-has P (cost_at t cfg set) h (members_of set) own (all-members (λ m. (k : ℕ) → is_less (cost_at t cfg set m) (cost_at t cfg set k) ≡ true → P m) set (λ m some e k. each m k some e)))

-- so it is a node that there is
later-node : (cfg : Config) (b : Books) (ask : Ask) (target : List ℕ) → IsDispatcherSound (of cfg b) → IsNode cfg.nodes ask.home → IsNode b.loads.nodes (later_choice_at cfg b ask target).node
later-node cfg b ask target s node =
    subst (λ (k : ℕ). IsNode k (later_choice_at cfg b ask target).node) (sym s.nodes)
    (later-has (IsNode cfg.nodes) b.loads ask.home (set_of b.sets target).members ask.queue cfg node (λ m k some e less. (some, s.served target m e)))

has-home : (t : Tally) (c h : ℕ) → home t c ≡ Some h → is_some (fin.get t.standings c) ≡ true
has-home t c h at = is-in t c (ap is_some at)

batch-may : (ns : List ℕ) (cfg : Config) (ask : Ask) (now : Millis) (ps : List (List ℕ)) (b : Books) → IsConnection ask.c → IsNode cfg.nodes ask.home → home b.loads ask.c ≡ Some ask.home → IsDispatcherSound (of cfg b)
    → MayCallAll (reopened ns b.loads) (later_counted ask (all_choices cfg ask now ps b))
batch-may ns cfg ask now [] b one node at s = tt
batch-may ns cfg ask now (p ∷ ps) b one node at s =
    let choice : LaterChoice = later_choice_at cfg b ask p in
    let within : IsNode b.loads.nodes choice.node = later-node cfg b ask p s node in
    let next : Books = shared_with cfg b ask p now in
    let rest : MayCallAll (reopened ns next.loads) (later_counted ask (all_choices cfg ask now ps next)) =
    batch-may ns cfg ask now ps next one node (home-shared b.loads ask.c choice.node ask.size ∙ at) (shares-kept cfg ask now (p ∷ []) b node s) in (
      (one, has-home b.loads ask.c ask.home at, within.0, within.1),
      subst (λ (t : Tally). MayCallAll t (later_counted ask (all_choices cfg ask now ps next))) (sym (after-reopened ns b.loads (Share ask.c choice.node ask.size))) rest,
    )

-- who waits has the number of a connection
abbrev pub AreConnections : List Waiting → Type 0
AreConnections ws = AllByRecursion (λ w. IsConnection w.c) ws

pub call-may : (ns : List ℕ) (d : Dispatcher) (call : Call) → IsDispatcherSound d → IsAllowed d call → IsCallInRange call → AreConnections d.books.line → MayCallAll (reopened ns d.books.loads) (counted_calls d call)
call-may ns d (First c target now) s a r line = go (is_full d) where
  go : (b : Bool) → MayCallAll (reopened ns d.books.loads) (first_counted c (cond b Waits (Go (choice_at d.config d.books target now))))
  go true = tt
  go false =
      let node : IsNode d.books.loads.nodes (choice_at d.config d.books target now).node = first-node d.config d.books target now s.nodes s.open_nodes s.some_open in
      ((r, not-in d.books.loads c a.0, node.0, node.1), tt)
call-may ns d (Later ask now) s a r line = (
  (r.0, has-home d.books.loads ask.c ask.home a),
  subst (λ (t : Tally). MayCallAll t (later_counted ask (all_choices d.config ask now ask.paths (batch_over d.books ask)))) (sym (after-reopened ns d.books.loads (BatchOver ask.c)))
      (batch-may ns d.config ask now ask.paths (batch_over d.books ask) r.0 (home-node d.config.nodes d.books.loads.standings ask.c ask.home s.at_nodes a) (home-ended d.books.loads ask.c ∙ a) (ended-batch-kept d ask.c s)),
)
call-may ns d (Ended c now) s a r line = ((r, is-in d.books.loads c a), go d.books.line line s.apart) where
  go : (ws : List Waiting) → AreConnections ws → AreApart d.books.loads.standings ws → MayCallAll (reopened ns (released d.books.loads c)) (next_counted (next_admission d.config now (released_from d.books c) ws))
  go [] ones apart = tt
  go (w ∷ ws) ones apart =
      let node : IsNode d.books.loads.nodes (choice_at d.config (released_from d.books c) w.target now).node = first-node d.config (released_from d.books c) w.target now s.nodes s.open_nodes s.some_open in
      ((ones.0, free-first d.books.loads.standings c w ws (is-in d.books.loads c a) apart, node.0, node.1), tt)
call-may ns d (Leave c) s a r line = tt
call-may ns d (Close n) s a r line = tt

-- ---- who waits, after a call

all-pushed : (ws : List Waiting) (w : Waiting) → AreConnections ws → IsConnection w.c → AreConnections (ws ++ w ∷ [])
all-pushed [] w all one = (one, tt)
all-pushed (v ∷ ws) w all one = (all.0, all-pushed ws w all.1 one)

all-left : (ws : List Waiting) (c : ℕ) → AreConnections ws → AreConnections (line_without ws c)
all-left [] c all = tt
all-left (w ∷ ws) c all = cond_both (not (is_of c w)) (w ∷ line_without ws c) (line_without ws c) AreConnections (λ _. (all.0, all-left ws c all.1)) (λ _. all-left ws c all.1)

-- a batch changes nothing of the line
shared-line : (cfg : Config) (ask : Ask) (now : Millis) (ps : List (List ℕ)) (b : Books) → (all_shared cfg ask now ps b).line ≡ b.line
shared-line cfg ask now [] b = refl
shared-line cfg ask now (p ∷ ps) b = shared-line cfg ask now ps (shared_with cfg b ask p now)

pub call-line : (d : Dispatcher) (call : Call) → IsCallInRange call → AreConnections d.books.line → AreConnections (after_call d call).books.line
call-line d (First c target now) r line = cond_both (is_full d) _ _ (λ (x : Dispatcher). AreConnections x.books.line) (λ _. all-pushed d.books.line (record { c = c; target = target }) line r) (λ _. line)
call-line d (Later ask now) r line = subst AreConnections (sym (shared-line d.config ask now ask.paths (batch_over d.books ask))) line
call-line d (Ended c now) r line = go d.books.line refl line where
  go : (ws : List Waiting) → d.books.line ≡ ws → AreConnections ws → AreConnections (next_admitted d.config now (released_from d.books c) ws).line
  go [] e all = subst AreConnections (sym e) all
  go (w ∷ ws) e all = all.1
call-line d (Leave c) r line = all-left d.books.line c line
call-line d (Close n) r line = cond_both (is_open d.books.loads n) _ d (λ (x : Dispatcher). AreConnections x.books.line) (λ _. line) (λ _. line)

-- ---- any number of calls

may-append : (t : Tally) (xs ys : List Counted) → MayCallAll t xs → MayCallAll (tally_after_all t xs) ys → MayCallAll t (xs ++ ys)
may-append t [] ys a b = b
may-append t (x ∷ xs) ys a b = (a.0, may-append (tally_after t x) xs ys a.1 b)

calls-may : (ns : List ℕ) (d : Dispatcher) (calls : List Call) → IsDispatcherSound d → AreAllowed d calls → AllByRecursion IsCallInRange calls → AreConnections d.books.line → MayCallAll (reopened ns d.books.loads) (all_counted d calls)
calls-may ns d [] s a r line = tt
calls-may ns d (call ∷ calls) s a r line =
    may-append (reopened ns d.books.loads) (counted_calls d call) (all_counted (after_call d call) calls) (call-may ns d call s a.0 r.0 line)
    (subst (λ (t : Tally). MayCallAll t (all_counted (after_call d call) calls)) (sym (call-counted ns d call))
    (calls-may ns (after_call d call) calls (call-kept d call s a.0) a.1 r.1 (call-line d call r.0 line)))

-- ---- from the start

module _ (cfg : Config) (calls : List Call) (may : MayBeMade cfg calls) where
  pub start-sound : IsDispatcherSound (dispatch_begun cfg)
  start-sound = begun-sound cfg may.usable (some-node cfg may.usable)

  pub sound-after : IsDispatcherSound (after_calls (dispatch_begun cfg) calls)
  sound-after = calls-kept (dispatch_begun cfg) calls start-sound may.allowed

  pub counted-may : MayCallAll (tally_start cfg.nodes) (all_counted (dispatch_begun cfg) calls)
  counted-may = calls-may (numbers cfg.nodes) (dispatch_begun cfg) calls start-sound may.allowed may.in_range tt

  pub counted-same : tally_after_all (tally_start cfg.nodes) (all_counted (dispatch_begun cfg) calls) ≡ reopened (numbers cfg.nodes) (loads_after cfg calls)
  counted-same = calls-counted (numbers cfg.nodes) (dispatch_begun cfg) calls

  pub counted-charged : IsCharged (tally_after_all (tally_start cfg.nodes) (all_counted (dispatch_begun cfg) calls)) (open_charges cfg calls)
  counted-charged = all_charged cfg.nodes (all_counted (dispatch_begun cfg) calls) counted-may

  pub counted-among : AreAmong (loads_after cfg calls)
  counted-among = subst AreAmong counted-same (all_among cfg.nodes (all_counted (dispatch_begun cfg) calls) counted-may)

pub loads-are-charges : LoadsAreCharges
loads-are-charges cfg calls may = (
  λ n. ap (λ (t : Tally). load t n) (sym (counted-same cfg calls may)) ∙ (counted-charged cfg calls may).loads n,
  ap admitted (sym (counted-same cfg calls may)) ∙ (counted-charged cfg calls may).count,
)

pub loads-add-up : LoadsAddUp
loads-add-up cfg calls may =
    subst (λ (t : Tally). sum_by (load t) (numbers cfg.nodes) ≡ 840 * admitted t + sum_by share_units (open_charges cfg calls)) (counted-same cfg calls may)
    (all_add_up cfg.nodes (all_counted (dispatch_begun cfg) calls) (counted-may cfg calls may))
