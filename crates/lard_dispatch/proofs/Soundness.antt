-- What holds between two calls is kept by each call.
use Rattle.std.proofs.Common.{slice_get, ◌≡◌, ◌≢◌, ℕ, zero, suc, ◌+◌, ◌-◌, ◌<◌, ◌≤◌, Bool, true, false, not, ◌||◌, nat_eq, cond, List, [], ◌∷◌, ◌++◌, length, filter, Option, Some, None, IfSome, is_some, Ok, refl, sym, ap, subst, ◌∙◌, arith}
use Rattle.std.proofs.lemmas.Bool.{cond_both, both_ways, eqb-true, eq-eqb}
use Rattle.std.specs.FinMap as map
use Rattle.std.specs.FinMap.{FinMap, get-empty, len-empty, len-insert, len-remove}
use Rattle.std.specs.Cmp.{nat_cmp_total}
use Rattle.std.specs.Ordering.{nat_cmp}
use Rattle.std.specs.List.{AllByRecursion, list_any}
use Rattle.lard_base.specs.declared.config.Config.{Config}
use Rattle.lard_base.specs.declared.ids.Millis.{Millis}
use Rattle.lard_base.specs.Config.{config_check, room_of}
use Rattle.lard_table.proofs.Map.{some_len}
use Rattle.lard_loads.specs.Tally.{Standing, Tally, admitted, batch_ended, connected, batch_ended_with, has_other_open, is_open, home, home_of, numbers, released, shared, sharing}
use Rattle.lard_loads.specs.Tally as tally
use Rattle.std.proofs.lemmas.Nat.Bits.{bit_at-zero}
use Rattle.lard_base.specs.Members.{has}
use Rattle.lard_sets.specs.declared.sets.ServerSet.{ServerSet}
use Rattle.lard_sets.specs.Sets.{set_of, touched}
use Rattle.lard_sets.specs.Sets as sets
use Rattle.lard_policy.specs.declared.first.FirstChoice.{FirstChoice}
use Rattle.lard_costs.specs.declared.later.LaterChoice.{LaterChoice}
use Rattle.lard_dispatch.specs.declared.dispatch.Ask.{Ask}
use Rattle.lard_dispatch.specs.declared.line.Waiting.{Waiting}
use Rattle.lard_dispatch.specs.Books.{Books, Dispatcher, dispatch_begun}
use Rattle.lard_dispatch.specs.Calls.{admitted_with, after_close, after_ended, after_first, after_later, after_leave, all_shared, batch_over, choice_at, is_full, joined, later_choice_at, next_admitted, released_from, shared_with}
use Rattle.lard_dispatch.specs.Line.{line_waits, line_without}
use Rattle.lard_dispatch.specs.Sound.{AreApart, AreAtNodes, AreBefore, AreServedByNodes, IsNode, IsDispatcherSound}
use Rattle.lard_dispatch.proofs.Chosen.{IsChosen, all-filter, all-numbers, choice-within}
use Rattle.lard_dispatch.proofs.Servers.{before-closed, before-joined, before-reduced, before-touched, served-closed, served-joined, served-reduced, served-touched}
use Rattle.lard_dispatch.proofs.Sharing.{add-home}
use Rattle.lard_dispatch.proofs.Standing.{admitted-away, apart-left, apart-pushed, apart-put, at-nodes-put}

abbrev pub of : Config → Books → Dispatcher
of cfg b = record { config = cfg; books = b }

-- one more is admitted, one fewer, or as many
one-more : (t : Tally) (c n : ℕ) → map.get t.standings c ≡ None → admitted (connected t c n) ≡ admitted t + 1
one-more t c n free = len-insert nat_cmp_total t.standings c (record { home = n; shares = [] }) ∙ ap (λ (o : Option Standing). cond (is_some o) (map.len t.standings) (map.len t.standings + 1)) free

one-fewer : (t : Tally) (c : ℕ) → is_some (map.get t.standings c) ≡ true → admitted (released t c) + 1 ≡ admitted t
one-fewer t c in_ = go (map.get t.standings c) refl in_ where
  go : (o : Option Standing) → map.get t.standings c ≡ o → is_some o ≡ true → map.len (map.remove t.standings c) + 1 ≡ map.len t.standings
  go None e h = cc
  go (Some s) e h =
      let some : 0 < map.len t.standings = some_len t.standings c s e in
      let less : map.len (map.remove t.standings c) ≡ map.len t.standings - 1 = len-remove nat_cmp_total t.standings c ∙ ap (λ (o : Option Standing). cond (is_some o) (map.len t.standings - 1) (map.len t.standings)) e in
      omega (arith, some, less)

as-many : (m : FinMap nat_cmp Standing) (c : ℕ) (s v : Standing) → map.get m c ≡ Some s → map.len (map.insert m c v) ≡ map.len m
as-many m c s v e = len-insert nat_cmp_total m c v ∙ ap (λ (o : Option Standing). cond (is_some o) (map.len m) (map.len m + 1)) e

-- ---- an admission

-- What holds before one is admitted: there is room, and where somebody waits it is the last.
pub record HasRoom (cfg : Config) (b : Books) : Type 0 where
  pub usable : config_check cfg ≡ Ok tt
  pub nodes : b.loads.nodes ≡ cfg.nodes
  pub open_nodes : AllByRecursion (IsNode cfg.nodes) b.loads.open_nodes
  pub some_open : 0 < length b.loads.open_nodes
  pub at_nodes : AreAtNodes cfg.nodes b.loads.standings
  pub served : AreServedByNodes cfg.nodes b.sets
  pub room : admitted b.loads < room_of cfg
  pub last : 0 < length b.line → admitted b.loads + 1 ≡ room_of cfg
  pub apart : AreApart b.loads.standings b.line

pub admission : (cfg : Config) (b : Books) (c : ℕ) (target : List ℕ) (now : Millis) → HasRoom cfg b → map.get b.loads.standings c ≡ None → line_waits b.line c ≡ false
    → IsDispatcherSound (of cfg (admitted_with cfg b c target now))
admission cfg b c target now h free away =
    let choice : FirstChoice = choice_at cfg b target now in
    let chosen : IsChosen cfg.nodes choice = choice-within b.loads (set_of b.sets target).members now (set_of b.sets target).modified cfg cfg.nodes h.nodes h.open_nodes h.some_open in
    let more : admitted (connected b.loads c choice.node) ≡ admitted b.loads + 1 = one-more b.loads c choice.node free in
    let standing : Standing = record { home = choice.node; shares = [] } in
    record {
      usable = h.usable;
      nodes = h.nodes;
      open_nodes = h.open_nodes;
      some_open = h.some_open;
      at_nodes = at-nodes-put cfg.nodes b.loads.standings c (Some standing) h.at_nodes chosen.node;
      served = served-reduced cfg.nodes (joined (touched b.sets target) target choice.add now) target choice.remove now
          (served-joined cfg.nodes (touched b.sets target) target choice.add now (served-touched cfg.nodes b.sets target h.served) chosen.add) chosen.remove;
      room = omega (arith, more, h.room);
      full = λ some. let l : admitted b.loads + 1 ≡ room_of cfg = h.last some in omega (arith, more, l);
      apart = apart-put b.loads.standings c (Some standing) b.line away h.apart;
    }

-- ---- the calls

pub waiting-kept : (d : Dispatcher) (c : ℕ) (target : List ℕ) → IsDispatcherSound d → admitted d.books.loads ≡ room_of d.config → map.get d.books.loads.standings c ≡ None → line_waits d.books.line c ≡ false
    → IsDispatcherSound (record d { books = record d.books { line = d.books.line ++ record { c = c; target = target } ∷ [] } })
waiting-kept d c target s full free away = record {
  usable = s.usable;
  nodes = s.nodes;
  open_nodes = s.open_nodes;
  some_open = s.some_open;
  at_nodes = s.at_nodes;
  served = s.served;
  room = s.room;
  full = λ _. full;
  apart = apart-pushed d.books.loads.standings (record { c = c; target = target }) d.books.line free away s.apart;
}

pub room-left : (d : Dispatcher) → IsDispatcherSound d → admitted d.books.loads ≢ room_of d.config → HasRoom d.config d.books
room-left d s less = record {
  usable = s.usable;
  nodes = s.nodes;
  open_nodes = s.open_nodes;
  some_open = s.some_open;
  at_nodes = s.at_nodes;
  served = s.served;
  room = omega (arith, s.room, less);
  last = λ some. absurd (less (s.full some));
  apart = s.apart;
}

pub first-kept : (d : Dispatcher) (c : ℕ) (target : List ℕ) (now : Millis) → IsDispatcherSound d → map.get d.books.loads.standings c ≡ None → line_waits d.books.line c ≡ false → IsDispatcherSound (after_first d c target now)
first-kept d c target now s free away = cond_both (is_full d) _ _ IsDispatcherSound
    (λ t. waiting-kept d c target s (eqb-true (admitted d.books.loads) (room_of d.config) t) free away)
    (λ f. admission d.config d.books c target now (room-left d s (λ e. both_ways (is_full d) f (eq-eqb (admitted d.books.loads) (room_of d.config) e))) free away)

-- the state once a connection is released, and the first taken out of the line
pub released-room : (d : Dispatcher) (c : ℕ) (ws : List Waiting) → IsDispatcherSound d → is_some (map.get d.books.loads.standings c) ≡ true → AreApart d.books.loads.standings ws
    → (0 < length ws → admitted d.books.loads ≡ room_of d.config) → HasRoom d.config (record (released_from d.books c) { line = ws })
released-room d c ws s in_ apart full =
    let less : admitted (released d.books.loads c) + 1 ≡ admitted d.books.loads = one-fewer d.books.loads c in_ in
    record {
      usable = s.usable;
      nodes = s.nodes;
      open_nodes = s.open_nodes;
      some_open = s.some_open;
      at_nodes = at-nodes-put d.config.nodes d.books.loads.standings c None s.at_nodes tt;
      served = s.served;
      room = omega (arith, s.room, less);
      last = λ some. let f : admitted d.books.loads ≡ room_of d.config = full some in omega (arith, less, f);
      apart = apart-put d.books.loads.standings c None ws (admitted-away d.books.loads.standings c ws in_ apart) apart;
    }

pub ended-kept : (d : Dispatcher) (c : ℕ) (now : Millis) → IsDispatcherSound d → is_some (map.get d.books.loads.standings c) ≡ true → IsDispatcherSound (after_ended d c now)
ended-kept d c now s in_ = go d.books.line s.apart s.full where
  go : (ws : List Waiting) → AreApart d.books.loads.standings ws → (0 < length ws → admitted d.books.loads ≡ room_of d.config)
      → IsDispatcherSound (of d.config (next_admitted d.config now (record (released_from d.books c) { line = ws }) ws))
  go [] apart full =
      let h : HasRoom d.config (record (released_from d.books c) { line = [] }) = released-room d c [] s in_ apart full in
      record {
        usable = h.usable;
        nodes = h.nodes;
        open_nodes = h.open_nodes;
        some_open = h.some_open;
        at_nodes = h.at_nodes;
        served = h.served;
        room = omega (arith, h.room);
        full = λ some. absurd (omega (arith, some));
        apart = tt;
      }
  go (w ∷ ws) apart full =
      let f : admitted d.books.loads ≡ room_of d.config = full (omega arith) in
      admission d.config (record (released_from d.books c) { line = ws }) w.c w.target now (released-room d c ws s in_ apart.2 (λ _. f))
      (apart-put d.books.loads.standings c None (w ∷ ws) (admitted-away d.books.loads.standings c (w ∷ ws) in_ apart) apart).0 apart.1

pub leave-kept : (d : Dispatcher) (c : ℕ) → IsDispatcherSound d → IsDispatcherSound (after_leave d c)
leave-kept d c s = record {
  usable = s.usable;
  nodes = s.nodes;
  open_nodes = s.open_nodes;
  some_open = s.some_open;
  at_nodes = s.at_nodes;
  served = s.served;
  room = s.room;
  full = λ some. s.full (shorter d.books.line some);
  apart = apart-left d.books.loads.standings c d.books.line s.apart;
} where
  shorter : (ws : List Waiting) → 0 < length (line_without ws c) → 0 < length ws
  shorter [] h = h
  shorter (w ∷ ws) h = omega arith

-- where another one is open, some node stays open
pub other-stays : (n : ℕ) (ns : List ℕ) → list_any (λ m. not (nat_eq m n)) ns ≡ true → 0 < length (filter (λ m. not (nat_eq m n)) ns)
other-stays n [] h = cc
other-stays n (m ∷ ms) h = go (other-stays n ms) (not (nat_eq m n)) h where
  go : (list_any (λ m. not (nat_eq m n)) ms ≡ true → 0 < length (filter (λ m. not (nat_eq m n)) ms)) → (b : Bool) → (b || list_any (λ m. not (nat_eq m n)) ms) ≡ true
      → 0 < length (cond b (m ∷ filter (λ m. not (nat_eq m n)) ms) (filter (λ m. not (nat_eq m n)) ms))
  go more true t = omega arith
  go more false t = more t

pub closing-kept : (d : Dispatcher) (n : ℕ) → IsDispatcherSound d → IsNode d.config.nodes n → has_other_open d.books.loads n ≡ true
    → IsDispatcherSound (record d { books = record d.books { loads = tally.tally_closed d.books.loads n; sets = sets.sets_closed d.books.sets n } })
closing-kept d n s node other = closing where
  closing : IsDispatcherSound (record d { books = record d.books { loads = tally.tally_closed d.books.loads n; sets = sets.sets_closed d.books.sets n } })
  closing = record {
    usable = s.usable;
    nodes = s.nodes;
    open_nodes = all-filter (IsNode d.config.nodes) (λ m. not (nat_eq m n)) d.books.loads.open_nodes s.open_nodes;
    some_open = other-stays n d.books.loads.open_nodes other;
    at_nodes = s.at_nodes;
    served = served-closed d.config.nodes d.books.sets n node s.served;
    room = s.room;
    full = s.full;
    apart = s.apart;
  }

-- a node that is open is one that there is
pub open-there : (nodes n : ℕ) (ns : List ℕ) → AllByRecursion (IsNode nodes) ns → list_any (nat_eq n) ns ≡ true → IsNode nodes n
open-there nodes n [] all h = cc
open-there nodes n (m ∷ ms) all h = go (open-there nodes n ms all.1) (nat_eq n m) refl h where
  go : (list_any (nat_eq n) ms ≡ true → IsNode nodes n) → (b : Bool) → nat_eq n m ≡ b → (b || list_any (nat_eq n) ms) ≡ true → IsNode nodes n
  go more true e t = subst (IsNode nodes) (sym (eqb-true n m e)) all.0
  go more false e t = more t

pub open-node : (d : Dispatcher) (n : ℕ) → IsDispatcherSound d → is_open d.books.loads n ≡ true → IsNode d.config.nodes n
open-node d n s h = open-there d.config.nodes n d.books.loads.open_nodes s.open_nodes h

pub close-kept : (d : Dispatcher) (n : ℕ) → IsDispatcherSound d → has_other_open d.books.loads n ≡ true → IsDispatcherSound (after_close d n)
close-kept d n s other = cond_both (is_open d.books.loads n) _ d IsDispatcherSound (λ t. closing-kept d n s (open-node d n s t) other) (λ _. s)

-- ---- an Ask

-- the node of an admitted connection
pub home-node : (nodes : ℕ) (m : FinMap nat_cmp Standing) (c h : ℕ) → AreAtNodes nodes m → home_of (map.get m c) ≡ Some h → IsNode nodes h
home-node nodes m c h all is = go (map.get m c) (all c) is where
  go : (o : Option Standing) → IfSome o (λ s. IsNode nodes s.home) → home_of o ≡ Some h → IsNode nodes h
  go None p e = cc
  go (Some s) p e = let same : s.home ≡ h = cc in subst (IsNode nodes) same p

-- one standing in place of another at the same node
restanding : (d : Dispatcher) (t : Tally) (c : ℕ) (s v : Standing) → IsDispatcherSound d → map.get d.books.loads.standings c ≡ Some s → v.home ≡ s.home
    → IsDispatcherSound (record d { books = record d.books { loads = record d.books.loads { standings = map.insert d.books.loads.standings c v } } })
restanding d t c s v h at same =
    let len : map.len (map.insert d.books.loads.standings c v) ≡ map.len d.books.loads.standings = as-many d.books.loads.standings c s v at in
    record {
      usable = h.usable;
      nodes = h.nodes;
      open_nodes = h.open_nodes;
      some_open = h.some_open;
      at_nodes = at-nodes-put d.config.nodes d.books.loads.standings c (Some v) h.at_nodes
          (subst (IsNode d.config.nodes) (sym same) (subst (λ (o : Option Standing). IfSome o (λ x. IsNode d.config.nodes x.home)) at (h.at_nodes c)));
      served = h.served;
      room = omega (arith, len, h.room);
      full = λ some. len ∙ h.full some;
      apart = apart-put d.books.loads.standings c (Some v) d.books.line (admitted-away d.books.loads.standings c d.books.line (ap is_some at) h.apart) h.apart;
    }

with-sets : (d : Dispatcher) (all : List (List ℕ × ServerSet)) → IsDispatcherSound d → AreServedByNodes d.config.nodes all → IsDispatcherSound (record d { books = record d.books { sets = all } })
with-sets d all h served = record {
  usable = h.usable;
  nodes = h.nodes;
  open_nodes = h.open_nodes;
  some_open = h.some_open;
  at_nodes = h.at_nodes;
  served = served;
  room = h.room;
  full = h.full;
  apart = h.apart;
}

sharing-kept : (d : Dispatcher) (c n size : ℕ) → IsDispatcherSound d → IsDispatcherSound (record d { books = record d.books { loads = shared d.books.loads c n size } })
sharing-kept d c n size h = go (map.get d.books.loads.standings c) refl where
  go : (o : Option Standing) → map.get d.books.loads.standings c ≡ o → IsDispatcherSound (record d { books = record d.books { loads = sharing d.books.loads c n size o } })
  go None e = h
  go (Some s) e = cond_both (nat_eq n s.home) d.books.loads _ (λ (x : Tally). IsDispatcherSound (record d { books = record d.books { loads = x } })) (λ _. h) (λ _. restanding d d.books.loads c s _ h e refl)

pub ended-batch-kept : (d : Dispatcher) (c : ℕ) → IsDispatcherSound d → IsDispatcherSound (record d { books = record d.books { loads = batch_ended d.books.loads c } })
ended-batch-kept d c h = go (map.get d.books.loads.standings c) refl where
  go : (o : Option Standing) → map.get d.books.loads.standings c ≡ o → IsDispatcherSound (record d { books = record d.books { loads = batch_ended_with d.books.loads c o } })
  go None e = h
  go (Some s) e = restanding d d.books.loads c s _ h e refl

pub shares-kept : (cfg : Config) (ask : Ask) (now : Millis) (ps : List (List ℕ)) (b : Books) → IsNode cfg.nodes ask.home → IsDispatcherSound (of cfg b) → IsDispatcherSound (of cfg (all_shared cfg ask now ps b))
shares-kept cfg ask now [] b node h = h
shares-kept cfg ask now (p ∷ ps) b node h =
    let choice : LaterChoice = later_choice_at cfg b ask p in
    shares-kept cfg ask now ps (shared_with cfg b ask p now) node
    (with-sets (of cfg (record b { loads = shared b.loads ask.c choice.node ask.size })) _ (sharing-kept (of cfg b) ask.c choice.node ask.size h)
    (served-joined cfg.nodes (touched b.sets p) p choice.add now (served-touched cfg.nodes b.sets p h.served) (add-home b.loads ask.home (set_of b.sets p).members ask.queue cfg.nodes cfg node)))

pub later-kept : (d : Dispatcher) (ask : Ask) (now : Millis) → IsDispatcherSound d → home d.books.loads ask.c ≡ Some ask.home → IsDispatcherSound (after_later d ask now)
later-kept d ask now h at =
    shares-kept d.config ask now ask.paths (batch_over d.books ask) (home-node d.config.nodes d.books.loads.standings ask.c ask.home h.at_nodes at) (ended-batch-kept d ask.c h)

-- ---- the start

none-in : map.len (map.empty {K = ℕ} {X = Standing} {R = nat_cmp}) ≡ 0
none-in = len-empty nat_cmp Standing

pub begun-sound : (cfg : Config) → config_check cfg ≡ Ok tt → 1 ≤ cfg.nodes → IsDispatcherSound (dispatch_begun cfg)
begun-sound cfg usable some = record {
  usable = usable;
  nodes = refl;
  open_nodes = all-numbers cfg.nodes;
  some_open = counted cfg.nodes some;
  at_nodes = λ c. subst (λ (o : Option Standing). IfSome o (λ s. IsNode cfg.nodes s.home)) (sym (get-empty nat_cmp c)) tt;
  served = λ target n h. cc (has-none n, h);
  room = subst (λ (n : ℕ). n ≤ room_of cfg) (sym none-in) (omega arith);
  full = λ some. absurd (omega (arith, some));
  apart = tt;
} where
  counted : (n : ℕ) → 1 ≤ n → 0 < length (numbers n)
  counted zero h = absurd (omega (arith, h))
  counted (suc n) h = omega arith

  has-none : (k : ℕ) → has 0 k ≡ false
  has-none k = ap (λ b. nat_eq b 1) (bit_at-zero (k - 1))

-- ---- what a caller can test

pub not-in : (t : Tally) (c : ℕ) → home t c ≡ None → map.get t.standings c ≡ None
not-in t c h = go (map.get t.standings c) h where
  go : (o : Option Standing) → home_of o ≡ None → o ≡ None
  go None e = refl
  go (Some s) e = cc

pub is-in : (t : Tally) (c : ℕ) → is_some (home t c) ≡ true → is_some (map.get t.standings c) ≡ true
is-in t c h = go (map.get t.standings c) h where
  go : (o : Option Standing) → is_some (home_of o) ≡ true → is_some o ≡ true
  go None e = e
  go (Some s) e = refl

-- ---- the clock

pub before-admitted : (cfg : Config) (b : Books) (c : ℕ) (target : List ℕ) (now : Millis) → AreBefore now.0 b.sets → AreBefore now.0 (admitted_with cfg b c target now).sets
before-admitted cfg b c target now all =
    let choice : FirstChoice = choice_at cfg b target now in
    before-reduced now (joined (touched b.sets target) target choice.add now) target choice.remove (before-joined now (touched b.sets target) target choice.add (before-touched now b.sets target all))

pub before-first : (d : Dispatcher) (c : ℕ) (target : List ℕ) (now : Millis) → AreBefore now.0 d.books.sets → AreBefore now.0 (after_first d c target now).books.sets
before-first d c target now all = cond_both (is_full d) _ _ (λ (x : Dispatcher). AreBefore now.0 x.books.sets) (λ _. all) (λ _. before-admitted d.config d.books c target now all)

pub before-close : (d : Dispatcher) (n : ℕ) (now : Millis) → AreBefore now.0 d.books.sets → AreBefore now.0 (after_close d n).books.sets
before-close d n now all = cond_both (is_open d.books.loads n) _ d (λ (x : Dispatcher). AreBefore now.0 x.books.sets) (λ _. before-closed now d.books.sets n all) (λ _. all)

pub before-ended : (d : Dispatcher) (c : ℕ) (now : Millis) → AreBefore now.0 d.books.sets → AreBefore now.0 (after_ended d c now).books.sets
before-ended d c now all = go d.books.line where
  go : (ws : List Waiting) → AreBefore now.0 (next_admitted d.config now (released_from d.books c) ws).sets
  go [] = all
  go (w ∷ ws) = before-admitted d.config (record (released_from d.books c) { line = ws }) w.c w.target now all

pub before-later : (d : Dispatcher) (ask : Ask) (now : Millis) → AreBefore now.0 d.books.sets → AreBefore now.0 (after_later d ask now).books.sets
before-later d ask now all = go ask.paths (batch_over d.books ask) all where
  go : (ps : List (List ℕ)) (b : Books) → AreBefore now.0 b.sets → AreBefore now.0 (all_shared d.config ask now ps b).sets
  go [] b h = h
  go (p ∷ ps) b h = go ps (shared_with d.config b ask p now) (before-joined now (touched b.sets p) p (later_choice_at d.config b ask p).add (before-touched now b.sets p h))

-- ---- what the code knows

-- nobody waits, and one is released
pub rested : (cfg : Config) (b : Books) → HasRoom cfg b → b.line ≡ [] → IsDispatcherSound (of cfg b)
rested cfg b h none = record {
  usable = h.usable;
  nodes = h.nodes;
  open_nodes = h.open_nodes;
  some_open = h.some_open;
  at_nodes = h.at_nodes;
  served = h.served;
  room = omega (arith, h.room);
  full = λ some. let z : length b.line ≡ 0 = ap length none in absurd (omega (arith, some, z));
  apart = subst (AreApart b.loads.standings) (sym none) tt;
}

pub empty-line : (ws : List Waiting) → None ≡ slice_get ws 0 → ws ≡ []
empty-line [] h = refl
empty-line (w ∷ ws) h = cc

pub same-first : (line : List Waiting) (v w : Waiting) (ws : List Waiting) → Some v ≡ slice_get line 0 → line ≡ w ∷ ws → v ≡ w
same-first line v w ws h row = let e : Some v ≡ Some w = h ∙ ap (λ (l : List Waiting). slice_get l 0) row in cc

-- the first of the line is not admitted, nor is it once another is released
pub free-first : (m : FinMap nat_cmp Standing) (c : ℕ) (w : Waiting) (ws : List Waiting) → is_some (map.get m c) ≡ true → AreApart m (w ∷ ws) → map.get (map.remove m c) w.c ≡ None
free-first m c w ws in_ apart = (apart-put m c None (w ∷ ws) (admitted-away m c (w ∷ ws) in_ apart) apart).0
