-- Which nodes are open: a choice is of one that is, and all that serve a target are; what a closing leaves of them.
use Rattle.std.proofs.Common.{◌≡◌, ℕ, ◌-◌, ◌<◌, ◌≤◌, ◌||◌, ⊎_elim, not, nat_eq, Bool, true, false, cond, List, [], ◌∷◌, length, option_map, unwrap_or, is_some, Option, Some, None, IfSome, refl, sym, ap, ◌∙◌, subst, arith}
use Rattle.std.proofs.lemmas.Bool.{and_parts, both_ways, cond_both, eq-eqb, eqb-true}
use Rattle.std.proofs.lemmas.Nat.Bits.{bit_at-zero}
use Rattle.std.specs.FinMap as table
use Rattle.std.specs.List.{AllByRecursion, list_any}
use Rattle.std.specs.Str.{bytes_eq}
use Rattle.lard_base.specs.declared.config.Config.{Config}
use Rattle.lard_base.specs.declared.ids.Millis.{Millis}
use Rattle.lard_base.specs.Members.{has}
use Rattle.lard_dispatch.specs.declared.dispatch.Ask.{Ask}
use Rattle.lard_dispatch.specs.declared.line.Waiting.{Waiting}
use Rattle.lard_dispatch.specs.Books.{Books, Dispatcher}
use Rattle.lard_dispatch.specs.Calls.{admitted_with, after_close, after_ended, after_first, after_later, all_shared, batch_over, choice_at, is_full, joined, later_choice_at, next_admitted, reduced, released_from, shared_with}
use Rattle.lard_dispatch.specs.Laws.{AreAllowed, Call, IsAllowed, after_call, after_calls}
use Rattle.lard_dispatch.specs.Laws.Call.{First, Later, Ended, Leave, Close}
use Rattle.lard_dispatch.specs.Sound.{IsDispatcherSound, IsNode}
use Rattle.lard_dispatch.proofs.AllCalls.{call-kept}
use Rattle.lard_dispatch.proofs.Servers.{set_of-put}
use Rattle.lard_dispatch.proofs.Chosen.{choice-within}
use Rattle.lard_dispatch.proofs.Soundness.{home-node, open-node, open-there}
use Rattle.lard_loads.proofs.Firsts.{IsIn, first-is_in, first_passes, has_first}
use Rattle.lard_loads.specs.Order.{is_before}
use Rattle.lard_loads.specs.Tally.{Standing, Tally, batch_ended, batch_ended_with, home, is_open, least, least_of, load, shared, sharing, tally_closed}
use Rattle.lard_policy.specs.declared.first.FirstChoice.{FirstChoice}
use Rattle.lard_policy.specs.First.{chosen, first_choice, is_overloaded, least_node, relieved}
use Rattle.lard_costs.specs.declared.later.LaterChoice.{LaterChoice}
use Rattle.lard_costs.specs.Later.{later_choice}
use Rattle.lard_rules.specs.FrontSound.{AreServedByOpen, open_nodes_of, others_open}
use Rattle.lard_sets.specs.declared.sets.ServerSet.{ServerSet}
use Rattle.lard_sets.specs.Sets.{has_place, no_servers, place, put, set_of, sets_closed, touched, without_member}
use Rattle.lard_sets.proofs.Changes.{place-closed}
use Rattle.lard_sets.proofs.Flags.{has-with_member, has-without_member}

-- ---- how many are open

pub others-fewer : (n : ℕ) (ns : List ℕ) → length (others_open n ns) ≤ length ns
others-fewer n [] = omega arith
others-fewer n (m ∷ ms) =
    let few = others-fewer n ms in
    cond_both (not (nat_eq m n)) (m ∷ others_open n ms) (others_open n ms) (λ xs. length xs ≤ length (m ∷ ms)) (λ t. omega (arith, few)) (λ t. omega (arith, few))

turned : (n m : ℕ) → nat_eq n m ≡ true → nat_eq m n ≡ true
turned n m e = eq-eqb m n (sym (eqb-true n m e))

-- an open node is one of them
pub others-less : (n : ℕ) (ns : List ℕ) → list_any (nat_eq n) ns ≡ true → length (others_open n ns) < length ns
others-less n [] h = let no : false ≡ true = h in absurd cc
others-less n (m ∷ ms) h = go (nat_eq n m) refl (others-less n ms) h where
  few : length (others_open n ms) ≤ length ms
  few = others-fewer n ms

  go : (b : Bool) → nat_eq n m ≡ b → (list_any (nat_eq n) ms ≡ true → length (others_open n ms) < length ms) → (b || list_any (nat_eq n) ms) ≡ true
      → length (others_open n (m ∷ ms)) < length (m ∷ ms)
  go true e less t = subst (λ b. length (cond (not b) (m ∷ others_open n ms) (others_open n ms)) < length (m ∷ ms)) (sym (turned n m e)) (omega (arith, few))
  go false e less t =
      let fewer = less t in
      cond_both (not (nat_eq m n)) (m ∷ others_open n ms) (others_open n ms) (λ xs. length xs < length (m ∷ ms)) (λ u. omega (arith, fewer)) (λ u. omega (arith, fewer))

negated : (b : Bool) → not b ≡ false → b ≡ true
negated true f = refl
negated false f = let no : true ≡ false = f in absurd cc

-- and one that is closed is none of them
pub others-all : (n : ℕ) (ns : List ℕ) → list_any (nat_eq n) ns ≡ false → length ns ≤ length (others_open n ns)
others-all n [] h = omega arith
others-all n (m ∷ ms) h = go (nat_eq n m) refl (others-all n ms) h where
  go : (b : Bool) → nat_eq n m ≡ b → (list_any (nat_eq n) ms ≡ false → length ms ≤ length (others_open n ms)) → (b || list_any (nat_eq n) ms) ≡ false
      → length (m ∷ ms) ≤ length (others_open n (m ∷ ms))
  go true e all t = let no : true ≡ false = t in absurd cc
  go false e all t =
      let many = all t in
      cond_both (not (nat_eq m n)) (m ∷ others_open n ms) (others_open n ms) (λ xs. length (m ∷ ms) ≤ length xs) (λ u. omega (arith, many))
      (λ u. absurd (both_ways (nat_eq n m) e (turned m n (negated (nat_eq m n) u))))

-- so many others than n are open behind a closing, at most
pub others-fall : (n m : ℕ) (ns : List ℕ) → length (others_open n (others_open m ns)) ≤ length (others_open n ns)
others-fall n m [] = omega arith
others-fall n m (k ∷ ks) =
    cond_both (not (nat_eq k m)) (k ∷ others_open m ks) (others_open m ks) (λ xs. length (others_open n xs) ≤ length (others_open n (k ∷ ks)))
    (λ t. kept (not (nat_eq k n)) (others-fall n m ks)) (λ t. left (not (nat_eq k n)) (others-fall n m ks)) where
      kept : (b : Bool) → length (others_open n (others_open m ks)) ≤ length (others_open n ks)
          → length (cond b (k ∷ others_open n (others_open m ks)) (others_open n (others_open m ks))) ≤ length (cond b (k ∷ others_open n ks) (others_open n ks))
      kept true less = omega (arith, less)
      kept false less = less

      left : (b : Bool) → length (others_open n (others_open m ks)) ≤ length (others_open n ks)
          → length (others_open n (others_open m ks)) ≤ length (cond b (k ∷ others_open n ks) (others_open n ks))
      left true less = omega (arith, less)
      left false less = less

any-among : (n : ℕ) (ns : List ℕ) → IsIn n ns → list_any (nat_eq n) ns ≡ true
any-among n [] h = absurd h
any-among n (m ∷ ms) h = ⊎_elim (λ e. ap (λ b. b || list_any (nat_eq n) ms) (eq-eqb n m (sym e))) (λ i. or (nat_eq n m) (any-among n ms i)) h where
  or : (b : Bool) → list_any (nat_eq n) ms ≡ true → (b || list_any (nat_eq n) ms) ≡ true
  or true e = refl
  or false e = e

-- ---- a choice

-- a first choice is of an open node, or of one that serves, and so is who joins
module _ (P : ℕ → Type 0) (t : Tally) where
  least-is : 0 < length t.open_nodes → ((n : ℕ) → IsIn n t.open_nodes → P n) → P (least_node t)
  least-is some all = go (least t) refl (has_first (is_before (load t)) t.open_nodes some) where
    go : (o : Option ℕ) → least t ≡ o → is_some o ≡ true → P (unwrap_or o 0)
    go None e h = let no : false ≡ true = h in absurd cc
    go (Some n) e h = all n (first-is_in (is_before (load t)) t.open_nodes n e)

  abbrev pub Chooses : FirstChoice → Type 0
  Chooses choice = P choice.node × IfSome choice.add P

  chosen-is : (cfg : Config) (set unchanged : ℕ) → P (least_node t) → (o : Option ℕ) → IfSome o P → Chooses (chosen t cfg set unchanged o)
  chosen-is cfg set unchanged low None h = (low, low)
  chosen-is cfg set unchanged low (Some n) h =
      let p : P (relieved t cfg n) = cond_both (is_overloaded t cfg n) (least_node t) n P (λ e. low) (λ e. h) in
      (p, cond_both (has set (relieved t cfg n)) None (Some (relieved t cfg n)) (λ (o : Option ℕ). IfSome o P) (λ e. tt) (λ e. p))

  pub first-is : (cfg : Config) (set : ℕ) (now last : Millis) → 0 < length t.open_nodes → ((n : ℕ) → IsIn n t.open_nodes → P n)
      → ((n : ℕ) → 1 ≤ n → has set n ≡ true → P n)
      → Chooses (first_choice t set now last cfg)
  unfolding first_choice
  first-is cfg set now last some all members = chosen-is cfg set (now.0 - last.0) (least-is some all) (least_of t set) (go (least_of t set) refl) where
    go : (o : Option ℕ) → least_of t set ≡ o → IfSome o P
    go None e = tt
    go (Some n) e = let n_is = first_passes (is_before (load t)) (has set) t.nodes n e in members n n_is.0 n_is.2

-- a later one takes in the connection's node alone, where that is open
pub later-is : (P : ℕ → Type 0) (t : Tally) (h set queue : ℕ) (cfg : Config) → (is_open t h ≡ true → P h) → IfSome (later_choice t h set queue cfg).add P
unfolding later_choice
later-is P t h set queue cfg open_ = cond_both _ (Some h) None (λ (o : Option ℕ). IfSome o P)
    (λ e. let parts = and_parts _ (not (has set h)) e in open_ (and_parts _ (is_open t h) parts.0).1) (λ e. tt)

-- ---- who serves

abbrev Sets : Type 0
Sets = List (List ℕ × ServerSet)

-- each node that serves a target is such a one
abbrev AllServe : (ℕ → Type 0) → Sets → Type 0
AllServe P sets = (target : List ℕ) (n : ℕ) → 1 ≤ n → has (set_of sets target).members n ≡ true → P n

module _ (P : ℕ → Type 0) where
  abbrev Members : ServerSet → Type 0
  Members s = (n : ℕ) → 1 ≤ n → has s.members n ≡ true → P n

  put-serve : (sets : Sets) (target : List ℕ) (s : ServerSet) → AllServe P sets → Members s → AllServe P (put sets target s)
  put-serve sets target s all own other =
      subst Members (sym (set_of-put sets target other s)) (cond_both (bytes_eq other target) s (set_of sets other) Members (λ e. own) (λ e. all other))

  touched-serve : (sets : Sets) (target : List ℕ) → AllServe P sets → AllServe P (touched sets target)
  touched-serve sets target all = put-serve sets target (set_of sets target) all (all target)

  joined-serve : (sets : Sets) (target : List ℕ) (o : Option ℕ) (now : Millis) → AllServe P sets → IfSome o (λ n. P n × (1 ≤ n))
      → AllServe P (joined sets target o now)
  joined-serve sets target None now all h = all
  joined-serve sets target (Some m) now all h =
      put-serve sets target _ all (λ n some there. go n (nat_eq n m) refl (sym (has-with_member (set_of sets target).members m n h.1 some) ∙ there) (all target n some)) where
        go : (n : ℕ) (b : Bool) → nat_eq n m ≡ b → (b || has (set_of sets target).members n) ≡ true → (has (set_of sets target).members n ≡ true → P n) → P n
        go n true e t old = subst P (sym (eqb-true n m e)) h.0
        go n false e t old = old t

  -- who leaves leaves the others
  without-serve : (s : ServerSet) (m : ℕ) (modified : Millis) → 1 ≤ m → Members s
      → Members (record { members = without_member s.members m; modified = modified })
  without-serve s m modified low own n some there =
      own n some (and_parts (not (nat_eq n m)) (has s.members n) (sym (has-without_member s.members m n low some) ∙ there)).1

  reduced-serve : (sets : Sets) (target : List ℕ) (o : Option ℕ) (now : Millis) → AllServe P sets → IfSome o (λ n. 1 ≤ n)
      → AllServe P (reduced sets target o now)
  reduced-serve sets target None now all h = all
  reduced-serve sets target (Some m) now all h =
      cond_both (has_place sets target) (put sets target (record { members = without_member (set_of sets target).members m; modified = now })) sets (AllServe P)
      (λ e. put-serve sets target _ all (without-serve (set_of sets target) m now h (all target))) (λ e. all)

-- ---- the books

abbrev IsOpenIn : Books → ℕ → Type 0
IsOpenIn b n = is_open b.loads n ≡ true

-- What is so of these books when one is admitted by them.
pub record HasOpen (cfg : Config) (b : Books) : Type 0 where
  pub count : b.loads.nodes ≡ cfg.nodes
  pub all : AllByRecursion (IsNode cfg.nodes) b.loads.open_nodes
  pub some : 0 < length b.loads.open_nodes
  pub serve : AreServedByOpen b

pub has-open : (d : Dispatcher) → IsDispatcherSound d → AreServedByOpen d.books → HasOpen d.config d.books
has-open d s serve = record { count = s.nodes; all = s.open_nodes; some = s.some_open; serve = serve }

-- a first choice is of an open node
pub chosen-open : (cfg : Config) (b : Books) (target : List ℕ) (now : Millis) → HasOpen cfg b → Chooses (IsOpenIn b) b.loads (choice_at cfg b target now)
chosen-open cfg b target now h =
    first-is (IsOpenIn b) b.loads cfg (set_of b.sets target).members now (set_of b.sets target).modified h.some (λ n i. any-among n b.loads.open_nodes i) (h.serve target)

with-low : (nodes : ℕ) (b : Books) (o : Option ℕ) → AllByRecursion (IsNode nodes) b.loads.open_nodes → IfSome o (IsOpenIn b)
    → IfSome o (λ n. IsOpenIn b n × (1 ≤ n))
with-low nodes b None all h = tt
with-low nodes b (Some n) all h = (h, (open-there nodes n b.loads.open_nodes all h).0)

low-only : (nodes : ℕ) (o : Option ℕ) → IfSome o (IsNode nodes) → IfSome o (λ n. 1 ≤ n)
low-only nodes None h = tt
low-only nodes (Some n) h = h.0

admitted-serve : (cfg : Config) (b : Books) (c : ℕ) (target : List ℕ) (now : Millis) → HasOpen cfg b → AreServedByOpen (admitted_with cfg b c target now)
admitted-serve cfg b c target now h =
    let choice : FirstChoice = choice_at cfg b target now in
    reduced-serve (IsOpenIn b) (joined (touched b.sets target) target choice.add now) target choice.remove now
    (joined-serve (IsOpenIn b) (touched b.sets target) target choice.add now (touched-serve (IsOpenIn b) b.sets target h.serve) (with-low cfg.nodes b choice.add h.all (chosen-open cfg b target now h).1))
    (low-only cfg.nodes choice.remove (choice-within b.loads (set_of b.sets target).members now (set_of b.sets target).modified cfg cfg.nodes h.count h.all h.some).remove)

first-serve : (d : Dispatcher) (c : ℕ) (target : List ℕ) (now : Millis) → HasOpen d.config d.books → AreServedByOpen (after_first d c target now).books
first-serve d c target now h =
    cond_both (is_full d) _ _ (λ (x : Dispatcher). AreServedByOpen x.books) (λ t. h.serve) (λ t. admitted-serve d.config d.books c target now h)

ended-serve : (d : Dispatcher) (c : ℕ) (now : Millis) → HasOpen d.config d.books → AreServedByOpen (after_ended d c now).books
ended-serve d c now h = go d.books.line where
  go : (ws : List Waiting) → AreServedByOpen (next_admitted d.config now (released_from d.books c) ws)
  go [] = h.serve
  go (w ∷ ws) =
      admitted-serve d.config (record (released_from d.books c) { line = ws }) w.c w.target now (record { count = h.count; all = h.all; some = h.some; serve = h.serve })

-- a share changes no node
shared-open : (t : Tally) (c n size : ℕ) → (shared t c n size).open_nodes ≡ t.open_nodes
shared-open t c n size = go (table.get t.standings c) where
  go : (o : Option Standing) → (sharing t c n size o).open_nodes ≡ t.open_nodes
  go None = refl
  go (Some s) = cond_both (nat_eq n s.home) t _ (λ (x : Tally). x.open_nodes ≡ t.open_nodes) (λ e. refl) (λ e. refl)

over-open : (t : Tally) (c : ℕ) → (batch_ended t c).open_nodes ≡ t.open_nodes
over-open t c = go (table.get t.standings c) where
  go : (o : Option Standing) → (batch_ended_with t c o).open_nodes ≡ t.open_nodes
  go None = refl
  go (Some s) = refl

-- these nodes alone serve
abbrev ServeAmong : Sets → List ℕ → Type 0
ServeAmong sets ns = AllServe (λ n. list_any (nat_eq n) ns ≡ true) sets

shares-serve : (cfg : Config) (ask : Ask) (now : Millis) → 1 ≤ ask.home → (ps : List (List ℕ)) (b : Books) → AreServedByOpen b
    → AreServedByOpen (all_shared cfg ask now ps b)
shares-serve cfg ask now low [] b h = h
shares-serve cfg ask now low (p ∷ ps) b h =
    let choice : LaterChoice = later_choice_at cfg b ask p in
    let sets : Sets = joined (touched b.sets p) p choice.add now in
    let on : AllServe (IsOpenIn b) sets = joined-serve (IsOpenIn b) (touched b.sets p) p choice.add now (touched-serve (IsOpenIn b) b.sets p h)
    (later-is (λ n. IsOpenIn b n × (1 ≤ n)) b.loads ask.home (set_of b.sets p).members ask.queue cfg (λ open_. (open_, low))) in
    shares-serve cfg ask now low ps (shared_with cfg b ask p now) (subst (ServeAmong sets) (sym (shared-open b.loads ask.c choice.node ask.size)) on)

later-serve : (d : Dispatcher) (ask : Ask) (now : Millis) → IsDispatcherSound d → home d.books.loads ask.c ≡ Some ask.home → AreServedByOpen d.books
    → AreServedByOpen (after_later d ask now).books
later-serve d ask now s at h =
    shares-serve d.config ask now (home-node d.config.nodes d.books.loads.standings ask.c ask.home s.at_nodes at).0 ask.paths (batch_over d.books ask)
    (subst (ServeAmong d.books.sets) (sym (over-open d.books.loads ask.c)) h)

-- who serves still was not closed
others-have : (n k : ℕ) (ns : List ℕ) → not (nat_eq k n) ≡ true → list_any (nat_eq k) ns ≡ true → list_any (nat_eq k) (others_open n ns) ≡ true
others-have n k [] apart h = h
others-have n k (m ∷ ms) apart h = go (nat_eq k m) refl (others-have n k ms apart) h where
  here : nat_eq k m ≡ true → (b : Bool) → not (nat_eq m n) ≡ b → list_any (nat_eq k) (cond b (m ∷ others_open n ms) (others_open n ms)) ≡ true
  here e true f = ap (λ b. b || list_any (nat_eq k) (others_open n ms)) e
  here e false f = let no : false ≡ true = sym f ∙ ap (λ x. not (nat_eq x n)) (sym (eqb-true k m e)) ∙ apart in absurd cc

  more : list_any (nat_eq k) (others_open n ms) ≡ true → (b c : Bool) → list_any (nat_eq k) (cond b (m ∷ others_open n ms) (others_open n ms)) ≡ true
  more later true c = or (nat_eq k m) later where
    or : (b : Bool) → list_any (nat_eq k) (others_open n ms) ≡ true → (b || list_any (nat_eq k) (others_open n ms)) ≡ true
    or true e = refl
    or false e = e
  more later false c = later

  go : (b : Bool) → nat_eq k m ≡ b → (list_any (nat_eq k) ms ≡ true → list_any (nat_eq k) (others_open n ms) ≡ true) → (b || list_any (nat_eq k) ms) ≡ true
      → list_any (nat_eq k) (others_open n (m ∷ ms)) ≡ true
  go true e later t = here e (not (nat_eq m n)) refl
  go false e later t = more (later t) (not (nat_eq m n)) true

closing-serve : (d : Dispatcher) (n : ℕ) → 1 ≤ n → AreServedByOpen d.books
    → AreServedByOpen (record d.books { loads = tally_closed d.books.loads n; sets = sets_closed d.books.sets n })
closing-serve d n low h target k some there =
    go (place d.books.sets target) (h target) (subst (λ (o : Option ServerSet). has (unwrap_or o no_servers).members k ≡ true) (place-closed d.books.sets n target) there) where
      go : (o : Option ServerSet) → ((k : ℕ) → 1 ≤ k → has (unwrap_or o no_servers).members k ≡ true → is_open d.books.loads k ≡ true)
          → has (unwrap_or (option_map (λ (s : ServerSet). record s { members = without_member s.members n }) o) no_servers).members k ≡ true
          → list_any (nat_eq k) (others_open n d.books.loads.open_nodes) ≡ true
      go None old t = let none : has 0 k ≡ false = ap (λ b. nat_eq b 1) (bit_at-zero (k - 1)) in let no : false ≡ true = sym none ∙ t in absurd cc
      go (Some s) old t =
          let parts = and_parts (not (nat_eq k n)) (has s.members k) (sym (has-without_member s.members n k low some) ∙ t) in
          others-have n k d.books.loads.open_nodes parts.0 (old k some parts.1)

pub close-serve : (d : Dispatcher) (n : ℕ) → IsDispatcherSound d → AreServedByOpen d.books → AreServedByOpen (after_close d n).books
close-serve d n s h =
    cond_both (is_open d.books.loads n) _ d (λ (x : Dispatcher). AreServedByOpen x.books) (λ t. closing-serve d n (open-node d n s t).0 h) (λ t. h)

call-serve : (d : Dispatcher) (call : Call) → IsDispatcherSound d → IsAllowed d call → AreServedByOpen d.books → AreServedByOpen (after_call d call).books
call-serve d (First c target now) s a h = first-serve d c target now (has-open d s h)
call-serve d (Later ask now) s a h = later-serve d ask now s a h
call-serve d (Ended c now) s a h = ended-serve d c now (has-open d s h)
call-serve d (Leave c) s a h = h
call-serve d (Close n) s a h = close-serve d n s h

pub calls-serve : (d : Dispatcher) (calls : List Call) → IsDispatcherSound d → AreAllowed d calls → AreServedByOpen d.books
    → AreServedByOpen (after_calls d calls).books
calls-serve d [] s a h = h
calls-serve d (call ∷ calls) s a h = calls-serve (after_call d call) calls (call-kept d call s a.0) a.1 (call-serve d call s a.0 h)

-- ---- calls that close no node

pub first-nodes : (d : Dispatcher) (c : ℕ) (target : List ℕ) (now : Millis) → open_nodes_of (after_first d c target now) ≡ open_nodes_of d
first-nodes d c target now = cond_both (is_full d) _ _ (λ (x : Dispatcher). open_nodes_of x ≡ open_nodes_of d) (λ t. refl) (λ t. refl)

pub ended-nodes : (d : Dispatcher) (c : ℕ) (now : Millis) → open_nodes_of (after_ended d c now) ≡ open_nodes_of d
ended-nodes d c now = go d.books.line where
  go : (ws : List Waiting) → open_nodes_of (record d { books = next_admitted d.config now (released_from d.books c) ws }) ≡ open_nodes_of d
  go [] = refl
  go (w ∷ ws) = refl

shares-nodes : (cfg : Config) (ask : Ask) (now : Millis) (ps : List (List ℕ)) (b : Books)
    → (all_shared cfg ask now ps b).loads.open_nodes ≡ b.loads.open_nodes
shares-nodes cfg ask now [] b = refl
shares-nodes cfg ask now (p ∷ ps) b =
    shares-nodes cfg ask now ps (shared_with cfg b ask p now) ∙ shared-open b.loads ask.c (later_choice_at cfg b ask p).node ask.size

pub later-nodes : (d : Dispatcher) (ask : Ask) (now : Millis) → open_nodes_of (after_later d ask now) ≡ open_nodes_of d
later-nodes d ask now =
    ap (λ ns. record { all = d.config.nodes; left_open = ns }) (shares-nodes d.config ask now ask.paths (batch_over d.books ask) ∙ over-open d.books.loads ask.c)
