-- What nodes bear before anything is assigned and behind one assignment, and which nodes are chosen then, where node 1 is closed, too.
use Rattle.std.proofs.Common.{◌≡◌, ◌+◌, ℕ, nat_eq, cond, [], ◌∷◌, ◌++◌, length, length-append, sum_by, Option, Some, None, refl, ap, ◌∙◌, arith}
use Rattle.std.specs.FinMap.{get-empty}
use Rattle.std.specs.FinMap as map
use Rattle.std.specs.Ordering.{nat_cmp}
use Rattle.lard_law_view.specs.Prelude.{Connect, FirstChoice, Millis, Standing, Tally, charges_from, connected, first_choice, home, home_of, later_choice, least_node, load, node_numbers, open_shares, shared, shares_of, sharing, tally_closed, tally_start, units_at}
use Rattle.lard_loads.proofs.Charged.{all_charged}
use Rattle.lard_refusals.specs.Refusals.{three_nodes}
use Rattle.lard_table.proofs.Map.{get_inserted, get_other}

-- ---- before anything

pub no-load : (n : ℕ) → load (tally_start 3) n ≡ 0
no-load n = (all_charged 3 [] tt).loads n

pub least-of-none : least_node (tally_start 3) ≡ 1
least-of-none = rw (no-load 1, no-load 2, no-load 3, no-load 2) refl

-- a node is chosen, and joins the set
abbrev joins : ℕ → FirstChoice
joins n = record { node = n; add = Some n; remove = None }

-- a path without a set goes to the lowest number
pub first-of-none : (now modified : Millis) → first_choice (tally_start 3) 0 now modified three_nodes ≡ record { node = 1; add = Some 1; remove = None }
unfolding first_choice
first-of-none now modified = ap joins least-of-none

-- a share of a connection that is not there changes nothing
pub none-shares : shared (tally_start 3) 1 2 2 ≡ tally_start 3
none-shares = ap (sharing (tally_start 3) 1 2 2) (get-empty nat_cmp 1)

-- ---- where node 1 is closed

abbrev pub one_closed : Tally
one_closed = tally_closed (tally_start 3) 1

-- it goes to the next number
pub first-of-open : (now modified : Millis) → first_choice one_closed 0 now modified three_nodes ≡ record { node = 2; add = Some 2; remove = None }
unfolding first_choice
first-of-open now modified = ap joins least-of-open where
  least-of-open : least_node one_closed ≡ 2
  least-of-open = rw (no-load 2, no-load 3) refl

-- ---- behind the assignment of connection 1 to node 1

abbrev pub at_home : Standing
at_home = record { home = 1; shares = [] }

abbrev pub one_at_home : Tally
one_at_home = connected (tally_start 3) 1 1

pub is-there : map.get one_at_home.standings 1 ≡ Some at_home
is-there = get_inserted map.empty 1 at_home

pub its-home : home one_at_home 1 ≡ Some 1
its-home = ap home_of is-there

pub second-has-none : home one_at_home 2 ≡ None
second-has-none = ap home_of (get_other map.empty 1 2 at_home (λ (e : 2 ≡ 1). omega arith) ∙ get-empty nat_cmp 2)

its-charges : (n : ℕ) → load one_at_home n ≡ sum_by (units_at n) (charges_from [] (Connect 1 1 ∷ []))
its-charges n = (all_charged 3 (Connect 1 1 ∷ []) (((omega arith, omega arith), get-empty nat_cmp 1, omega arith, omega arith), tt)).loads n

pub its-load : load one_at_home 1 ≡ 840
its-load = its-charges 1

-- its node is at `high`, and another request for its path goes there
pub second-first : first_choice one_at_home 1 (record { 0 = 0 }) (record { 0 = 0 }) three_nodes ≡ record { node = 1; add = None; remove = None }
unfolding first_choice node_numbers
second-first = rw its-load refl

-- so does a later one
pub later-stays : later_choice one_at_home 1 1 0 three_nodes ≡ record { node = 1; add = None }
unfolding later_choice
later-stays = refl

-- where its node is closed, another request goes to the next number, and a later one stays and joins nothing
abbrev pub home_closed : Tally
home_closed = tally_closed one_at_home 1

pub second-leaves : (now modified : Millis) → first_choice home_closed 0 now modified three_nodes ≡ record { node = 2; add = Some 2; remove = None }
unfolding first_choice
second-leaves now modified = ap joins least-of-open where
  none-at : (n : ℕ) → sum_by (units_at n) (charges_from [] (Connect 1 1 ∷ [])) ≡ 0 → load one_at_home n ≡ 0
  none-at n none = its-charges n ∙ none

  least-of-open : least_node home_closed ≡ 2
  least-of-open = rw (none-at 2 refl, none-at 3 refl) refl

pub later-stays-there : later_choice home_closed 1 0 0 three_nodes ≡ record { node = 1; add = None }
unfolding later_choice
later-stays-there = refl

-- a share at node 2 is open
pub share-is-open : open_shares (shared one_at_home 1 2 2) 1 ≡ 1
share-is-open =
    ap (λ (o : Option Standing). open_shares (sharing one_at_home 1 2 2 o) 1) is-there
    ∙ ap (λ (o : Option Standing). length (shares_of o)) (get_inserted one_at_home.standings 1 (record at_home { shares = record { node = 2; units = 420 } ∷ [] }))

-- So many shares of connection 1, which is at node 1, are open.
record Opens (t : Tally) (n : ℕ) : Type 0 where
  standing : Standing
  there : map.get t.standings 1 ≡ Some standing
  home_is : standing.home ≡ 1
  many : length standing.shares ≡ n

-- one more behind a request at node 2
abbrev more : Tally → Tally
more t = shared t 1 2 2

opens-more : (t : Tally) (n : ℕ) → Opens t n → Opens (more t) (n + 1)
opens-more t n o =
    let s : Standing = o.standing in
    let next : Standing = record s { shares = s.shares ++ record { node = 2; units = 420 } ∷ [] } in
    record {
      standing = next;
      there =
          ap (λ (p : Option Standing). map.get (sharing t 1 2 2 p).standings 1) o.there
          ∙ ap (λ (h : ℕ). map.get (cond (nat_eq 2 h) t (record t { standings = map.insert t.standings 1 next })).standings 1) o.home_is
          ∙ get_inserted t.standings 1 next;
      home_is = o.home_is;
      many = length-append s.shares (record { node = 2; units = 420 } ∷ []) ∙ ap (λ (i : ℕ). i + 1) o.many;
    }

-- behind eight there are eight
pub eight-shares-are-open : open_shares (more (more (more (more (more (more (more (more one_at_home)))))))) 1 ≡ 8
eight-shares-are-open =
    let none : Opens one_at_home 0 = record { standing = at_home; there = is-there; home_is = refl; many = refl } in
    let two = opens-more _ _ (opens-more _ _ none) in
    let four = opens-more _ _ (opens-more _ _ two) in
    let six = opens-more _ _ (opens-more _ _ four) in
    let eight = opens-more _ _ (opens-more _ _ six) in
    ap (λ (o : Option Standing). length (shares_of o)) eight.there ∙ eight.many

-- before that no share was
pub no-share-is-open : open_shares one_at_home 1 ≡ 0
no-share-is-open = ap (λ (o : Option Standing). length (shares_of o)) is-there
