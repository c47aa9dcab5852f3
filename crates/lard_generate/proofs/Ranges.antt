-- How large the parts of a generated schedule are.
use Rattle.std.proofs.Common.{◌≡◌, ℕ, ◌+◌, ◌*◌, ◌<◌, ◌≤◌, ◌^◌, Bool, true, false, List, [], ◌∷◌, length, All, refl, sym, ap, ◌∙◌, subst, length-append, arith}
use Rattle.std.specs.Prelude.{sum_by, nat_eq, decimal, slice_index, if◌then◌else◌}
use Rattle.std.proofs.lemmas.Fmt.{length-decimal-le}
use Rattle.std.proofs.lemmas.List.Elements.{All-nil, All-cons, All-append, All-get_or}
use Rattle.std.proofs.lemmas.List.Sums.{sum_by-append}
use Rattle.rand_pcg.specs.Lcg.{Lcg}
use Rattle.lard_generate.specs.declared.action.Action.{Action}
use Rattle.lard_generate.specs.declared.action.Action.TheVariants.{Ask, Shut}
use Rattle.lard_generate.specs.Clients.{drawn_actions, drawn_ask, fields, request_head, rounds, shut_at}
use Rattle.lard_generate.specs.Draws.{behind, draw, each}
use Rattle.lard_generate.specs.Files.{drawn_size}
use Rattle.lard_generate.specs.Rounds.{AsksForFile, action_cost}
use Rattle.lard_generate.proofs.Costs.{rounds_by_cost}
use Rattle.lard_generate.proofs.Making.{All-each, sum_by-each, length-each}

-- ---- sizes

pub length-sizes : (g : Lcg) → length (each drawn_size 256 g).0 ≡ 256
length-sizes g = length-each drawn_size 256 g (λ k h. refl)

abbrev pub IsSmall : ℕ → Type 0
IsSmall size = size ≤ 8192

pub sizes_small : (g : Lcg) → All IsSmall (each drawn_size 256 g).0
sizes_small g = All-each IsSmall drawn_size 256 g (λ k h low high. All-cons IsSmall (1 + draw 8192 h) [] (omega arith) (All-nil IsSmall))

-- the sizes that a call drew
pub count_is : (g h : Lcg) (sizes : List ℕ) → each drawn_size 256 g ≡ (sizes, h) → length sizes ≡ 256
count_is g h sizes e = ap (λ made. length made.0) (sym e) ∙ length-sizes g

pub small_is : (g h : Lcg) (sizes : List ℕ) → each drawn_size 256 g ≡ (sizes, h) → All IsSmall sizes
small_is g h sizes e = subst (λ made. All IsSmall made.0) e (sizes_small g)

-- ---- actions

shuts_anyhow : (c n : ℕ) → All AsksForFile (shut_at c n)
shuts_anyhow c n = go (nat_eq n 0) where
  go : (b : Bool) → All AsksForFile (if b then [] else Shut c ∷ [])
  go true = All-nil AsksForFile
  go false = All-cons AsksForFile (Shut c) [] tt (All-nil AsksForFile)

asks_below : (c n : ℕ) (g : Lcg) → All AsksForFile (each (drawn_ask c) n g).0
asks_below c n g = All-each AsksForFile (drawn_ask c) n g (λ k h low high. All-cons AsksForFile (Ask c (draw 256 h)) [] (omega arith) (All-nil AsksForFile))

actions_below : (clients : ℕ) (g : Lcg) → All AsksForFile (each drawn_actions clients g).0
actions_below clients g =
    All-each AsksForFile drawn_actions clients g (λ c h low high.
    let asks = each (drawn_ask c) (1 + draw 10 h) (behind h) in
    All-append AsksForFile asks.0 (shut_at c (draw 4 asks.1)) (asks_below c (1 + draw 10 h) (behind h)) (shuts_anyhow c (draw 4 asks.1)))

-- the actions that a call drew
pub actions_are_below : (clients : ℕ) (g h : Lcg) (actions : List Action) → each drawn_actions clients g ≡ (actions, h) → All AsksForFile actions
actions_are_below clients g h actions e = subst (λ made. All AsksForFile made.0) e (actions_below clients g)

-- ---- rounds

length-fields : length fields ≡ 476
unfolding fields
length-fields = refl

length-head_of : (file : ℕ) → file < 256 → length (request_head file) ≤ 485
length-head_of file small = omega (arith, length-append (decimal file) fields, length-decimal-le 3 file (omega arith) (omega arith) (omega arith), length-fields)

-- what a request takes at most
abbrev most : ℕ
most = 64 + 16 * (485 + 8192 + 37 + 4)

ask_cost : (sizes : List ℕ) (c file : ℕ) → length sizes ≡ 256 → All IsSmall sizes → file < 256 → action_cost sizes (Ask c file) ≤ most
ask_cost sizes c file count small below =
    let size : slice_index sizes file ≤ 8192 = All-get_or IsSmall sizes file 0 (omega arith) small in
    omega (arith, size, length-head_of file below, length-decimal-le 4 (slice_index sizes file) (omega arith) (omega arith) (omega arith))

shut_cost : (sizes : List ℕ) (c n : ℕ) → sum_by (action_cost sizes) (shut_at c n) ≡ 0
shut_cost sizes c n = go (nat_eq n 0) where
  go : (b : Bool) → sum_by (action_cost sizes) (if b then [] else Shut c ∷ []) ≡ 0
  go true = refl
  go false = refl

asks_cost : (sizes : List ℕ) (c n : ℕ) (g : Lcg) → length sizes ≡ 256 → All IsSmall sizes → sum_by (action_cost sizes) (each (drawn_ask c) n g).0 ≤ n * most
asks_cost sizes c n g count small =
    sum_by-each (action_cost sizes) most (drawn_ask c) n g (λ k h. omega (arith, ask_cost sizes c (draw 256 h) count small (omega arith)))

actions_cost : (sizes : List ℕ) (c : ℕ) (g : Lcg) → length sizes ≡ 256 → All IsSmall sizes → sum_by (action_cost sizes) (drawn_actions c g).0 ≤ 10 * most
actions_cost sizes c g count small =
    let asks = each (drawn_ask c) (1 + draw 10 g) (behind g) in
    omega (
      arith,
      sum_by-append (action_cost sizes) asks.0 (shut_at c (draw 4 asks.1)),
      asks_cost sizes c (1 + draw 10 g) (behind g) count small,
      shut_cost sizes c (draw 4 asks.1),
    )

-- the rounds of 2,000 clients fit 32 bits
rounds_fit : (clients : ℕ) (sizes : List ℕ) (g : Lcg) → clients ≤ 2000 → length sizes ≡ 256 → All IsSmall sizes
    → rounds clients sizes (each drawn_actions clients g).0 < 2 ^ 32
rounds_fit clients sizes g few count small =
    omega (
      arith,
      rounds_by_cost clients sizes (each drawn_actions clients g).0,
      sum_by-each (action_cost sizes) (10 * most) drawn_actions clients g (λ c h. actions_cost sizes c h count small),
    )

pub rounds_are_fit : (clients : ℕ) (g h i j : Lcg) (sizes : List ℕ) (actions : List Action) → clients ≤ 2000
    → each drawn_size 256 g ≡ (sizes, h) → each drawn_actions clients i ≡ (actions, j) → rounds clients sizes actions < 2 ^ 32
rounds_are_fit clients g h i j sizes actions few d e =
    subst (λ made. rounds clients sizes made.0 < 2 ^ 32) e (rounds_fit clients sizes i few (count_is g h sizes d) (small_is g h sizes d))
