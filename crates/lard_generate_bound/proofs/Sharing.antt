-- Sums over clients: what all clients' shares are together, and how much one client writes.
use Rattle.std.proofs.Common.{◌≡◌, ◌≤◌, ◌<◌, ℕ, zero, suc, ◌+◌, ◌*◌, Bool, true, false, List, [], ◌∷◌, ◌++◌, length, refl, ap, length-append, nat_eq, arith}
use Rattle.std.specs.Prelude.{if◌then◌else◌, sum_by}
use Rattle.std.proofs.lemmas.Bool.Decides.{nat_tests}
use Rattle.std.proofs.lemmas.List.Sums.{sum_by-append, sum_by-cons}
use Rattle.rand_pcg.specs.Lcg.{Lcg}
use Rattle.lard_bound.specs.Bound.{total_of}
use Rattle.lard_generate.specs.declared.action.Action.{Action}
use Rattle.lard_generate.specs.declared.action.Action.TheVariants.{Ask, Shut}
use Rattle.lard_generate.specs.Clients.{drawn_actions, drawn_ask, shut_at, bytes_written}
use Rattle.lard_generate.specs.Draws.{behind, draw, each}
use Rattle.lard_generate.proofs.Making.{sum_by-each}
use Rattle.lard_generate_bound.specs.Shares.{actor, numbers_to, share}
use Rattle.lard_generate_bound.proofs.Judged.{head-short}

-- ---- totals

-- of lists joined, of what is at most something else, of sums, of nothing
total-append : (f : ℕ → ℕ) (xs ys : List ℕ) → total_of f (xs ++ ys) ≡ total_of f xs + total_of f ys
total-append f [] ys = omega arith
total-append f (x ∷ xs) ys = omega (arith, total-append f xs ys)

pub total-most : (f g : ℕ → ℕ) (cs : List ℕ) → ((c : ℕ) → f c ≤ g c) → total_of f cs ≤ total_of g cs
total-most f g [] most = omega arith
total-most f g (c ∷ cs) most = omega (arith, most c, total-most f g cs most)

pub total-plus : (f g : ℕ → ℕ) (cs : List ℕ) → total_of (λ c. f c + g c) cs ≡ total_of f cs + total_of g cs
total-plus f g [] = omega arith
total-plus f g (c ∷ cs) = omega (arith, total-plus f g cs)

total-nothing : (cs : List ℕ) → total_of (λ c. 0) cs ≡ 0
total-nothing [] = refl
total-nothing (c ∷ cs) = omega (arith, total-nothing cs)

-- there are n numbers
pub length-numbers : (n : ℕ) → length (numbers_to n) ≡ n
length-numbers zero = refl
length-numbers (suc n) = omega (arith, length-append (numbers_to n) ((n + 1) ∷ []), length-numbers n)

-- ---- all clients' shares

-- what is of one number alone
abbrev only : ℕ → ℕ → ℕ → ℕ
only d k c = if nat_eq d c then k else 0

-- it is no more than that
chosen : (k : ℕ) (b : Bool) → (if b then k else 0) ≤ k
chosen k true = omega arith
chosen k false = omega arith

-- is counted once at most, and not before that number
counted-once : (d k n : ℕ) → (n < d → total_of (only d k) (numbers_to n) ≡ 0) × (total_of (only d k) (numbers_to n) ≤ k)
counted-once d k zero = (λ less. refl, omega arith)
counted-once d k (suc n) = go (counted-once d k n) (nat_eq d (n + 1)) refl where
  all : total_of (only d k) (numbers_to n ++ (n + 1) ∷ []) ≡ total_of (only d k) (numbers_to n) + (only d k (n + 1) + 0)
  all = total-append (only d k) (numbers_to n) ((n + 1) ∷ [])

  go : (n < d → total_of (only d k) (numbers_to n) ≡ 0) × (total_of (only d k) (numbers_to n) ≤ k) → (b : Bool) → nat_eq d (n + 1) ≡ b
      → (suc n < d → total_of (only d k) (numbers_to n ++ (n + 1) ∷ []) ≡ 0) × (total_of (only d k) (numbers_to n ++ (n + 1) ∷ []) ≤ k)
  go before true e =
      let same : d ≡ n + 1 = grind (arith, nat_tests, e) in
      let last : only d k (n + 1) ≡ k = ap (λ b. if b then k else 0) e in
      let none : total_of (only d k) (numbers_to n) ≡ 0 = before.0 (omega (arith, same)) in
      (λ less. absurd (omega (arith, less, same)), omega (arith, all, last, none))
  go before false e =
      let last : only d k (n + 1) ≡ 0 = ap (λ b. if b then k else 0) e in
      (λ less. let none : total_of (only d k) (numbers_to n) ≡ 0 = before.0 (omega (arith, less)) in omega (arith, all, last, none), omega (arith, all, last, before.1))

-- The shares of all clients are no more than the whole.
pub shares-within : (cost : Action → ℕ) (n : ℕ) (actions : List Action) → total_of (λ c. sum_by (share c cost) actions) (numbers_to n) ≤ sum_by cost actions
shares-within cost n [] = omega (arith, total-nothing (numbers_to n))
shares-within cost n (action ∷ actions) =
    let first : ℕ → ℕ = only (actor action) (cost action) in
    let others : ℕ → ℕ = λ c. sum_by (share c cost) actions in
    let split : total_of (λ c. sum_by (share c cost) (action ∷ actions)) (numbers_to n) ≤ total_of (λ c. first c + others c) (numbers_to n) =
    total-most (λ c. sum_by (share c cost) (action ∷ actions)) (λ c. first c + others c) (numbers_to n) (λ c. omega (arith, sum_by-cons (share c cost) action actions)) in
    omega (
      arith,
      split,
      total-plus first others (numbers_to n),
      (counted-once (actor action) (cost action) n).1,
      shares-within cost n actions,
      sum_by-cons cost action actions,
    )

-- ---- what one client writes

-- a request's bytes, where it is client c's
ask-share : (c d file : ℕ) → file < 256 → share c bytes_written (Ask d file) ≤ 485
ask-share c d file small = omega (arith, chosen (bytes_written (Ask d file)) (nat_eq d c), head-short file small)

-- shutting writes nothing
shut-share : (c d n : ℕ) → sum_by (share c bytes_written) (shut_at d n) ≡ 0
shut-share c d n = go (nat_eq n 0) where
  go : (b : Bool) → sum_by (share c bytes_written) (if b then [] else Shut d ∷ []) ≡ 0
  go true = refl
  go false = omega (arith, sum_by-cons (share c bytes_written) (Shut d) [], chosen 0 (nat_eq d c))

-- several requests, of which each has so many bytes at most
asks-share : (c d b n : ℕ) (g : Lcg) → ((file : ℕ) → file < 256 → share c bytes_written (Ask d file) ≤ b) → sum_by (share c bytes_written) (each (drawn_ask d) n g).0 ≤ n * b
asks-share c d b n g small =
    sum_by-each (share c bytes_written) b (drawn_ask d) n g
    (λ k h. let one : share c bytes_written (Ask d (draw 256 h)) ≤ b = small (draw 256 h) (omega arith) in omega (arith, one, sum_by-cons (share c bytes_written) (Ask d (draw 256 h)) []))

-- one client's actions
client-most : (c d : ℕ) (g : Lcg) → sum_by (share c bytes_written) (drawn_actions d g).0 ≤ 4850
client-most c d g =
    let asks = each (drawn_ask d) (1 + draw 10 g) (behind g) in
    omega (
      arith,
      sum_by-append (share c bytes_written) asks.0 (shut_at d (draw 4 asks.1)),
      asks-share c d 485 (1 + draw 10 g) (behind g) (ask-share c d),
      shut-share c d (draw 4 asks.1),
    )

-- those of another one are none of c's
client-none : (c d : ℕ) (g : Lcg) → nat_eq d c ≡ false → sum_by (share c bytes_written) (drawn_actions d g).0 ≡ 0
client-none c d g other =
    let asks = each (drawn_ask d) (1 + draw 10 g) (behind g) in
    omega (
      arith,
      sum_by-append (share c bytes_written) asks.0 (shut_at d (draw 4 asks.1)),
      asks-share c d 0 (1 + draw 10 g) (behind g) (λ file small. let none : share c bytes_written (Ask d file) ≡ 0 = ap (λ b. if b then bytes_written (Ask d file) else 0) other in omega (arith, none)),
      shut-share c d (draw 4 asks.1),
    )

-- behind the actions of others, and before them
few-further : (c n : ℕ) (front last : List Action) → (n < c → sum_by (share c bytes_written) front ≡ 0) × (sum_by (share c bytes_written) front ≤ 4850)
    → (nat_eq (n + 1) c ≡ false → sum_by (share c bytes_written) last ≡ 0) → sum_by (share c bytes_written) last ≤ 4850
    → (suc n < c → sum_by (share c bytes_written) (front ++ last) ≡ 0) × (sum_by (share c bytes_written) (front ++ last) ≤ 4850)
few-further c n front last before others most = go (nat_eq (n + 1) c) refl where
  all : sum_by (share c bytes_written) (front ++ last) ≡ sum_by (share c bytes_written) front + sum_by (share c bytes_written) last
  all = sum_by-append (share c bytes_written) front last

  go : (b : Bool) → nat_eq (n + 1) c ≡ b → (suc n < c → sum_by (share c bytes_written) (front ++ last) ≡ 0) × (sum_by (share c bytes_written) (front ++ last) ≤ 4850)
  go true e =
      let same : n + 1 ≡ c = grind (arith, nat_tests, e) in
      let none : sum_by (share c bytes_written) front ≡ 0 = before.0 (omega (arith, same)) in
      (λ less. absurd (omega (arith, less, same)), omega (arith, all, most, none))
  go false e =
      let nothing : sum_by (share c bytes_written) last ≡ 0 = others e in
      (λ less. let none : sum_by (share c bytes_written) front ≡ 0 = before.0 (omega (arith, less)) in omega (arith, all, none, nothing), omega (arith, all, before.1, nothing))

-- Client c writes no more than its own ten requests.
pub writes-few : (c n : ℕ) (g : Lcg) → (n < c → sum_by (share c bytes_written) (each drawn_actions n g).0 ≡ 0) × (sum_by (share c bytes_written) (each drawn_actions n g).0 ≤ 4850)
unfolding each
writes-few c zero g = (λ less. refl, omega arith)
writes-few c (suc n) g =
    let before = each drawn_actions n g in
    few-further c n before.0 (drawn_actions (n + 1) before.1).0 (writes-few c n g) (client-none c (n + 1) before.1) (client-most c (n + 1) before.1)
