-- What is left to be done of all connections is at most what the bound of a journal pays for: each client that opened counts once.
use Rattle.std.proofs.Common.{◌≡◌, ◌≢◌, ◌<◌, ◌≤◌, ◌⊎◌, inl, inr, ⊎_elim, ℕ, zero, suc, ◌+◌, ◌*◌, nat_eq, Bool, true, false, cond, if◌then◌else◌, List, [], ◌∷◌, length, Option, Some, None, refl, sym, ap, ◌∙◌, arith}
use Rattle.lard_law_view.specs.Prelude.{FilesAt, Has, Machine, Rec, Station, Verdict, blocks, closes, conn, until_close, verdicts, verdicts_on, wrote}
use Rattle.lard_base.specs.declared.ids.TheConstants.ConnId.{MAX}
use Rattle.lard_block.specs.Blocks.{Piece}
use Rattle.lard_bound.specs.Bound.{bytes_both_ways, openers, requests_of, total_of}
use Rattle.lard_bound.specs.Seats.{seat_of}
use Rattle.lard_bound.specs.Units.{Whole, left_to_client, left_with, leavers, machine_units, tellers, units, units_to, whole_of}
use Rattle.lard_history.proofs.Seeing.{by_number, other_number, same_number}
use Rattle.lard_law_progress.proofs.Most.{IsModest, fewer-tellers, left-most, modest-less, staying_tellers}

-- ---- sums over numbers

abbrev sum_to : (ℕ → ℕ) → ℕ → ℕ
sum_to f zero = 0
sum_to f (suc q) = f (suc q) + sum_to f q

-- all but one
abbrev but : (ℕ → ℕ) → ℕ → ℕ → ℕ
but f c q = if nat_eq q c then 0 else f q

but-other : (f : ℕ → ℕ) (c q : ℕ) → q ≢ c → but f c q ≡ f q
but-other f c q other = ap (λ b. cond b 0 (f q)) (other_number q c other)

but-same : (f : ℕ → ℕ) (c q : ℕ) → q ≡ c → but f c q ≡ 0
but-same f c q same = ap (λ b. cond b 0 (f q)) (ap (λ i. nat_eq i c) same ∙ same_number c)

below-same : (f : ℕ → ℕ) (c q : ℕ) → q < c → sum_to (but f c) q ≡ sum_to f q
below-same f c zero low = refl
below-same f c (suc q) low =
    let one = but-other f c (suc q) (λ same. omega (arith, same, low)) in
    let rest = below-same f c q (omega (arith, low)) in omega (arith, one, rest)

one-out : (f : ℕ → ℕ) (c v q : ℕ) → f c ≤ v → sum_to f q ≤ sum_to (but f c) q + v
one-out f c v zero h = omega arith
one-out f c v (suc q) h = by_number (sum_to f (suc q) ≤ sum_to (but f c) (suc q) + v) (suc q) c
    (λ same.
    let one = but-same f c (suc q) same in
    let mine : f (suc q) ≡ f c = ap f same in
    let rest = below-same f c q (omega (arith, same)) in omega (arith, one, mine, rest, h))
    (λ other.
    let one = but-other f c (suc q) other in
    let rest = one-out f c v q h in omega (arith, one, rest))

none-sum : (f : ℕ → ℕ) (q : ℕ) → ((c : ℕ) → f c ≡ 0) → sum_to f q ≡ 0
none-sum f zero h = refl
none-sum f (suc q) h = let one = h (suc q) in let rest = none-sum f q h in omega (arith, one, rest)

-- what is nothing but for these numbers, and at most so much for each
pub sum-among : (w : ℕ → ℕ) (cs : List ℕ) (q : ℕ) (f : ℕ → ℕ) → ((c : ℕ) → (f c ≡ 0) ⊎ (Has c cs × (f c ≤ w c))) → sum_to f q ≤ total_of w cs
sum-among w [] q f h =
    let none = none-sum f q (λ c. ⊎_elim (λ (e : f c ≡ 0). e) (λ (e : Has c [] × (f c ≤ w c)). absurd e.0) (h c)) in omega (arith, none)
sum-among w (d ∷ cs) q f h =
    let few : f d ≤ w d = ⊎_elim (λ (e : f d ≡ 0). omega (arith, e)) (λ (e : Has d (d ∷ cs) × (f d ≤ w d)). e.1) (h d) in
    let rest = sum-among w cs q (but f d) (λ c. by_number ((but f d c ≡ 0) ⊎ (Has c cs × (but f d c ≤ w c))) c d
    (λ same. inl (but-same f d c same))
    (λ other.
    let is = but-other f d c other in
    ⊎_elim
    (λ (e : f c ≡ 0). inl (is ∙ e))
    (λ (e : Has c (d ∷ cs) × (f c ≤ w c)). let low = e.1 in ⊎_elim
    (λ (same : d ≡ c). absurd (other (sym same)))
    (λ (has : Has c cs). inr (has, omega (arith, is, low)))
    e.0)
    (h c))) in
    let one = one-out f d (w d) q few in omega (arith, rest, one)

-- ---- what each is worth

-- where no node leaves
none-leave : (l : ℕ → Bool) → ((n : ℕ) → l n ≡ false) → (m : ℕ) → leavers l m ≡ 0
none-leave l stays zero = refl
none-leave l stays (suc m) =
    let one : cond (l (suc m)) 1 0 ≡ 0 = ap (λ (t : Bool). cond {A = ℕ} t 1 0) (stays (suc m)) in
    let rest = none-leave l stays m in omega (arith, one, rest)

module _ (files : FilesAt) (l : ℕ → Bool) (J : List Rec) where
  -- what each client wrote, and what that is answered with; and which nodes leave
  abbrev pub wholes : ℕ → Whole
  wholes c = whole_of files l (wrote J c)

  abbrev worth : ℕ → ℕ
  worth c = bytes_both_ways files J c + 14 + 7 * requests_of J c

  total-worth : (cs : List ℕ) → total_of worth cs ≡ total_of (bytes_both_ways files J) cs + 14 * length cs + 7 * total_of (requests_of J) cs
  total-worth [] = refl
  total-worth (c ∷ cs) = let rest = total-worth cs in omega (arith, rest)

  close-few : (vs : List Verdict) → length (until_close vs) ≤ length vs
  unfolding until_close
  close-few [] = omega arith
  close-few (v ∷ vs) = go (closes v) (close-few vs) where
    go : (b : Bool) → length (until_close vs) ≤ length vs → length (v ∷ (cond b [] (until_close vs))) ≤ length (v ∷ vs)
    go true few = omega arith
    go false few = omega (arith, few)

  as-many : (ps : List Piece) → length (verdicts_on ps) ≡ length ps
  as-many [] = refl
  as-many (p ∷ ps) = ap suc (as-many ps)

  requests-few : (c : ℕ) → (wholes c).requests ≤ requests_of J c
  unfolding verdicts
  requests-few c = let few = close-few (verdicts_on (blocks (wrote J c))) in let many = as-many (blocks (wrote J c)) in omega (arith, few, many)

  -- What is known of each connection: a client is there only where it opened, and its connection is modest.
  pub record AreModest (m : Machine) : Type 0 where
    pub stays : (n : ℕ) → l n ≡ false  -- INTERIM: no node leaves yet
    pub opened : (c : ℕ) (s : Station) → (conn m c).part.station ≡ Some s → Has c (openers J)
    pub modest : (c : ℕ) (s : Station) → (conn m c).part.station ≡ Some s → IsModest (wholes c) (tellers (conn m c).part.nodes m.config.nodes) (seat_of (conn m c).part)

  module _ (m : Machine) (h : AreModest m) where
    abbrev left_of : ℕ → ℕ
    left_of c = units (wholes c) m.config.nodes (conn m c)

    each-few : (c : ℕ) → (left_of c ≡ 0) ⊎ (Has c (openers J) × (left_of c ≤ worth c))
    unfolding units
    each-few c = go (conn m c).part.station refl where
      go : (o : Option Station) → (conn m c).part.station ≡ o → (left_of c ≡ 0) ⊎ (Has c (openers J) × (left_of c ≤ worth c))
      go None at = inl (ap (left_to_client (wholes c) m.config.nodes (conn m c).part) at)
      go (Some s) at =
          let is : left_of c ≡ left_with (wholes c) m.config.nodes (conn m c).part s = ap (left_to_client (wholes c) m.config.nodes (conn m c).part) at in
          let fewer = fewer-tellers l (conn m c).part.nodes m.config.nodes in
          let most = left-most (wholes c) m.config.nodes (conn m c).part s (modest-less (wholes c) (tellers (conn m c).part.nodes m.config.nodes)
          (staying_tellers l (conn m c).part.nodes m.config.nodes) fewer (seat_of (conn m c).part) (h.modest c s at)) in
          let few = requests-few c in
          let none = none-leave l h.stays m.config.nodes in
          inr (h.opened c s at, omega (arith, is, most, few, none))

    sum-is : (q : ℕ) → units_to wholes m q ≡ sum_to left_of q
    unfolding units_to
    sum-is zero = refl
    sum-is (suc q) = ap (λ s. left_of (suc q) + s) (sum-is q)

    pub units-few : machine_units wholes m ≤ total_of (bytes_both_ways files J) (openers J) + 14 * length (openers J) + 7 * total_of (requests_of J) (openers J)
    units-few = in-all (machine_units wholes m) (sum_to left_of MAX) (total_of worth (openers J)) _ (sum-is MAX) (sum-among worth (openers J) MAX left_of each-few) (total-worth (openers J)) where
      in-all : (a b c d : ℕ) → a ≡ b → b ≤ c → c ≡ d → a ≤ d
      in-all a b c d e few f = omega (arith, e, few, f)
