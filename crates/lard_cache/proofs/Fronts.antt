-- The longest front within two bounds.
use Rattle.std.proofs.Common.{unwrap_or, ◌≡◌, ℕ, zero, suc, ◌+◌, ◌-◌, ◌≤◌, Bool, true, false, ◌&&◌, ◌||◌, nat_lt, nat_le, List, [], ◌∷◌, length, take, Option, Some, None, is_some, cond, refl, ap, ◌∙◌, arith}
use Rattle.std.proofs.lemmas.Bool.{cond_both, cond-true, cond-false, and_parts, ltb-true, leb-true, ltb-false, le-leb, lt-ltb, le-ltb}
use Rattle.std.proofs.lemmas.Slice.Eq.{bytes_eq-Decides}
use Rattle.std.specs.Map.{remove_entry}
use Rattle.std.specs.Str.{bytes_eq}
use Rattle.lard_cache.specs.declared.cache.TheConstants.{MAX_CACHED_PATHS}
use Rattle.lard_cache.specs.Recency.{Recency, is_over, size_at, has_path, total, in_front, brought_forward, after_hit, front_within, after_put}
use Rattle.lard_cache.specs.Laws.{IsWithinCapacity, IsLongestFront, EvictsFromTheEnd, KeepsWhatIsPut, IsBounded, StaysWithinItsBounds}
use Rattle.lard_cache.proofs.Entries.{total-remove, length-remove}

abbrev Pairs : Type 0
Pairs = List (List ℕ × ℕ)

-- the first path stays
abbrev first_stays : ℕ → ℕ → ℕ → Bool
first_stays paths bytes size = nat_lt 0 paths && nat_le size bytes

-- exactly where it is within the bounds by itself
first-within : (paths bytes size : ℕ) → first_stays paths bytes size ≡ true → (1 ≤ paths) × (size ≤ bytes)
first-within paths bytes size h =
    let t : (nat_lt 0 paths ≡ true) × (nat_le size bytes ≡ true) = and_parts (nat_lt 0 paths) (nat_le size bytes) h in
    (ltb-true 0 paths t.0, leb-true size bytes t.1)

first-stays : (paths bytes size : ℕ) → 1 ≤ paths → size ≤ bytes → first_stays paths bytes size ≡ true
first-stays paths bytes size p b = ap (λ (t : Bool). t && nat_le size bytes) (lt-ltb 0 paths p) ∙ le-leb size bytes b

-- all stay where they are within the bounds
pub all-stay : (paths bytes : ℕ) (es : Pairs) → IsWithinCapacity paths bytes es → front_within paths bytes es ≡ es
all-stay paths bytes [] h = refl
all-stay paths bytes (e ∷ es) h =
    cond-true (first_stays paths bytes e.1) _ _ (first-stays paths bytes e.1 (omega (arith, h.0)) (omega (arith, h.1)))
    ∙ ap (λ (xs : Pairs). e ∷ xs) (all-stay (paths - 1) (bytes - e.1) es (omega (arith, h.0), omega (arith, h.1)))

-- where they are not, the last does not
pub last-drops : (paths bytes : ℕ) (es : Pairs) (m : ℕ) → length es ≡ suc m → (IsWithinCapacity paths bytes es → ⊥) → front_within paths bytes (take m es) ≡ front_within paths bytes es
last-drops paths bytes [] m n h = absurd (omega (arith, n))
last-drops paths bytes (e ∷ es) zero n h = go (first_stays paths bytes e.1) refl where
  go : (b : Bool) → first_stays paths bytes e.1 ≡ b → [] ≡ cond b (e ∷ front_within (paths - 1) (bytes - e.1) es) []
  go false is = refl
  go true is =
      let w : (1 ≤ paths) × (e.1 ≤ bytes) = first-within paths bytes e.1 is in
      absurd (h (omega (arith, n, w.0), none es (omega (arith, n)) w.1)) where
        none : (xs : Pairs) → length xs ≡ 0 → e.1 ≤ bytes → e.1 + total xs ≤ bytes
        none [] z b = omega (arith, b)
        none (x ∷ xs) z b = absurd (omega (arith, z))
last-drops paths bytes (e ∷ es) (suc m) n h = go (last-drops (paths - 1) (bytes - e.1) es m (omega (arith, n))) (first_stays paths bytes e.1) refl where
  go : ((IsWithinCapacity (paths - 1) (bytes - e.1) es → ⊥) → front_within (paths - 1) (bytes - e.1) (take m es) ≡ front_within (paths - 1) (bytes - e.1) es)
      → (b : Bool) → first_stays paths bytes e.1 ≡ b
      → cond b (e ∷ front_within (paths - 1) (bytes - e.1) (take m es)) [] ≡ cond b (e ∷ front_within (paths - 1) (bytes - e.1) es) []
  go more false is = refl
  go more true is =
      let w : (1 ≤ paths) × (e.1 ≤ bytes) = first-within paths bytes e.1 is in
      ap (λ (xs : Pairs). e ∷ xs) (more (λ (i : IsWithinCapacity (paths - 1) (bytes - e.1) es). h (omega (arith, i.0, w.0), omega (arith, i.1, w.1))))

-- what stays is the longest front within the bounds
pub longest : EvictsFromTheEnd
longest paths bytes [] = record { front = refl; within = (omega arith, omega arith); longest = λ m le w. le }
longest paths bytes (e ∷ es) = go (longest (paths - 1) (bytes - e.1) es) (first_stays paths bytes e.1) refl where
  go : IsLongestFront (paths - 1) (bytes - e.1) es (front_within (paths - 1) (bytes - e.1) es)
      → (b : Bool) → first_stays paths bytes e.1 ≡ b
      → IsLongestFront paths bytes (e ∷ es) (cond b (e ∷ front_within (paths - 1) (bytes - e.1) es) [])
  go more true is =
      let w : (1 ≤ paths) × (e.1 ≤ bytes) = first-within paths bytes e.1 is in
      record {
        front = ap (λ (xs : Pairs). e ∷ xs) more.front;
        within = (omega (arith, more.within.0, w.0), omega (arith, more.within.1, w.1));
        longest = reach more;
      } where
        reach : IsLongestFront (paths - 1) (bytes - e.1) es (front_within (paths - 1) (bytes - e.1) es)
            → (m : ℕ) → m ≤ length (e ∷ es) → IsWithinCapacity paths bytes (take m (e ∷ es)) → m ≤ suc (length (front_within (paths - 1) (bytes - e.1) es))
        reach more zero le w = omega arith
        reach more (suc m) le w = let r : m ≤ length (front_within (paths - 1) (bytes - e.1) es) = more.longest m (omega (arith, le)) (omega (arith, w.0), omega (arith, w.1)) in omega (arith, r)
  go more false is = record { front = refl; within = (omega arith, omega arith); longest = stop } where
    stop : (m : ℕ) → m ≤ length (e ∷ es) → IsWithinCapacity paths bytes (take m (e ∷ es)) → m ≤ 0
    stop zero le w = omega arith
    stop (suc m) le w = cc (first-stays paths bytes e.1 (omega (arith, w.0)) (omega (arith, w.1)), is)

-- a path in front is found
front-found : (paths bytes : ℕ) (path : List ℕ) (size : ℕ) (es : Pairs) → 1 ≤ paths → size ≤ bytes → has_path (front_within paths bytes ((path, size) ∷ es)) path ≡ true
front-found paths bytes path size es p b =
    ap (λ (xs : Pairs). has_path xs path) (cond-true (first_stays paths bytes size) _ _ (first-stays paths bytes size p b))
    ∙ ap (λ (t : Bool). is_some (cond {A = Option ℕ} t (Some size) (size_at (front_within (paths - 1) (bytes - size) es) path))) ((bytes_eq-Decides path path).1 refl)

pub put-found : KeepsWhatIsPut
put-found c path size le =
    ap (λ (x : Recency). has_path x.entries path) (cond-false (nat_lt c.limit size) _ _ (le-ltb c.limit size le))
    ∙ front-found MAX_CACHED_PATHS c.limit path size _ (omega arith) le

-- a hit moves a path, and no more
pub record IsMoved (old new : Pairs) : Type 0 where
  pub total_stays : total new ≡ total old
  pub count_stays : length new ≡ length old

pub hit-moves : (es : Pairs) (path : List ℕ) → IsMoved es (after_hit es path)
hit-moves es path = go (size_at es path) refl where
  go : (o : Option ℕ) → size_at es path ≡ o → IsMoved es (brought_forward es path o)
  go None h = record { total_stays = refl; count_stays = refl }
  go (Some size) h =
      let t : unwrap_or (size_at es path) 0 + total (remove_entry (bytes_eq path) es) ≡ total es = total-remove es path in
      let s : unwrap_or (size_at es path) 0 ≡ size = ap (λ (o : Option ℕ). unwrap_or o 0) h in
      record { total_stays = omega (arith, t, s); count_stays = length-remove es path size h }

put-within : (c : Recency) (path : List ℕ) (size : ℕ) → IsBounded c → IsBounded (after_put c path size)
put-within c path size w = cond_both (nat_lt c.limit size) c _ IsBounded (λ _. w) (λ _. (longest MAX_CACHED_PATHS c.limit (in_front c.entries path size)).within)

pub stays-within : StaysWithinItsBounds
stays-within c path size w =
    let m : IsMoved c.entries (after_hit c.entries path) = hit-moves c.entries path in
    ((omega (arith, m.count_stays, w.0), omega (arith, m.total_stays, w.1)), put-within c path size w)

-- the code's test is that of the bounds
pub over-not : (count bytes limit : ℕ) → is_over count bytes limit ≡ true → (count ≤ MAX_CACHED_PATHS) × (bytes ≤ limit) → ⊥
over-not count bytes limit h w = go (nat_lt MAX_CACHED_PATHS count) (nat_lt limit bytes) (le-ltb MAX_CACHED_PATHS count w.0) (le-ltb limit bytes w.1) h where
  go : (a b : Bool) → a ≡ false → b ≡ false → (a || b) ≡ true → ⊥
  go true b p q e = cc
  go false true p q e = cc
  go false false p q e = cc

pub over-within : (count bytes limit : ℕ) → is_over count bytes limit ≡ false → (count ≤ MAX_CACHED_PATHS) × (bytes ≤ limit)
over-within count bytes limit h = go (nat_lt MAX_CACHED_PATHS count) (nat_lt limit bytes) refl refl h where
  go : (a b : Bool) → nat_lt MAX_CACHED_PATHS count ≡ a → nat_lt limit bytes ≡ b → (a || b) ≡ false → (count ≤ MAX_CACHED_PATHS) × (bytes ≤ limit)
  go true b p q e = cc
  go false true p q e = cc
  go false false p q e = (ltb-false MAX_CACHED_PATHS count p, ltb-false limit bytes q)
