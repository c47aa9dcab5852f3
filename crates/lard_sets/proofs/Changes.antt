-- What a look-up finds after a call, and after any number of them.
use Rattle.std.proofs.Common.{◌≡◌, ◌≤◌, ◌-◌, ℕ, Bool, true, false, ◌&&◌, ◌||◌, not, nat_eq, List, [], ◌∷◌, Option, Some, None, is_some, unwrap_or, option_map, cond, refl, sym, ap, ◌∙◌}
use Rattle.std.proofs.lemmas.Slice.Eq.{bytes_eq-Decides}
use Rattle.std.specs.Str.{bytes_eq}
use Rattle.std.proofs.lemmas.Nat.Bits.{bit_at-zero}
use Rattle.lard_base.specs.declared.ids.Millis.{Millis}
use Rattle.lard_base.specs.Members.{has}
use Rattle.lard_sets.specs.declared.sets.ServerSet.{ServerSet}
use Rattle.lard_sets.specs.Sets.{no_servers, place, has_place, set_of, put, touched, added, removed, sets_closed, with_member, without_member}
use Rattle.lard_sets.specs.Laws.{SetCall, sets_after_calls, NameNodes, serves_after, serves_after_all, LastCallDecides, changed, RemoveKept, TellsTheLastChange}
use Rattle.lard_sets.specs.Laws.SetCall.{Touch, Add, Remove, Close}
use Rattle.lard_sets.proofs.Flags.{has-with_member, has-without_member}

-- a target is compared alike with equal targets
alike : (t u v : List ℕ) → bytes_eq u v ≡ true → bytes_eq t u ≡ bytes_eq t v
alike t u v e = ap (bytes_eq t) ((bytes_eq-Decides u v).0 e)

-- what is put is found at its target, and every other target has what it had
pub place-put : (sets : List (List ℕ × ServerSet)) (u t : List ℕ) (s : ServerSet) → place (put sets u s) t ≡ cond (bytes_eq t u) (Some s) (place sets t)
place-put [] u t s = refl
place-put (e ∷ es) u t s = go (place-put es u t s) (bytes_eq u e.0) refl (bytes_eq t u) refl where
  go : place (put es u s) t ≡ cond (bytes_eq t u) (Some s) (place es t) → (b : Bool) → bytes_eq u e.0 ≡ b → (a : Bool) → bytes_eq t u ≡ a
      → place (cond b ((e.0, s) ∷ es) (e ∷ put es u s)) t ≡ cond a (Some s) (cond (bytes_eq t e.0) (Some e.1) (place es t))
  go more true is true at = ap (λ x. cond {A = Option ServerSet} x (Some s) (place es t)) (sym (alike t u e.0 is) ∙ at)
  go more true is false at =
      let not_here : bytes_eq t e.0 ≡ false = sym (alike t u e.0 is) ∙ at in
      ap (λ x. cond {A = Option ServerSet} x (Some s) (place es t)) not_here ∙ sym (ap (λ x. cond {A = Option ServerSet} x (Some e.1) (place es t)) not_here)
  go more false is true at =
      let same : t ≡ u = (bytes_eq-Decides t u).0 at in
      let not_here : bytes_eq t e.0 ≡ false = ap (λ x. bytes_eq x e.0) same ∙ is in
      ap (λ x. cond {A = Option ServerSet} x (Some e.1) (place (put es u s) t)) not_here ∙ more ∙ ap (λ x. cond {A = Option ServerSet} x (Some s) (place es t)) at
  go more false is false at =
      ap (λ o. cond {A = Option ServerSet} (bytes_eq t e.0) (Some e.1) o) (more ∙ ap (λ x. cond {A = Option ServerSet} x (Some s) (place es t)) at)

-- a node that is taken out of every set is taken out of the one that is found
pub place-closed : (sets : List (List ℕ × ServerSet)) (n : ℕ) (t : List ℕ)
    → place (sets_closed sets n) t ≡ option_map (λ (s : ServerSet). record s { members = without_member s.members n }) (place sets t)
place-closed [] n t = refl
place-closed (e ∷ es) n t = go (place-closed es n t) (bytes_eq t e.0) where
  go : place (sets_closed es n) t ≡ option_map (λ (s : ServerSet). record s { members = without_member s.members n }) (place es t)
      → (b : Bool) → cond {A = Option ServerSet} b (Some (record e.1 { members = without_member e.1.members n })) (place (sets_closed es n) t)
      ≡ option_map (λ (s : ServerSet). record s { members = without_member s.members n }) (cond b (Some e.1) (place es t))
  go more true = refl
  go more false = more

-- the set of a target after another, or its own, is put
set_of-put : (sets : List (List ℕ × ServerSet)) (u t : List ℕ) (s : ServerSet) → set_of (put sets u s) t ≡ cond (bytes_eq t u) s (set_of sets t)
set_of-put sets u t s = ap (λ o. unwrap_or o no_servers) (place-put sets u t s) ∙ go (bytes_eq t u) where
  go : (b : Bool) → unwrap_or (cond b (Some s) (place sets t)) no_servers ≡ cond b s (set_of sets t)
  go true = refl
  go false = refl

-- a place that is put anew with what was there
set_of-touched : (sets : List (List ℕ × ServerSet)) (u t : List ℕ) → set_of (touched sets u) t ≡ set_of sets t
set_of-touched sets u t = set_of-put sets u t (set_of sets u) ∙ go (bytes_eq t u) refl where
  go : (b : Bool) → bytes_eq t u ≡ b → cond b (set_of sets u) (set_of sets t) ≡ set_of sets t
  go true e = ap (set_of sets) (sym ((bytes_eq-Decides t u).0 e))
  go false e = refl

-- nobody is a member of the empty set
has-none : (k : ℕ) → has 0 k ≡ false
has-none k = ap (λ b. nat_eq b 1) (bit_at-zero (k - 1))

-- who serves a target after one of the calls
module _ (sets : List (List ℕ × ServerSet)) (t : List ℕ) (k : ℕ) (h : 1 ≤ k) where
  serves-added : (u : List ℕ) (n : ℕ) (now : Millis) → 1 ≤ n → has (set_of (added sets u n now) t).members k ≡ serves_after t k (has (set_of sets t).members k) (Add u n now)
  serves-added u n now some = ap (λ s. has s.members k) (set_of-put sets u t (record { members = with_member (set_of sets u).members n; modified = now })) ∙ go (bytes_eq t u) refl where
    new : ServerSet
    new = record { members = with_member (set_of sets u).members n; modified = now }

    at_own : (b : Bool) → (b || has (set_of sets t).members k) ≡ cond b true (has (set_of sets t).members k)
    at_own true = refl
    at_own false = refl

    go : (b : Bool) → bytes_eq t u ≡ b → has (cond b new (set_of sets t)).members k ≡ cond (b && nat_eq k n) true (has (set_of sets t).members k)
    go true e =
        ap (λ x. has (with_member (set_of sets x).members n) k) (sym ((bytes_eq-Decides t u).0 e)) ∙ has-with_member (set_of sets t).members n k some h ∙ at_own (nat_eq k n)
    go false e = refl

  serves-removed : (u : List ℕ) (n : ℕ) (now : Millis) → 1 ≤ n → has (set_of (removed sets u n now) t).members k ≡ serves_after t k (has (set_of sets t).members k) (Remove u n now)
  serves-removed u n now some = kept (place sets u) refl where
    new : ServerSet
    new = record { members = without_member (set_of sets u).members n; modified = now }

    at_own : (b : Bool) → (not b && has (set_of sets t).members k) ≡ cond b false (has (set_of sets t).members k)
    at_own true = refl
    at_own false = refl

    go : (b : Bool) → bytes_eq t u ≡ b → has (cond b new (set_of sets t)).members k ≡ cond (b && nat_eq k n) false (has (set_of sets t).members k)
    go true e =
        ap (λ x. has (without_member (set_of sets x).members n) k) (sym ((bytes_eq-Decides t u).0 e)) ∙ has-without_member (set_of sets t).members n k some h ∙ at_own (nat_eq k n)
    go false e = refl

    -- where no place is kept nobody serves it, before and after
    nobody : (b : Bool) → bytes_eq t u ≡ b → place sets u ≡ None → has (set_of sets t).members k ≡ cond (b && nat_eq k n) false (has (set_of sets t).members k)
    nobody false e none = refl
    nobody true e none =
        let empty : has (set_of sets t).members k ≡ false =
        ap (λ x. has (set_of sets x).members k) ((bytes_eq-Decides t u).0 e) ∙ ap (λ o. has (unwrap_or o no_servers).members k) none ∙ has-none k in
        by (nat_eq k n) empty where
          by : (b : Bool) → has (set_of sets t).members k ≡ false → has (set_of sets t).members k ≡ cond b false (has (set_of sets t).members k)
          by true empty = empty
          by false empty = refl

    kept : (o : Option ServerSet) → place sets u ≡ o → has (set_of (cond (is_some o) (put sets u new) sets) t).members k ≡ cond (bytes_eq t u && nat_eq k n) false (has (set_of sets t).members k)
    kept (Some s) e = ap (λ s. has s.members k) (set_of-put sets u t new) ∙ go (bytes_eq t u) refl
    kept None e = nobody (bytes_eq t u) refl e

  serves-closed : (n : ℕ) → 1 ≤ n → has (set_of (sets_closed sets n) t).members k ≡ serves_after t k (has (set_of sets t).members k) (Close n)
  serves-closed n some = ap (λ o. has (unwrap_or o no_servers).members k) (place-closed sets n t) ∙ go (place sets t) where
    by : (b c : Bool) → (not b && c) ≡ cond b false c
    by true c = refl
    by false c = refl

    none : (b : Bool) → has 0 k ≡ cond b false (has 0 k)
    none true = has-none k
    none false = refl

    go : (o : Option ServerSet) → has (unwrap_or (option_map (λ (s : ServerSet). record s { members = without_member s.members n }) o) no_servers).members k
        ≡ cond (nat_eq k n) false (has (unwrap_or o no_servers).members k)
    go (Some s) = has-without_member s.members n k some h ∙ by (nat_eq k n) (has s.members k)
    go None = none (nat_eq k n)

-- the last call decides, whatever the sets were
decides : (calls : List SetCall) (sets : List (List ℕ × ServerSet)) (t : List ℕ) (k : ℕ) → 1 ≤ k → NameNodes calls
    → has (set_of (sets_after_calls sets calls) t).members k ≡ serves_after_all t k (has (set_of sets t).members k) calls
decides [] sets t k h all = refl
decides (Touch u ∷ calls) sets t k h all = decides calls (touched sets u) t k h all ∙ ap (λ (s : ServerSet). serves_after_all t k (has s.members k) calls) (set_of-touched sets u t)
decides (Add u n now ∷ calls) sets t k h all = decides calls (added sets u n now) t k h all.1 ∙ ap (λ b. serves_after_all t k b calls) (serves-added sets t k h u n now all.0)
decides (Remove u n now ∷ calls) sets t k h all = decides calls (removed sets u n now) t k h all.1 ∙ ap (λ b. serves_after_all t k b calls) (serves-removed sets t k h u n now all.0)
decides (Close n ∷ calls) sets t k h all = decides calls (sets_closed sets n) t k h all.1 ∙ ap (λ b. serves_after_all t k b calls) (serves-closed sets t k h n all.0)

pub last_decides : LastCallDecides
last_decides calls t k h all = decides calls [] t k h all ∙ ap (λ b. serves_after_all t k b calls) (has-none k)

-- when a target's set was changed, after one of the calls
module _ (sets : List (List ℕ × ServerSet)) (t : List ℕ) where
  time-put : (u : List ℕ) (s : ServerSet) → (set_of (put sets u s) t).modified ≡ cond (bytes_eq t u) s.modified (set_of sets t).modified
  time-put u s = ap (λ s. s.modified) (set_of-put sets u t s) ∙ go (bytes_eq t u) where
    go : (b : Bool) → (cond b s (set_of sets t)).modified ≡ cond b s.modified (set_of sets t).modified
    go true = refl
    go false = refl

  time-removed : (u : List ℕ) (n : ℕ) (now : Millis) → has_place sets u ≡ true → (set_of (removed sets u n now) t).modified ≡ cond (bytes_eq t u) now (set_of sets t).modified
  time-removed u n now there = ap (λ b. (set_of (cond b (put sets u new) sets) t).modified) there ∙ time-put u new where
    new : ServerSet
    new = record { members = without_member (set_of sets u).members n; modified = now }

  time-closed : (n : ℕ) → (set_of (sets_closed sets n) t).modified ≡ (set_of sets t).modified
  time-closed n = ap (λ o. (unwrap_or o no_servers).modified) (place-closed sets n t) ∙ go (place sets t) where
    go : (o : Option ServerSet) → (unwrap_or (option_map (λ (s : ServerSet). record s { members = without_member s.members n }) o) no_servers).modified ≡ (unwrap_or o no_servers).modified
    go (Some s) = refl
    go None = refl

-- the last change is told, whatever the sets were
tells : (calls : List SetCall) (sets : List (List ℕ × ServerSet)) (t : List ℕ) → RemoveKept sets calls
    → (set_of (sets_after_calls sets calls) t).modified ≡ changed t (set_of sets t).modified calls
tells [] sets t all = refl
tells (Touch u ∷ calls) sets t all = tells calls (touched sets u) t all ∙ ap (λ (s : ServerSet). changed t s.modified calls) (set_of-touched sets u t)
tells (Add u n now ∷ calls) sets t all =
    tells calls (added sets u n now) t all ∙ ap (λ m. changed t m calls) (time-put sets t u (record { members = with_member (set_of sets u).members n; modified = now }))
tells (Remove u n now ∷ calls) sets t all = tells calls (removed sets u n now) t all.1 ∙ ap (λ m. changed t m calls) (time-removed sets t u n now all.0)
tells (Close n ∷ calls) sets t all = tells calls (sets_closed sets n) t all ∙ ap (λ m. changed t m calls) (time-closed sets t n)

pub last_change : TellsTheLastChange
last_change calls t all = tells calls [] t all
