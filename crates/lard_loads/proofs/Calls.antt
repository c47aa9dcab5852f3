-- What each call does to one slot and one load.
use Rattle.std.proofs.Common.{◌≡◌, ℕ, ◌+◌, ◌-◌, ◌<◌, ◌≤◌, true, cond, nat_eq, All, IfSome, List, [], ◌∷◌, ◌++◌, length, set, get_or, sum_by, Option, Some, None, is_some, refl, sym, ap, subst, ◌∙◌, arith}
use Rattle.std.proofs.lemmas.Bool.Decides.{nat_tests}
use Rattle.std.proofs.lemmas.List.{length-set, nil_from_length}
use Rattle.std.proofs.lemmas.List.Elements.{All-nil, All-pop, All-push}
use Rattle.std.proofs.lemmas.List.Sums.{sum_by_push}
use Rattle.lard_loads.specs.declared.slot.Share.{Share}
use Rattle.lard_loads.specs.declared.slot.Slot.{Slot}
use Rattle.std.specs.FinMap as map
use Rattle.lard_loads.specs.Loads.{IsNode, IsShare, IsSlot, IsTallied, tally_of}
use Rattle.lard_loads.specs.Running.{at_node}
use Rattle.lard_loads.specs.Slot.{shares_open_in, standing_with, standing_of}
use Rattle.lard_loads.specs.Tally.{Tally, home, home_of, open_shares, shares_of, units_of, units_of_share}
use Rattle.lard_loads.proofs.Batches.{HasHome, has_home}
use Rattle.lard_loads.proofs.Standings.{one_if}
use Rattle.lard_loads.proofs.Tallies.{at-lowered, at-raised, changed, found_in, old_slot, some_taken, there}

same_number : (n : ℕ) → nat_eq n n ≡ true
same_number n = grind (arith, nat_tests)

All-last : (nodes : ℕ) (xs : List Share) (x : Share) → All (IsShare nodes) (xs ++ x ∷ []) → All (IsShare nodes) xs × IsShare nodes x
All-last nodes xs x all = All-pop (IsShare nodes) (xs ++ x ∷ []) xs (Some x) refl all

-- a home that was read
pub home_read : {o p : Option ℕ} {n k : ℕ} → o ≡ p → o ≡ Some n → k ≡ n → p ≡ Some k
home_read e f g = sym e ∙ f ∙ ap (λ n. Some n) (sym g)

pub standing-is : (s : Slot) (h : Option ℕ) (xs : List Share) → s.home ≡ h → shares_open_in s ≡ xs → standing_of s ≡ standing_with h xs
standing-is s h xs e f = ap (λ k. standing_with k (shares_open_in s)) e ∙ ap (standing_with h) f

home_of-standing : (h : Option ℕ) (xs : List Share) → home_of (standing_with h xs) ≡ h
home_of-standing None xs = refl
home_of-standing (Some h) xs = refl

module _ {loads : List ℕ} {flags : ℕ} {slots : List Slot} {admitted : ℕ} (is : IsTallied loads flags slots admitted) {i : ℕ} (inside : i < 16384) {old : Slot} (was : old ≡ get_or slots i old) where
  -- an admitted connection's slot has a home
  pub home_known : {t : Tally} {c : ℕ} → tally_of (length loads) flags slots ≡ t → i + 1 ≡ c → is_some (map.get t.standings c) ≡ true → HasHome old
  home_known {t} {c} is_t is_c some = has_home old (ap is_some (sym (found_in is inside was is_t is_c)) ∙ some)

  -- its slot has the home that the tally has
  pub same_home : {t : Tally} {c : ℕ} → tally_of (length loads) flags slots ≡ t → i + 1 ≡ c → old.home ≡ home t c
  same_home {t} {c} is_t is_c = sym (ap home_of (found_in is inside was is_t is_c) ∙ home_of-standing old.home (shares_open_in old))

  -- what the tally has of it
  pub found_with : {t : Tally} {c h : ℕ} → tally_of (length loads) flags slots ≡ t → i + 1 ≡ c → old.home ≡ Some h → map.get t.standings c ≡ Some (record { home = h; shares = shares_open_in old })
  found_with {t} {c} {h} is_t is_c home = found_in is inside was is_t is_c ∙ standing-is old (Some h) (shares_open_in old) home refl

  -- its slot has as many shares as the tally
  pub shares_known : {t : Tally} {c h : ℕ} → tally_of (length loads) flags slots ≡ t → i + 1 ≡ c → old.home ≡ Some h → open_shares t c ≡ length (shares_open_in old)
  shares_known {t} {c} {h} is_t is_c home = ap (λ o. length (shares_of o)) (found_in is inside was is_t is_c ∙ standing-is old (Some h) (shares_open_in old) home refl)

  -- it has none where the tally has none
  pub none_known : {t : Tally} {c h : ℕ} → tally_of (length loads) flags slots ≡ t → i + 1 ≡ c → old.home ≡ Some h → open_shares t c ≡ 0 → shares_open_in old ≡ []
  none_known is_t is_c home none = nil_from_length (shares_open_in old) (sym (shares_known is_t is_c home) ∙ none)

  -- a connection comes
  pub connecting : (s : Slot) {new : List ℕ} {n : ℕ} → 1 ≤ n → n ≤ length loads → standing_of old ≡ None → s.home ≡ Some n → shares_open_in s ≡ []
      → new ≡ set loads (n - 1) (at_node loads n + 840) → IsTallied new flags (set slots i s) (admitted + 1)
  connecting s {new} {n} some most none home shares raised =
      changed is inside was s new (admitted + 1) (ap length raised ∙ length-set loads (n - 1) (at_node loads n + 840)) in_range follow count where
        now : standing_of s ≡ Some (record { home = n; shares = [] })
        now = standing-is s (Some n) [] home shares

        in_range : IsSlot (length loads) s
        in_range = record {
          home = subst (λ h. IfSome h (IsNode (length loads))) (sym home) (some, most);
          shares = subst (All (IsShare (length loads))) (sym shares) (All-nil (IsShare (length loads)));
        }

        follow : (m : ℕ) → 1 ≤ m → m ≤ length loads → at_node new m + units_of (standing_of old) m ≡ at_node loads m + units_of (standing_of s) m
        follow m low high =
            let one : at_node new m ≡ at_node loads m + cond (nat_eq n m) 840 0 = ap (λ (xs : List ℕ). at_node xs m) raised ∙ at-raised loads n 840 m some most low in
            let two : units_of (standing_of old) m ≡ 0 = ap (λ o. units_of o m) none in
            let three : units_of (standing_of s) m ≡ cond (nat_eq n m) 840 0 + 0 = ap (λ o. units_of o m) now in
            omega (arith, one, two, three)

        count : admitted + 1 + one_if (standing_of old) ≡ admitted + one_if (standing_of s)
        count =
            let two : one_if (standing_of old) ≡ 0 = ap one_if none in
            let three : one_if (standing_of s) ≡ 1 = ap one_if now in
            omega (arith, two, three)

  -- a share is opened
  pub sharing : (s : Slot) {new : List ℕ} {h : ℕ} (x : Share) → IsShare (length loads) x → old.home ≡ Some h → s.home ≡ old.home → shares_open_in s ≡ shares_open_in old ++ x ∷ []
      → new ≡ set loads (x.node - 1) (at_node loads x.node + x.units) → IsTallied new flags (set slots i s) admitted
  sharing s {new} {h} x is_share home stays shares raised =
      changed is inside was s new admitted (ap length raised ∙ length-set loads (x.node - 1) (at_node loads x.node + x.units)) in_range follow count where
        before : standing_of old ≡ Some (record { home = h; shares = shares_open_in old })
        before = standing-is old (Some h) (shares_open_in old) home refl

        now : standing_of s ≡ Some (record { home = h; shares = shares_open_in old ++ x ∷ [] })
        now = standing-is s (Some h) (shares_open_in old ++ x ∷ []) (stays ∙ home) shares

        old_in_range : IsSlot (length loads) old
        old_in_range = old_slot is inside was

        in_range : IsSlot (length loads) s
        in_range = record {
          home = subst (λ k. IfSome k (IsNode (length loads))) (sym stays) old_in_range.home;
          shares = subst (All (IsShare (length loads))) (sym shares) (All-push (IsShare (length loads)) (shares_open_in old) x old_in_range.shares is_share);
        }

        follow : (m : ℕ) → 1 ≤ m → m ≤ length loads → at_node new m + units_of (standing_of old) m ≡ at_node loads m + units_of (standing_of s) m
        follow m low high =
            let one : at_node new m ≡ at_node loads m + cond (nat_eq x.node m) x.units 0 = ap (λ (xs : List ℕ). at_node xs m) raised ∙ at-raised loads x.node x.units m is_share.0.0 is_share.0.1 low in
            let two : units_of (standing_of old) m ≡ cond (nat_eq h m) 840 0 + sum_by (units_of_share m) (shares_open_in old) = ap (λ o. units_of o m) before in
            let three : units_of (standing_of s) m ≡ cond (nat_eq h m) 840 0 + sum_by (units_of_share m) (shares_open_in old ++ x ∷ []) = ap (λ o. units_of o m) now in
            let four : sum_by (units_of_share m) (shares_open_in old ++ x ∷ []) ≡ sum_by (units_of_share m) (shares_open_in old) + cond (nat_eq x.node m) x.units 0 = sum_by_push (units_of_share m) (shares_open_in old) x in
            omega (arith, one, two, three, four)

        count : admitted + one_if (standing_of old) ≡ admitted + one_if (standing_of s)
        count = ap (λ k. admitted + k) (ap one_if before ∙ sym (ap one_if now))

  -- the last share is closed
  module _ (s : Slot) {h : ℕ} (x : Share) (home : old.home ≡ Some h) (stays : s.home ≡ old.home) (shares : shares_open_in old ≡ shares_open_in s ++ x ∷ []) where
    before : standing_of old ≡ Some (record { home = h; shares = shares_open_in s ++ x ∷ [] })
    before = standing-is old (Some h) (shares_open_in s ++ x ∷ []) home shares

    pub now_short : standing_of s ≡ Some (record { home = h; shares = shares_open_in s })
    now_short = standing-is s (Some h) (shares_open_in s) (stays ∙ home) refl

    old_in_range : IsSlot (length loads) old
    old_in_range = old_slot is inside was

    both : All (IsShare (length loads)) (shares_open_in s) × IsShare (length loads) x
    both = All-last (length loads) (shares_open_in s) x (subst (All (IsShare (length loads))) shares old_in_range.shares)

    pub last_in_range : IsShare (length loads) x
    last_in_range = both.1

    counted : (m : ℕ) → units_of (standing_of old) m ≡ cond (nat_eq h m) 840 0 + (sum_by (units_of_share m) (shares_open_in s) + cond (nat_eq x.node m) x.units 0)
    counted m = ap (λ o. units_of o m) before ∙ ap (λ k. cond (nat_eq h m) 840 0 + k) (sum_by_push (units_of_share m) (shares_open_in s) x)

    pub share_there : x.units ≤ at_node loads x.node
    share_there =
        let part = there is inside was x.node last_in_range.0.0 last_in_range.0.1 in
        let all : units_of (standing_of old) x.node ≡ cond (nat_eq h x.node) 840 0 + (sum_by (units_of_share x.node) (shares_open_in s) + x.units) = counted x.node ∙ ap (λ b. cond (nat_eq h x.node) 840 0 + (sum_by (units_of_share x.node) (shares_open_in s) + cond b x.units 0)) (same_number x.node) in
        omega (arith, part, all)

    pub unsharing : {new : List ℕ} → new ≡ set loads (x.node - 1) (at_node loads x.node - x.units) → IsTallied new flags (set slots i s) admitted
    unsharing {new} lowered =
        changed is inside was s new admitted (ap length lowered ∙ length-set loads (x.node - 1) (at_node loads x.node - x.units)) in_range follow count where
          in_range : IsSlot (length loads) s
          in_range = record { home = subst (λ k. IfSome k (IsNode (length loads))) (sym stays) old_in_range.home; shares = both.0 }

          follow : (m : ℕ) → 1 ≤ m → m ≤ length loads → at_node new m + units_of (standing_of old) m ≡ at_node loads m + units_of (standing_of s) m
          follow m low high =
              let one : at_node (set loads (x.node - 1) (at_node loads x.node - x.units)) m + cond (nat_eq x.node m) x.units 0 ≡ at_node loads m = at-lowered loads x.node x.units m last_in_range.0.0 last_in_range.0.1 low share_there in
              let same : at_node new m ≡ at_node (set loads (x.node - 1) (at_node loads x.node - x.units)) m = ap (λ (xs : List ℕ). at_node xs m) lowered in
              let two = counted m in
              let three : units_of (standing_of s) m ≡ cond (nat_eq h m) 840 0 + sum_by (units_of_share m) (shares_open_in s) = ap (λ o. units_of o m) now_short in
              omega (arith, one, same, two, three)

          count : admitted + one_if (standing_of old) ≡ admitted + one_if (standing_of s)
          count = ap (λ k. admitted + k) (ap one_if before ∙ sym (ap one_if now_short))

  -- a connection without shares goes
  module _ (s : Slot) {h : ℕ} (home : old.home ≡ Some h) (none : shares_open_in old ≡ []) (gone : s.home ≡ None) where
    held : standing_of old ≡ Some (record { home = h; shares = [] })
    held = standing-is old (Some h) [] home none

    pub now_gone : standing_of s ≡ None
    now_gone = standing-is s None (shares_open_in s) gone refl

    pub home_in_range : IsNode (length loads) h
    home_in_range = subst (λ k. IfSome k (IsNode (length loads))) home (old_slot is inside was).home

    whole : (m : ℕ) → units_of (standing_of old) m ≡ cond (nat_eq h m) 840 0 + 0
    whole m = ap (λ o. units_of o m) held

    pub whole_there : 840 ≤ at_node loads h
    whole_there =
        let part = there is inside was h home_in_range.0 home_in_range.1 in
        let all : units_of (standing_of old) h ≡ 840 + 0 = whole h ∙ ap (λ b. cond b 840 0 + 0) (same_number h) in
        omega (arith, part, all)

    pub someone : 0 < admitted
    someone =
        let one : one_if (standing_of old) ≡ 1 = ap one_if held in
        let some = some_taken is inside was in
        omega (arith, one, some)

    pub freeing : {new : List ℕ} → shares_open_in s ≡ shares_open_in old → new ≡ set loads (h - 1) (at_node loads h - 840) → IsTallied new flags (set slots i s) (admitted - 1)
    freeing {new} shares lowered =
        changed is inside was s new (admitted - 1) (ap length lowered ∙ length-set loads (h - 1) (at_node loads h - 840)) in_range follow count where
          in_range : IsSlot (length loads) s
          in_range = record {
            home = subst (λ k. IfSome k (IsNode (length loads))) (sym gone) tt;
            shares = subst (All (IsShare (length loads))) (sym (shares ∙ none)) (All-nil (IsShare (length loads)));
          }

          follow : (m : ℕ) → 1 ≤ m → m ≤ length loads → at_node new m + units_of (standing_of old) m ≡ at_node loads m + units_of (standing_of s) m
          follow m low high =
              let one : at_node (set loads (h - 1) (at_node loads h - 840)) m + cond (nat_eq h m) 840 0 ≡ at_node loads m = at-lowered loads h 840 m home_in_range.0 home_in_range.1 low whole_there in
              let same : at_node new m ≡ at_node (set loads (h - 1) (at_node loads h - 840)) m = ap (λ (xs : List ℕ). at_node xs m) lowered in
              let two = whole m in
              let three : units_of (standing_of s) m ≡ 0 = ap (λ o. units_of o m) now_gone in
              omega (arith, one, same, two, three)

          count : admitted - 1 + one_if (standing_of old) ≡ admitted + one_if (standing_of s)
          count =
              let two : one_if (standing_of old) ≡ 1 = ap one_if held in
              let three : one_if (standing_of s) ≡ 0 = ap one_if now_gone in
              let some = someone in
              omega (arith, two, three, some)
