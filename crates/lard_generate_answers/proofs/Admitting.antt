-- No more connections are admitted than clients wrote: who is admitted is once, and gets a node for a request.
use Rattle.std.proofs.Common.{◌≡◌, ◌≢◌, ◌≤◌, ◌⊎◌, inl, inr, ℕ, ◌+◌, ◌||◌, Bool, true, false, cond, nat_eq, List, [], ◌∷◌, ◌++◌, length, refl, sym, ap, ◌∙◌, subst, append_assoc, append-nil, length-append, arith}
use Rattle.std.proofs.lemmas.List.Sums.{fold-append}
use Rattle.std.specs.List.{fold, list_any}
use Rattle.lard_law_view.specs.Prelude.{Config, EachMay, Rec}
use Rattle.lard_law_connections.specs.PolicyLaws.{ArePaired, AssignmentDue, First, Later, MayAdmit, Nothing}
use Rattle.lard_counts.specs.Ledger.{Ledger, ledger_admitted, blank_ledger, ledger, ledger_step}
use Rattle.lard_law_connections.proofs.PolicyIns.{count, count-append, none-left, others, others-left}
use Rattle.lard_history.proofs.Each.{Each}
use Rattle.lard_history.proofs.Seeing.{by_number, other_number, same_number}
use Rattle.lard_journal.specs.declared.rec.Rec.TheVariants as rec
use Rattle.lard_generate_answers.proofs.Sums.{IsTo, by-number, share, sum-few, sum-same, weigh}

-- ---- how often a number stands in a list

-- in either order of the test
turned : (c d : ℕ) → nat_eq c d ≡ nat_eq d c
turned c d = by_number (nat_eq c d ≡ nat_eq d c) c d
    (λ e. subst (λ i. nat_eq c i ≡ nat_eq i c) e refl)
    (λ other. other_number c d other ∙ sym (other_number d c (λ e. other (sym e))))

-- with one more
count-more : (c d : ℕ) (xs : List ℕ) → count c (xs ++ d ∷ []) ≡ count c xs + cond (nat_eq d c) 1 0
count-more c d xs =
    let both = count-append c xs (d ∷ []) in
    let one : ◌≡◌ {A = ℕ} (cond (nat_eq c d) 1 0) (cond (nat_eq d c) 1 0) = ap (λ b. cond b 1 0) (turned c d) in
    omega (arith, both, one)

-- without one
count-less : (c d : ℕ) (xs : List ℕ) → count c (others d xs) ≤ count c xs
count-less c d xs = by_number (count c (others d xs) ≤ count c xs) c d
    (λ e. let none : count c (others d xs) ≡ 0 = ap (λ i. count i (others d xs)) e ∙ none-left d xs in omega (arith, none))
    (λ other. let same = others-left d c xs other in omega (arith, same))

-- one that is not there
count-none : (c : ℕ) (xs : List ℕ) → list_any (nat_eq c) xs ≡ false → count c xs ≡ 0
count-none c [] h = refl
count-none c (x ∷ xs) h = go (nat_eq c x) h (count-none c xs) where
  go : (b : Bool) → (b || list_any (nat_eq c) xs) ≡ false → (list_any (nat_eq c) xs ≡ false → count c xs ≡ 0) → cond b 1 0 + count c xs ≡ 0
  go true is later = cc
  go false is later = let none = later is in omega (arith, none)

-- all together
count-weighs : (c : ℕ) (xs : List ℕ) → weigh (share (λ x. x) (λ x. 1) c) xs ≡ count c xs
count-weighs c [] = refl
count-weighs c (x ∷ xs) =
    let one : ◌≡◌ {A = ℕ} (cond (nat_eq c x) 1 0) (cond (nat_eq x c) 1 0) = ap (λ b. cond b 1 0) (turned c x) in
    let more = count-weighs c xs in
    omega (arith, one, more)

length-weighs : (xs : List ℕ) → weigh (λ x. 1) xs ≡ length xs
length-weighs [] = refl
length-weighs (x ∷ xs) = omega (arith, length-weighs xs)

-- numbers from 1 to n, each once, are at most n
few-once : (n : ℕ) (xs : List ℕ) → ((c : ℕ) → IsTo n c ⊎ (count c xs ≡ 0)) → ((c : ℕ) → count c xs ≤ 1) → length xs ≤ n
few-once n xs h once =
    let all = by-number (λ x. x) (λ x. 1) n xs (λ c. one c (h c)) in
    let same = sum-same (λ c. weigh (share (λ x. x) (λ x. 1) c) xs) (λ c. count c xs) n (λ c to. count-weighs c xs) in
    omega (arith, all, same, length-weighs xs, sum-few (λ c. count c xs) n once) where
      one : (c : ℕ) → IsTo n c ⊎ (count c xs ≡ 0) → IsTo n c ⊎ (weigh (share (λ x. x) (λ x. 1) c) xs ≡ 0)
      one c (inl to) = inl to
      one c (inr none) = inr (count-weighs c xs ∙ none)

-- it is no first assignment of connection c
abbrev pub IsNoFirst : ℕ → Rec → Type 0
IsNoFirst c (rec.AssignedFirst d r path n add remove) = d ≢ c
IsNoFirst c _ = Unit {0}

module _ (config : Config) (c : ℕ) where
  -- ---- who is admitted is assigned first

  -- what is due counts as one
  abbrev ahead : AssignmentDue → ℕ
  ahead (First d) = cond (nat_eq d c) 1 0
  ahead (Later d) = 0
  ahead Nothing = 0

  never-admitted : (due : AssignmentDue) (l : Ledger) (rs : List Rec) → ArePaired due rs → Each (IsNoFirst c) rs → count c l.ins ≤ ahead due → count c (fold ledger_step l rs).ins ≡ 0
  never-admitted Nothing l [] h never le = omega (arith, le)
  never-admitted (First d) l [] h never le = absurd h
  never-admitted (Later d) l [] h never le = absurd h
  never-admitted Nothing l (rec.Admitted d ∷ rs) h never le =
      let more = count-more c d l.ins in
      never-admitted (First d) (ledger_step l (rec.Admitted d)) rs h never.1 (omega (arith, le, more))
  never-admitted Nothing l (rec.BatchOver d ∷ rs) h never le = never-admitted (Later d) (ledger_step l (rec.BatchOver d)) rs h never.1 le
  never-admitted Nothing l (rec.AssignedFirst d r path n add remove ∷ rs) h never le = absurd h
  never-admitted Nothing l (rec.Released d ∷ rs) h never le =
      let less = count-less c d l.ins in
      never-admitted Nothing (ledger_step l (rec.Released d)) rs h never.1 (omega (arith, le, less))
  never-admitted Nothing l (r ∷ rs) h never le = never-admitted Nothing (ledger_step l r) rs h never.1 le
  never-admitted (First e) l (rec.AssignedFirst d r path n add remove ∷ rs) h never le =
      let none : ◌≡◌ {A = ℕ} (cond (nat_eq e c) 1 0) 0 = ap (λ b. cond b 1 0) (other_number e c (λ same. never.0 (h.0 ∙ same))) in
      never-admitted Nothing (ledger_step l (rec.AssignedFirst d r path n add remove)) rs h.1 never.1 (omega (arith, le, none))
  never-admitted (First e) l (_ ∷ rs) h never le = absurd h
  never-admitted (Later e) l (rec.AssignedLater d r path n add size queue ∷ rs) h never le =
      never-admitted Nothing (ledger_step l (rec.AssignedLater d r path n add size queue)) rs h.1 never.1 le
  never-admitted (Later e) l (_ ∷ rs) h never le = absurd h

  -- ---- and is once

  once-more : (l : Ledger) (r : Rec) → MayAdmit config l r → count c l.ins ≤ 1 → count c (ledger_step l r).ins ≤ 1
  once-more l (rec.Admitted d) may le = by_number (count c (l.ins ++ d ∷ []) ≤ 1) d c
      (λ e. let none : count c l.ins ≡ 0 = count-none c l.ins (subst (λ i. list_any (nat_eq i) l.ins ≡ false) e may.1) in
      let one : ◌≡◌ {A = ℕ} (cond (nat_eq d c) 1 0) 1 = ap (λ i. cond (nat_eq i c) 1 0) e ∙ ap (λ b. cond b 1 0) (same_number c) in
      let more = count-more c d l.ins in
      omega (arith, none, one, more))
      (λ other. let nothing : ◌≡◌ {A = ℕ} (cond (nat_eq d c) 1 0) 0 = ap (λ b. cond b 1 0) (other_number d c other) in
      let more = count-more c d l.ins in
      omega (arith, le, nothing, more))
  once-more l (rec.Released d) may le = let less = count-less c d l.ins in omega (arith, le, less)
  once-more l _ may le = le

  once-all : (past rs : List Rec) → EachMay (λ (before : List Rec) (r : Rec). MayAdmit config (ledger config before) r) past rs → count c (ledger config past).ins ≤ 1 → count c (ledger config (past ++ rs)).ins ≤ 1
  once-all past [] each le = subst (λ (K : List Rec). count c (ledger config K).ins ≤ 1) (sym (append-nil past)) le
  once-all past (r ∷ rs) each le =
      subst (λ (K : List Rec). count c (ledger config K).ins ≤ 1) (append_assoc past (r ∷ []) rs)
      (once-all (past ++ r ∷ []) rs each.1
      (subst (λ (l : Ledger). count c l.ins ≤ 1) (sym (fold-append ledger_step (blank_ledger config) past (r ∷ []))) (once-more (ledger config past) r each.0 le)))

-- In a journal that keeps the laws of admission, where connections 1 to n alone were assigned first, at most n are admitted.
pub admitted-few : (config : Config) (n : ℕ) (J : List Rec) → EachMay (λ (before : List Rec) (r : Rec). MayAdmit config (ledger config before) r) [] J → ArePaired Nothing J
    → ((c : ℕ) → IsTo n c ⊎ Each (IsNoFirst c) J) → ledger_admitted (ledger config J) ≤ n
admitted-few config n J admits paired h = few-once n (ledger config J).ins (λ c. one c (h c)) (λ c. once-all config c [] J admits (omega arith)) where
  one : (c : ℕ) → IsTo n c ⊎ Each (IsNoFirst c) J → IsTo n c ⊎ (count c (ledger config J).ins ≡ 0)
  one c (inl to) = inl to
  one c (inr never) = inr (never-admitted config c Nothing (blank_ledger config) J paired never (omega arith))
