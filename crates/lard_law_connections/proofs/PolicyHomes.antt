-- Who is in and where, by the ledger and by the journal.
use Rattle.std.proofs.Common.{◌≡◌, ℕ, ◌||◌, nat_eq, not, Bool, true, false, cond, List, [], ◌∷◌, ◌++◌, Option, Some, None, refl, sym, ap, ◌∙◌, subst}
use Rattle.std.proofs.lemmas.Bool.{cond_both}
use Rattle.std.proofs.lemmas.List.Folds.{list_any-append}
use Rattle.std.specs.FinMap as map
use Rattle.std.specs.FinMap.{get-empty}
use Rattle.std.specs.List.{filter, fold, list_any}
use Rattle.std.specs.Ordering.{nat_cmp}
use Rattle.lard_law_view.specs.Prelude.{Config, Rec, Standing, Tally, batch_ended, batch_ended_with, connected, home, home_of, home_step, in_step, released, shared, sharing}
use Rattle.lard_counts.specs.Ledger.{Ledger, blank_ledger, is_in_ledger, ledger_step}
use Rattle.lard_dispatch.proofs.Sharing.{home-ended, home-shared}
use Rattle.lard_history.specs.Journal as told
use Rattle.lard_history.proofs.Seeing.{by_number, other_number, same_number}
use Rattle.lard_journal.specs.declared.rec.Rec.TheVariants as rec
use Rattle.lard_table.proofs.Map.{get_inserted, get_other, get_put_other, get_put_same}

-- ---- who is in

or-true : (b : Bool) → (b || true) ≡ true
or-true true = refl
or-true false = refl

or-false : (b : Bool) → (b || false) ≡ b
or-false true = refl
or-false false = refl

-- one more
pub any-more : (c d : ℕ) (xs : List ℕ) → list_any (nat_eq c) (xs ++ d ∷ []) ≡ cond (nat_eq d c) true (list_any (nat_eq c) xs)
any-more c d xs = list_any-append (nat_eq c) xs (d ∷ []) ∙ by_number ((list_any (nat_eq c) xs || (nat_eq c d || false)) ≡ cond (nat_eq d c) true (list_any (nat_eq c) xs)) d c same other where
  same : d ≡ c → (list_any (nat_eq c) xs || (nat_eq c d || false)) ≡ cond (nat_eq d c) true (list_any (nat_eq c) xs)
  same e = ap (λ (b : Bool). list_any (nat_eq c) xs || (b || false)) (ap (nat_eq c) e ∙ same_number c) ∙ or-true (list_any (nat_eq c) xs)
      ∙ sym (ap (λ (b : Bool). cond b true (list_any (nat_eq c) xs)) (ap (λ (k : ℕ). nat_eq k c) e ∙ same_number c))

  other : (d ≡ c → ⊥) → (list_any (nat_eq c) xs || (nat_eq c d || false)) ≡ cond (nat_eq d c) true (list_any (nat_eq c) xs)
  other n = ap (λ (b : Bool). list_any (nat_eq c) xs || (b || false)) (other_number c d (λ e. n (sym e))) ∙ or-false (list_any (nat_eq c) xs)
      ∙ sym (ap (λ (b : Bool). cond b true (list_any (nat_eq c) xs)) (other_number d c n))

-- and fewer
none-any : (c : ℕ) (xs : List ℕ) → list_any (nat_eq c) (filter (λ x. not (nat_eq c x)) xs) ≡ false
none-any c [] = refl
none-any c (x ∷ xs) = go (nat_eq c x) refl (none-any c xs) where
  go : (b : Bool) → nat_eq c x ≡ b → list_any (nat_eq c) (filter (λ x. not (nat_eq c x)) xs) ≡ false
      → list_any (nat_eq c) (cond (not b) (x ∷ filter (λ x. not (nat_eq c x)) xs) (filter (λ x. not (nat_eq c x)) xs)) ≡ false
  go true is later = later
  go false is later = ap (λ (b : Bool). b || list_any (nat_eq c) (filter (λ x. not (nat_eq c x)) xs)) is ∙ later

others-any : (c d : ℕ) (xs : List ℕ) → (d ≡ c → ⊥) → list_any (nat_eq c) (filter (λ x. not (nat_eq d x)) xs) ≡ list_any (nat_eq c) xs
others-any c d [] n = refl
others-any c d (x ∷ xs) n = by_number (list_any (nat_eq c) (filter (λ x. not (nat_eq d x)) (x ∷ xs)) ≡ list_any (nat_eq c) (x ∷ xs)) d x (same (others-any c d xs n)) (other (others-any c d xs n)) where
  same : list_any (nat_eq c) (filter (λ x. not (nat_eq d x)) xs) ≡ list_any (nat_eq c) xs → d ≡ x → list_any (nat_eq c) (filter (λ x. not (nat_eq d x)) (x ∷ xs)) ≡ list_any (nat_eq c) (x ∷ xs)
  same later e = ap (λ (b : Bool). list_any (nat_eq c) (cond (not b) (x ∷ filter (λ x. not (nat_eq d x)) xs) (filter (λ x. not (nat_eq d x)) xs))) (ap (nat_eq d) (sym e) ∙ same_number d) ∙ later
      ∙ sym (ap (λ (b : Bool). b || list_any (nat_eq c) xs) (other_number c x (λ f. n (e ∙ sym f))))

  other : list_any (nat_eq c) (filter (λ x. not (nat_eq d x)) xs) ≡ list_any (nat_eq c) xs → (d ≡ x → ⊥) → list_any (nat_eq c) (filter (λ x. not (nat_eq d x)) (x ∷ xs)) ≡ list_any (nat_eq c) (x ∷ xs)
  other later m = ap (λ (b : Bool). list_any (nat_eq c) (cond (not b) (x ∷ filter (λ x. not (nat_eq d x)) xs) (filter (λ x. not (nat_eq d x)) xs))) (other_number d x m)
      ∙ ap (λ (b : Bool). nat_eq c x || b) later

pub less-any : (c d : ℕ) (xs : List ℕ) → list_any (nat_eq c) (filter (λ x. not (nat_eq d x)) xs) ≡ cond (nat_eq d c) false (list_any (nat_eq c) xs)
less-any c d xs = by_number (list_any (nat_eq c) (filter (λ x. not (nat_eq d x)) xs) ≡ cond (nat_eq d c) false (list_any (nat_eq c) xs)) d c
    (λ e. ap (λ (k : ℕ). list_any (nat_eq c) (filter (λ x. not (nat_eq k x)) xs)) e ∙ none-any c xs ∙ sym (ap (λ (b : Bool). cond b false (list_any (nat_eq c) xs)) (ap (λ (k : ℕ). nat_eq k c) e ∙ same_number c)))
    (λ n. others-any c d xs n ∙ sym (ap (λ (b : Bool). cond b false (list_any (nat_eq c) xs)) (other_number d c n)))

one-in : (c : ℕ) (l : Ledger) (r : Rec) → is_in_ledger (ledger_step l r) c ≡ in_step c (is_in_ledger l c) r
one-in c l (rec.Admitted d) = any-more c d l.ins
one-in c l (rec.Released d) = less-any c d l.ins
one-in c l (rec.AssignedFirst d r path n add remove) = refl
one-in c l (rec.AssignedLater d r path n add size queue) = refl
one-in c l (rec.BatchOver d) = refl
one-in c l (rec.Closed n) = refl
one-in c l (rec.Clock time) = refl
one-in c l _ = refl

-- ---- and where

module _ (t : Tally) (c d : ℕ) where
  connected-home : (n : ℕ) → home (connected t d n) c ≡ cond (nat_eq d c) (Some n) (home t c)
  connected-home n = by_number (home (connected t d n) c ≡ cond (nat_eq d c) (Some n) (home t c)) d c
      (λ e. subst (λ (k : ℕ). home (connected t d n) k ≡ cond (nat_eq d k) (Some n) (home t k)) e
      (ap home_of (get_inserted t.standings d (record { home = n; shares = [] })) ∙ sym (ap (λ (b : Bool). cond b (Some n) (home t d)) (same_number d))))
      (λ m. ap home_of (get_other t.standings d c (record { home = n; shares = [] }) (λ e. m (sym e))) ∙ sym (ap (λ (b : Bool). cond b (Some n) (home t c)) (other_number d c m)))

  released-home : home (released t d) c ≡ cond (nat_eq d c) None (home t c)
  released-home = by_number (home (released t d) c ≡ cond (nat_eq d c) None (home t c)) d c
      (λ e. subst (λ (k : ℕ). home (released t d) k ≡ cond (nat_eq d k) None (home t k)) e
      (ap home_of (get_put_same t.standings d None) ∙ sym (ap (λ (b : Bool). cond {A = Option ℕ} b None (home t d)) (same_number d))))
      (λ m. ap home_of (get_put_other t.standings d c None (λ e. m (sym e))) ∙ sym (ap (λ (b : Bool). cond {A = Option ℕ} b None (home t c)) (other_number d c m)))

  -- what is done to the shares of another
  other-shared : (n size : ℕ) → (c ≡ d → ⊥) → (o : Option Standing) → home (sharing t d n size o) c ≡ home t c
  other-shared n size apart None = refl
  other-shared n size apart (Some s) = cond_both (nat_eq n s.home) t _ (λ (x : Tally). home x c ≡ home t c) (λ same. refl) (λ other. ap home_of (get_other t.standings d c _ apart))

  shared-home : (n size : ℕ) → home (shared t d n size) c ≡ home t c
  shared-home n size = by_number (home (shared t d n size) c ≡ home t c) c d
      (λ e. subst (λ (k : ℕ). home (shared t d n size) k ≡ home t k) (sym e) (home-shared t d n size)) (λ apart. other-shared n size apart (map.get t.standings d))

  other-ended : (c ≡ d → ⊥) → (o : Option Standing) → home (batch_ended_with t d o) c ≡ home t c
  other-ended apart None = refl
  other-ended apart (Some s) = ap home_of (get_other t.standings d c _ apart)

  ended-home : home (batch_ended t d) c ≡ home t c
  ended-home = by_number (home (batch_ended t d) c ≡ home t c) c d (λ e. subst (λ (k : ℕ). home (batch_ended t d) k ≡ home t k) (sym e) (home-ended t d)) (λ apart. other-ended apart (map.get t.standings d))

one-home : (c : ℕ) (l : Ledger) (r : Rec) → home (ledger_step l r).loads c ≡ home_step c (home l.loads c) r
one-home c l (rec.AssignedFirst d r path n add remove) = connected-home l.loads c d n
one-home c l (rec.Released d) = released-home l.loads c d
one-home c l (rec.AssignedLater d r path n add size queue) = shared-home l.loads c d n size
one-home c l (rec.BatchOver d) = ended-home l.loads c d
one-home c l (rec.Closed n) = refl
one-home c l (rec.Admitted d) = refl
one-home c l (rec.Clock time) = refl
one-home c l _ = refl

-- ---- a journal

all-in : (c : ℕ) (l : Ledger) (rs : List Rec) → is_in_ledger (fold ledger_step l rs) c ≡ fold (in_step c) (is_in_ledger l c) rs
all-in c l [] = refl
all-in c l (r ∷ rs) = all-in c (ledger_step l r) rs ∙ ap (λ (b : Bool). fold (in_step c) b rs) (one-in c l r)

all-homes : (c : ℕ) (l : Ledger) (rs : List Rec) → home (fold ledger_step l rs).loads c ≡ fold (home_step c) (home l.loads c) rs
all-homes c l [] = refl
all-homes c l (r ∷ rs) = all-homes c (ledger_step l r) rs ∙ ap (λ (o : Option ℕ). fold (home_step c) o rs) (one-home c l r)

pub stands-so : (cfg : Config) (J : List Rec) (c : ℕ) → (is_in_ledger (fold ledger_step (blank_ledger cfg) J) c ≡ told.is_in J c) × (home (fold ledger_step (blank_ledger cfg) J).loads c ≡ told.home_told J c)
stands-so cfg J c = (
  all-in c (blank_ledger cfg) J,
  all-homes c (blank_ledger cfg) J ∙ ap (λ (o : Option ℕ). fold (home_step c) o J) (ap home_of (get-empty nat_cmp c)),
)
