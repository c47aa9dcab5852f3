-- What is told of a journal with its settles written out.
use Rattle.std.proofs.Common.{◌≡◌, ◌≤◌, ℕ, ◌+◌, Bool, true, false, cond, List, [], ◌∷◌, ◌++◌, length, refl, sym, ap, ◌∙◌, append_assoc, arith, length-append}
use Rattle.std.specs.List.{fold}
use Rattle.std.proofs.lemmas.Bool.{true≢false}
use Rattle.std.proofs.lemmas.List.Sums.{fold-append}
use Rattle.lard_law_view.specs.Prelude.{Event, HasRule, Rec}
use Rattle.lard_base.specs.declared.event.Event.TheVariants as event
use Rattle.lard_journal.specs.declared.rec.Rec.TheVariants as rec
use Rattle.lard_settling.specs.Written.{is_settle, steps_with, written_from, written_rec}
use Rattle.lard_settling.proofs.Plain.{AreUnmarked, is_mark}

-- ---- single records

-- one that is no mark stands for itself
unmarked-rec : (i : ℕ) (r : Rec) → is_mark r ≡ false → (written_rec i r ≡ r ∷ []) × (steps_with i r ≡ i)
unmarked-rec i (rec.Event k e) h = absurd (true≢false h)
unmarked-rec i (rec.Inner e) h = absurd (true≢false h)
unmarked-rec i (rec.Settled rounds) h = absurd (true≢false h)
unmarked-rec i (rec.Unsettled rounds left) h = absurd (true≢false h)
unmarked-rec i _ h = (refl, refl)

-- none stands for more than one
rec-short : (i : ℕ) (r : Rec) → length (written_rec i r) ≤ 1
rec-short i r = go (is_mark r) r refl where
  settle-short : (b : Bool) (e : Event) → length (cond b [] (rec.Event (i + 1) e ∷ [])) ≤ 1
  settle-short true e = omega arith
  settle-short false e = omega arith

  go : (b : Bool) (q : Rec) → is_mark q ≡ b → length (written_rec i q) ≤ 1
  go true (rec.Event k e) h = settle-short (is_settle e) e
  go true (rec.Inner e) h = omega arith
  go true (rec.Settled rounds) h = omega arith
  go true (rec.Unsettled rounds left) h = omega arith
  go true q h = omega arith
  go false q h = let one : length (written_rec i q) ≡ 1 = ap length (unmarked-rec i q h).0 in omega (arith, one)

-- ---- journals

pub written-append : (i : ℕ) (J K : List Rec) → written_from i (J ++ K) ≡ written_from i J ++ written_from (fold steps_with i J) K
written-append i [] K = refl
written-append i (r ∷ J) K =
    ap (λ l. written_rec i r ++ l) (written-append (steps_with i r) J K) ∙ sym (append_assoc (written_rec i r) (written_from (steps_with i r) J) (written_from (fold steps_with (steps_with i r) J) K))

pub unmarked-written : (i : ℕ) (rs : List Rec) → AreUnmarked rs → (written_from i rs ≡ rs) × (fold steps_with i rs ≡ i)
unmarked-written i [] all = (refl, refl)
unmarked-written i (r ∷ rs) all =
    let one = unmarked-rec i r all.0 in
    let more = unmarked-written i rs all.1 in (
      ap (λ l. l ++ written_from (steps_with i r) rs) one.0 ∙ ap (λ j. r ∷ written_from j rs) one.1 ∙ ap (λ l. r ∷ l) more.0,
      ap (λ j. fold steps_with j rs) one.1 ∙ more.1,
    )

pub written-short : (i : ℕ) (J : List Rec) → length (written_from i J) ≤ length J
written-short i [] = omega arith
written-short i (r ∷ J) =
    let one = rec-short i r in
    let more = written-short (steps_with i r) J in
    let sum : length (written_rec i r ++ written_from (steps_with i r) J) ≡ length (written_rec i r) + length (written_from (steps_with i r) J) = length-append (written_rec i r) (written_from (steps_with i r) J) in
    omega (arith, one, more, sum)

-- an event that has a rule is no settle
pub rule-step : (e : Event) → HasRule e → is_settle e ≡ false
rule-step (event.Settle rounds) rule = absurd rule
rule-step _ rule = refl

-- ---- what folds say

-- A fold that takes an inner step for an event, whatever its number, and passes over what a settle tells of itself.
pub record TakesSteps {A : Type 0} (step : A → Rec → A) : Type 0 where
  pub events : (a : A) (i k : ℕ) (e : Event) → step a (rec.Event i e) ≡ step a (rec.Event k e)
  pub inner : (a : A) (i : ℕ) (e : Event) → step a (rec.Inner e) ≡ step a (rec.Event i e)
  pub settles : (a : A) (i rounds : ℕ) → step a (rec.Event i (event.Settle rounds)) ≡ a
  pub settled : (a : A) (rounds : ℕ) → step a (rec.Settled rounds) ≡ a
  pub unsettled : (a : A) (rounds left : ℕ) → step a (rec.Unsettled rounds left) ≡ a

module _ {A : Type 0} (step : A → Rec → A) (takes : TakesSteps step) where
  settle-same : (a : A) (i k : ℕ) (e : Event) → is_settle e ≡ true → step a (rec.Event k e) ≡ a
  settle-same a i k (event.Settle rounds) h = takes.settles a k rounds
  settle-same a i k _ h = cc

  -- says the same of a record and of what it stands for
  rec-same : (a : A) (i : ℕ) (r : Rec) → fold step a (written_rec i r) ≡ step a r
  rec-same a i r = go (is_mark r) r refl where
    event-same : (b : Bool) (k : ℕ) (e : Event) → is_settle e ≡ b → fold step a (cond b [] (rec.Event (i + 1) e ∷ [])) ≡ step a (rec.Event k e)
    event-same true k e h = sym (settle-same a i k e h)
    event-same false k e h = takes.events a (i + 1) k e

    go : (b : Bool) (q : Rec) → is_mark q ≡ b → fold step a (written_rec i q) ≡ step a q
    go true (rec.Event k e) h = event-same (is_settle e) k e refl
    go true (rec.Inner e) h = sym (takes.inner a (i + 1) e)
    go true (rec.Settled rounds) h = sym (takes.settled a rounds)
    go true (rec.Unsettled rounds left) h = sym (takes.unsettled a rounds left)
    go true q h = cc
    go false q h = ap (λ l. fold step a l) (unmarked-rec i q h).0

  -- and of a journal and of that with its settles written out
  pub fold-written : (a : A) (i : ℕ) (J : List Rec) → fold step a (written_from i J) ≡ fold step a J
  fold-written a i [] = refl
  fold-written a i (r ∷ J) =
      fold-append step a (written_rec i r) (written_from (steps_with i r) J)
      ∙ ap (λ x. fold step x (written_from (steps_with i r) J)) (rec-same a i r)
      ∙ fold-written (step a r) (steps_with i r) J
