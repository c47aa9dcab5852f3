-- Journals all of whose settles are closed, and records that begin none.
use Rattle.std.proofs.Common.{◌≡◌, ◌⊎◌, inl, inr, ℕ, zero, suc, ◌+◌, ◌==◌, Bool, true, false, List, [], ◌∷◌, ◌++◌, length, refl, sym, ap, ◌∙◌, subst, append_assoc, append-nil}
use Rattle.std.specs.List.{AllByRecursion}
use Rattle.lard_law_view.specs.Prelude.{Event, Rec}
use Rattle.lard_base.specs.declared.event.Event.TheVariants as event
use Rattle.lard_journal.specs.declared.rec.Rec.TheVariants as rec
use Rattle.lard_law_settles.specs.Rounds.{AreBegun, AreRounds, CompletesInTurn, Fires, IsBegun, IsRound, IsToldInStep, IsWhole, SettlesTakeRounds, SomeCompletes, SomeFire, SomeOfRound, SomeSteps, StandsAt, StandsBehind, InnerSteps}
use Rattle.lard_law_settles.specs.RoundsToDo.{completions_in}
use Rattle.lard_settling.proofs.Plain.{AreUnmarked, is_mark}
use Rattle.lard_settling.specs.Steps.{closing}
use Rattle.lard_settling.specs.Written.{is_settle}

-- ---- records that begin no settle

abbrev pub begins_settle : Rec → Bool
begins_settle (rec.Event i e) = is_settle e
begins_settle _ = false

abbrev pub AreNone : List Rec → Type 0
AreNone [] = Unit {0}
AreNone (r ∷ rs) = (begins_settle r ≡ false) × AreNone rs

none-append : (xs ys : List Rec) → AreNone xs → AreNone ys → AreNone (xs ++ ys)
none-append [] ys h k = k
none-append (x ∷ xs) ys h k = (h.0, none-append xs ys h.1 k)

pub unmarked-none : (rs : List Rec) → AreUnmarked rs → AreNone rs
unmarked-none [] h = tt
unmarked-none (r ∷ rs) h = (go r h.0, unmarked-none rs h.1) where
  go : (q : Rec) → is_mark q ≡ false → begins_settle q ≡ false
  go (rec.Event i e) m = cc
  go _ m = refl

-- nothing is asked of what stands behind it
free-at : (nodes : ℕ) (J : List Rec) (e : Event) (rest : List Rec) → is_settle e ≡ false → StandsAt nodes J e rest
free-at nodes J (event.Settle rounds) rest h = cc
free-at nodes J _ rest h = tt

free-behind : (nodes : ℕ) (J : List Rec) (r : Rec) (rest : List Rec) → begins_settle r ≡ false → StandsBehind nodes J r rest
free-behind nodes J (rec.Event i e) rest h = free-at nodes J e rest h
free-behind nodes J _ rest h = tt

pub none-take : (nodes : ℕ) (past rs : List Rec) → AreNone rs → SettlesTakeRounds nodes past rs
none-take nodes past [] h = tt
none-take nodes past (r ∷ rs) h = (free-behind nodes (past ++ r ∷ []) r rs h.0, none-take nodes (past ++ r ∷ []) rs h.1)

-- ---- journals all of whose settles are closed

abbrev pub ClosedAt : ℕ → List Rec → Event → List Rec → Type 0
ClosedAt nodes J (event.Settle rounds) rest = (K : List Rec) × (more : List Rec) × (J ++ rest ≡ K ++ more) × IsWhole nodes rounds J K
ClosedAt nodes J _ rest = Unit {0}

abbrev pub ClosedBehind : ℕ → List Rec → Rec → List Rec → Type 0
ClosedBehind nodes J (rec.Event i e) rest = ClosedAt nodes J e rest
ClosedBehind nodes J _ rest = Unit {0}

abbrev pub AreClosed : ℕ → List Rec → List Rec → Type 0
AreClosed nodes past [] = Unit {0}
AreClosed nodes past (r ∷ rest) = ClosedBehind nodes (past ++ r ∷ []) r rest × AreClosed nodes (past ++ r ∷ []) rest

pub closed-stand : (nodes : ℕ) (past rs more : List Rec) → AreClosed nodes past rs → SettlesTakeRounds nodes (past ++ rs) more → SettlesTakeRounds nodes past (rs ++ more)
closed-stand nodes past [] more h k = subst (λ (J : List Rec). SettlesTakeRounds nodes J more) (append-nil past) k
closed-stand nodes past (r ∷ rs) more h k =
    (behind r rs h.0, closed-stand nodes (past ++ r ∷ []) rs more h.1 (subst (λ (J : List Rec). SettlesTakeRounds nodes J more) (sym (append_assoc past (r ∷ []) rs)) k)) where
      at : (e : Event) (ss : List Rec) → ClosedAt nodes (past ++ r ∷ []) e ss → StandsAt nodes (past ++ r ∷ []) e (ss ++ more)
      at (event.Settle rounds) ss c = inl (c.0, c.1 ++ more, sym (append_assoc (past ++ r ∷ []) ss more) ∙ ap (λ J. J ++ more) c.2 ∙ append_assoc c.0 c.1 more, c.3)
      at _ ss c = tt

      behind : (q : Rec) (ss : List Rec) → ClosedBehind nodes (past ++ r ∷ []) q ss → StandsBehind nodes (past ++ r ∷ []) q (ss ++ more)
      behind (rec.Event i e) ss c = at e ss c
      behind _ ss c = tt

pub closed-closed : (nodes : ℕ) (past rs more : List Rec) → AreClosed nodes past rs → AreClosed nodes (past ++ rs) more → AreClosed nodes past (rs ++ more)
closed-closed nodes past [] more h k = subst (λ (J : List Rec). AreClosed nodes J more) (append-nil past) k
closed-closed nodes past (r ∷ rs) more h k =
    (behind r rs h.0, closed-closed nodes (past ++ r ∷ []) rs more h.1 (subst (λ (J : List Rec). AreClosed nodes J more) (sym (append_assoc past (r ∷ []) rs)) k)) where
      at : (e : Event) (ss : List Rec) → ClosedAt nodes (past ++ r ∷ []) e ss → ClosedAt nodes (past ++ r ∷ []) e (ss ++ more)
      at (event.Settle rounds) ss c = (c.0, c.1 ++ more, sym (append_assoc (past ++ r ∷ []) ss more) ∙ ap (λ J. J ++ more) c.2 ∙ append_assoc c.0 c.1 more, c.3)
      at _ ss c = tt

      behind : (q : Rec) (ss : List Rec) → ClosedBehind nodes (past ++ r ∷ []) q ss → ClosedBehind nodes (past ++ r ∷ []) q (ss ++ more)
      behind (rec.Event i e) ss c = at e ss c
      behind _ ss c = tt

none-at : (nodes : ℕ) (J : List Rec) (e : Event) (rest : List Rec) → is_settle e ≡ false → ClosedAt nodes J e rest
none-at nodes J (event.Settle rounds) rest h = cc
none-at nodes J _ rest h = tt

none-behind : (nodes : ℕ) (J : List Rec) (r : Rec) (rest : List Rec) → begins_settle r ≡ false → ClosedBehind nodes J r rest
none-behind nodes J (rec.Event i e) rest h = none-at nodes J e rest h
none-behind nodes J _ rest h = tt

pub none-closed : (nodes : ℕ) (past rs : List Rec) → AreNone rs → AreClosed nodes past rs
none-closed nodes past [] h = tt
none-closed nodes past (r ∷ rs) h = (none-behind nodes (past ++ r ∷ []) r rs h.0, none-closed nodes (past ++ r ∷ []) rs h.1)

-- ---- what the steps of a settle add

-- K is J and records that begin no settle.
abbrev pub Grows : List Rec → List Rec → Type 0
Grows J K = (more : List Rec) × (K ≡ J ++ more) × AreNone more

grows-not : (J K : List Rec) → K ≡ J → Grows J K
grows-not J K is = ([], is ∙ sym (append-nil J), tt)

grows-on : (J K L : List Rec) → Grows J K → Grows K L → Grows J L
grows-on J K L h k = (h.0 ++ k.0, k.1 ∙ ap (λ xs. xs ++ k.0) h.1 ∙ append_assoc J h.0 k.0, none-append h.0 k.0 h.2 k.2)

told-none : (rs : List Rec) → AllByRecursion IsToldInStep rs → AreNone rs
told-none [] h = tt
told-none (r ∷ rs) h = (go r h.0, told-none rs h.1) where
  go : (q : Rec) → IsToldInStep q → begins_settle q ≡ false
  go (rec.Event i e) t = absurd t
  go _ t = refl

steps-grow : (es : List Event) (J K : List Rec) → InnerSteps es J K → Grows J K
steps-grow [] J K is = grows-not J K is
steps-grow (e ∷ es) J K h = grows-on J (J ++ rec.Inner e ∷ h.0) K (rec.Inner e ∷ h.0, refl, (refl, told-none h.0 h.1)) (steps-grow es (J ++ rec.Inner e ∷ h.0) K h.2)

some-grow : (es : List Event) (J K : List Rec) → SomeSteps es J K → Grows J K
some-grow es J K h = steps-grow h.0 J K h.3

completes-grow : (n more : ℕ) (J K : List Rec) → CompletesInTurn n more J K → Grows J K
completes-grow n zero J K is = grows-not J K is
completes-grow n (suc more) J K h = grows-on J h.0 K (steps-grow (completions_in J n) J h.0 h.1) (completes-grow (n + 1) more h.0 K h.2)

some-completes-grow : (n more : ℕ) (J K : List Rec) → SomeCompletes n more J K → Grows J K
some-completes-grow n zero J K is = grows-not J K is
some-completes-grow n (suc more) J K (inl h) = some-grow _ J K h
some-completes-grow n (suc more) J K (inr h) = grows-on J h.0 K (steps-grow (completions_in J n) J h.0 h.1) (some-completes-grow (n + 1) more h.0 K h.2)

fires-grow : (b : Bool) (J K : List Rec) → Fires b J K → Grows J K
fires-grow true J K h = steps-grow _ J K h
fires-grow false J K is = grows-not J K is

some-fire-grow : (b : Bool) (J K : List Rec) → SomeFire b J K → Grows J K
some-fire-grow true J K h = some-grow _ J K h
some-fire-grow false J K is = grows-not J K is

module _ (nodes : ℕ) where
  round-grows : (J K : List Rec) → IsRound nodes J K → Grows J K
  round-grows J K h =
      grows-on J h.delivered K (steps-grow _ J h.delivered h.deliveries)
      (grows-on h.delivered h.completed K (completes-grow 1 nodes h.delivered h.completed h.completions) (fires-grow (length h.completed == length J) h.completed K h.fires))

  some-round-grows : (J K : List Rec) → SomeOfRound nodes J K → Grows J K
  some-round-grows J K (inl h) = some-grow _ J K h
  some-round-grows J K (inr h) = grows-on J h.0 K (steps-grow _ J h.0 h.1) (behind h.0 h.2) where
    behind : (L : List Rec) → SomeCompletes 1 nodes L K ⊎ ((M : List Rec) × CompletesInTurn 1 nodes L M × SomeFire (length M == length J) M K) → Grows L K
    behind L (inl some) = some-completes-grow 1 nodes L K some
    behind L (inr all) = grows-on L all.0 K (completes-grow 1 nodes L all.0 all.1) (some-fire-grow (length all.0 == length J) all.0 K all.2)

  rounds-grow : (more : ℕ) (J K : List Rec) → AreRounds nodes more J K → Grows J K
  rounds-grow zero J K is = grows-not J K is
  rounds-grow (suc more) J K h = let rest = h.1 in grows-on J rest.0 K (round-grows J rest.0 rest.1) (rounds-grow more rest.0 K rest.2)

  closing-none : (done left : ℕ) → AreNone (closing done left ∷ [])
  closing-none done zero = (refl, tt)
  closing-none done (suc left) = (refl, tt)

  pub whole-grows : (rounds : ℕ) (J K : List Rec) → IsWhole nodes rounds J K → Grows J K
  whole-grows rounds J K h =
      grows-on J h.taken K (steps-grow _ J h.taken h.takes) (grows-on h.taken h.last K (rounds-grow h.done h.taken h.last h.are) (closing h.done _ ∷ [], h.closed, closing-none h.done _))

  begun-more : (rounds : ℕ) (J K : List Rec) → AreBegun nodes rounds J K → Grows J K
  begun-more rounds J K h = grows-on J h.last K (rounds-grow h.done J h.last h.are) (some-round-grows h.last K h.some)

  pub begun-grows : (rounds : ℕ) (J K : List Rec) → IsBegun nodes rounds J K → Grows J K
  begun-grows rounds J K (inl h) = some-grow _ J K h
  begun-grows rounds J K (inr h) = grows-on J h.0 K (steps-grow _ J h.0 h.1) (begun-more rounds h.0 K h.2)
