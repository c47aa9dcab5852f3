-- What is so of a journal with its settles written out, of the journal itself: record by record, and of what stands directly before.
use Rattle.std.proofs.Common.{◌≡◌, ◌+◌, ℕ, true, false, cond, List, [], ◌∷◌, ◌++◌, Option, Some, None, refl, sym, ap, ◌∙◌, subst, append_assoc, append-nil}
use Rattle.std.proofs.lemmas.List.Sums.{fold-append}
use Rattle.std.specs.List.{fold}
use Rattle.lard_audit.specs.Sound.{audit_due_behind, audit_last_of}
use Rattle.lard_law_view.specs.Prelude.{EachMay, Event, Rec}
use Rattle.lard_base.specs.declared.event.Event.TheVariants as event
use Rattle.lard_journal.specs.declared.rec.Rec.TheVariants as rec
use Rattle.lard_law_audit.proofs.Behind.{MayPair, PairsAt, due_next, due_of, event_in, last-behind, next-is, pairs-one}
use Rattle.lard_law_connections.specs.PolicyLaws.{ArePaired, AssignmentDue}
use Rattle.lard_law_connections.specs.PolicyLaws.AssignmentDue.{First, Later, Nothing}
use Rattle.lard_settling.proofs.Folds.{unmarked-written, written-append}
use Rattle.lard_settling.proofs.Plain.{is_mark}
use Rattle.lard_settling.specs.Order.{AllStand, Begun, IsInStep, MayStandInPhase, Nothing as Closed, Phase, phase_at, phase_step}
use Rattle.lard_settling.specs.Written.{is_settle, steps_with, written_from, written_out, written_rec}

-- ---- with a record more

pub written-more : (past : List Rec) (r : Rec) → written_out (past ++ r ∷ []) ≡ written_out past ++ written_rec (fold steps_with 0 past) r
written-more past r = written-append 0 past (r ∷ []) ∙ ap (λ l. written_out past ++ l) (append-nil (written_rec (fold steps_with 0 past) r))

steps-more : (past : List Rec) (r : Rec) → fold steps_with 0 (past ++ r ∷ []) ≡ steps_with (fold steps_with 0 past) r
steps-more past r = fold-append steps_with 0 past (r ∷ [])

-- ---- laws of a record

each-behind : (may : List Rec → Rec → Type 0) (past xs ys : List Rec) → EachMay may past (xs ++ ys) → EachMay may (past ++ xs) ys
each-behind may past [] ys e = subst (λ (zs : List Rec). EachMay may zs ys) (sym (append-nil past)) e
each-behind may past (x ∷ xs) ys e = subst (λ (zs : List Rec). EachMay may zs ys) (append_assoc past (x ∷ []) xs) (each-behind may (past ++ x ∷ []) xs ys e.1)

-- what may be said of a record that is no mark, behind the past with its settles written out
abbrev pub Lift : (List Rec → Rec → Type 0) → List Rec → Rec → Type 0
Lift may past r = is_mark r ≡ false → may (written_out past) r

-- one that is no mark stands for itself
unmarked : (i : ℕ) (r : Rec) → is_mark r ≡ false → written_rec i r ≡ r ∷ []
unmarked i r plain = sym (append-nil (written_rec i r)) ∙ (unmarked-written i (r ∷ []) (plain, tt)).0

module _ (may : List Rec → Rec → Type 0) where
  lift-all : (past rs : List Rec) → EachMay may (written_out past) (written_from (fold steps_with 0 past) rs) → EachMay (Lift may) past rs
  lift-all past [] h = tt
  lift-all past (r ∷ rs) h =
      let i : ℕ = fold steps_with 0 past in
      let w : List Rec = written_out past in
      let later : EachMay may (w ++ written_rec i r) (written_from (steps_with i r) rs) = each-behind may w (written_rec i r) (written_from (steps_with i r) rs) h in (
        λ plain. (subst (λ (l : List Rec). EachMay may w (l ++ written_from (steps_with i r) rs)) (unmarked i r plain) h).0,
        lift-all (past ++ r ∷ []) rs (subst (λ (l : List Rec). EachMay may l (written_from (fold steps_with 0 (past ++ r ∷ [])) rs)) (sym (written-more past r))
            (subst (λ (k : ℕ). EachMay may (w ++ written_rec i r) (written_from k rs)) (sym (steps-more past r)) later)),
      )

  pub lift-each : (J : List Rec) → EachMay may [] (written_out J) → EachMay (Lift may) [] J
  lift-each J h = lift-all [] J h

-- ---- the event directly before

-- what is told in a step stands behind the same event
abbrev pub SameAt : List Rec → Rec → Type 0
SameAt past r = is_mark r ≡ false → event_in (audit_last_of past) ≡ event_in (audit_last_of (written_out past))

-- so it is behind a record that leaves a journal in a step
abbrev IsSame : Phase → List Rec → Type 0
IsSame p past = IsInStep p → event_in (audit_last_of past) ≡ event_in (audit_last_of (written_out past))

plain-stands : (p : Phase) (r : Rec) → is_mark r ≡ false → MayStandInPhase p r → IsInStep p
plain-stands p (rec.Event i e) plain h = let no : true ≡ false = plain in absurd cc
plain-stands p (rec.Inner e) plain h = let no : true ≡ false = plain in absurd cc
plain-stands p (rec.Settled done) plain h = let no : true ≡ false = plain in absurd cc
plain-stands p (rec.Unsettled done left) plain h = let no : true ≡ false = plain in absurd cc
plain-stands p _ plain h = h

-- behind a record that stands for this one
behind-both : (past : List Rec) (r x : Rec) → written_rec (fold steps_with 0 past) r ≡ x ∷ [] → event_in (Some r) ≡ event_in (Some x)
    → event_in (audit_last_of (past ++ r ∷ [])) ≡ event_in (audit_last_of (written_out (past ++ r ∷ [])))
behind-both past r x is same =
    ap event_in (last-behind past r) ∙ same ∙ sym (ap event_in (last-behind (written_out past) x))
    ∙ ap (λ (l : List Rec). event_in (audit_last_of l)) (ap (λ l. written_out past ++ l) (sym is) ∙ sym (written-more past r))

-- behind an event of the schedule
event-same : (past : List Rec) (k : ℕ) (e : Event) → IsSame (phase_at e) (past ++ rec.Event k e ∷ [])
event-same past k (event.Settle rounds) inside = absurd inside
event-same past k e inside = behind-both past (rec.Event k e) (rec.Event (fold steps_with 0 past + 1) e) refl refl

one-same : (p : Phase) (past : List Rec) (r : Rec) → MayStandInPhase p r → IsSame (phase_step p r) (past ++ r ∷ [])
one-same p past (rec.Event k e) h inside = event-same past k e inside
one-same p past (rec.Inner e) h inside = behind-both past (rec.Inner e) (rec.Event (fold steps_with 0 past + 1) e) refl refl
one-same p past (rec.Settled done) h inside = absurd inside
one-same p past (rec.Unsettled done left) h inside = absurd inside
one-same p past r h inside = behind-both past r r refl refl

same-all : (p : Phase) (past rs : List Rec) → IsSame p past → AllStand p rs → EachMay SameAt past rs
same-all p past [] same h = tt
same-all p past (r ∷ rs) same h = ((λ plain. same (plain-stands p r plain h.0)), same-all (phase_step p r) (past ++ r ∷ []) rs (one-same p past r h.0) h.1)

pub same-each : (J : List Rec) → AllStand Closed J → EachMay SameAt [] J
same-each J h = same-all Closed [] J (λ inside. absurd inside) h

-- ---- first assignments

-- where no step is, what is due does not come
none-due : (p : Phase) (c i : ℕ) (rs : List Rec) → (IsInStep p → ⊥) → AllStand p rs → ArePaired (First c) (written_from i rs) → ⊥
none-due p c i [] out h pairs = pairs
none-due p c i (rec.Event k e ∷ rs) out h pairs = go e h.1 pairs (λ q. none-due q c i rs) where
  go : (d : Event) → AllStand (phase_at d) rs → ArePaired (First c) (cond (is_settle d) [] (rec.Event (i + 1) d ∷ []) ++ written_from (cond (is_settle d) i (i + 1)) rs)
      → ((q : Phase) → (IsInStep q → ⊥) → AllStand q rs → ArePaired (First c) (written_from i rs) → ⊥) → ⊥
  go (event.Settle rounds) s more later = later (Begun rounds) (λ inside. inside) s more
  go d s more later = more
none-due p c i (rec.Inner e ∷ rs) out h pairs = pairs
none-due p c i (rec.Settled done ∷ rs) out h pairs = none-due Closed c i rs (λ inside. inside) h.1 pairs
none-due p c i (rec.Unsettled done left ∷ rs) out h pairs = none-due Closed c i rs (λ inside. inside) h.1 pairs
none-due p c i (r ∷ rs) out h pairs = out h.0

-- a record of a settle's own, where nothing is due
mark-pairs : (d : AssignmentDue) (r : Rec) → ((c : ℕ) → d ≡ First c → ⊥) → MayPair None r → MayPair (due_of d) r
mark-pairs Nothing r none h = h
mark-pairs (Later c) r none h = h
mark-pairs (First c) r none h = absurd (none c refl)

mark-next : (d : AssignmentDue) → ((c : ℕ) → d ≡ First c → ⊥) → due_of d ≡ None
mark-next Nothing none = refl
mark-next (Later c) none = refl
mark-next (First c) none = absurd (none c refl)

-- an inner step is an event
inner : (o : Option ℕ) (i : ℕ) (e : Event) → MayPair o (rec.Event i e) → MayPair o (rec.Inner e)
inner None i e h = tt
inner (Some c) i e h = h

abbrev Pairs : List Rec → List Rec → Type 0
Pairs past rs = EachMay PairsAt past rs

-- one that stands for itself
plain-pairs : (past rs ws : List Rec) (d : AssignmentDue) (r : Rec) → due_of d ≡ audit_due_behind (audit_last_of past) → ArePaired d (r ∷ ws)
    → ((f : AssignmentDue) → due_of f ≡ audit_due_behind (audit_last_of (past ++ r ∷ [])) → ArePaired f ws → Pairs (past ++ r ∷ []) rs) → Pairs past (r ∷ rs)
plain-pairs past rs ws d r is h later =
    let one = pairs-one d r ws h in (
      subst (λ (o : Option ℕ). MayPair o r) is one.0,
      later (due_next r) (next-is r ∙ sym (ap audit_due_behind (last-behind past r))) one.1,
    )

-- one that begins a step
step-pairs : (past rs ws : List Rec) (d : AssignmentDue) (i : ℕ) (e : Event) (r : Rec) → due_of d ≡ audit_due_behind (audit_last_of past) → audit_due_behind (Some r) ≡ None → ((o : Option ℕ) → MayPair o (rec.Event i e) → MayPair o r)
    → ArePaired d (rec.Event i e ∷ ws) → ((f : AssignmentDue) → due_of f ≡ audit_due_behind (audit_last_of (past ++ r ∷ [])) → ArePaired f ws → Pairs (past ++ r ∷ []) rs) → Pairs past (r ∷ rs)
step-pairs past rs ws d i e r is none alike h later =
    let one = pairs-one d (rec.Event i e) ws h in (
      subst (λ (o : Option ℕ). MayPair o r) is (alike (due_of d) one.0),
      later Nothing (sym (ap audit_due_behind (last-behind past r) ∙ none)) one.1,
    )

-- one that is left out
left-pairs : (past rs ws : List Rec) (d : AssignmentDue) (r : Rec) → due_of d ≡ audit_due_behind (audit_last_of past) → audit_due_behind (Some r) ≡ None → MayPair None r → ((c : ℕ) → ArePaired (First c) ws → ⊥)
    → ArePaired d ws → ((f : AssignmentDue) → due_of f ≡ audit_due_behind (audit_last_of (past ++ r ∷ [])) → ArePaired f ws → Pairs (past ++ r ∷ []) rs) → Pairs past (r ∷ rs)
left-pairs past rs ws d r is none may out h later =
    let not : (c : ℕ) → d ≡ First c → ⊥ = λ c e. out c (subst (λ (f : AssignmentDue). ArePaired f ws) e h) in (
      subst (λ (o : Option ℕ). MayPair o r) is (mark-pairs d r not may),
      later d (mark-next d not ∙ sym (ap audit_due_behind (last-behind past r) ∙ none)) h,
    )

pairs-all : (p : Phase) (past rs : List Rec) (i : ℕ) (d : AssignmentDue) → due_of d ≡ audit_due_behind (audit_last_of past) → AllStand p rs → ArePaired d (written_from i rs) → Pairs past rs
pairs-all p past [] i d is h pairs = tt
pairs-all p past (rec.Event k e ∷ rs) i d is h pairs = go e h.1 pairs (λ q j s f. pairs-all q (past ++ rec.Event k e ∷ []) rs j f) where
  go : (g : Event) → AllStand (phase_at g) rs → ArePaired d (cond (is_settle g) [] (rec.Event (i + 1) g ∷ []) ++ written_from (cond (is_settle g) i (i + 1)) rs)
      → ((q : Phase) (j : ℕ) → Unit {0} → (f : AssignmentDue) → due_of f ≡ audit_due_behind (audit_last_of (past ++ rec.Event k e ∷ [])) → AllStand q rs → ArePaired f (written_from j rs) → Pairs (past ++ rec.Event k e ∷ []) rs)
      → Pairs past (rec.Event k e ∷ rs)
  go (event.Settle rounds) s more later = left-pairs past rs (written_from i rs) d (rec.Event k e) is refl tt (λ c. none-due (Begun rounds) c i rs (λ inside. inside) s) more (λ f eq ws. later (Begun rounds) i tt f eq s ws)
  go g s more later = step-pairs past rs (written_from (i + 1) rs) d (i + 1) g (rec.Event k e) is refl (λ o. swapped o g) more (λ f eq ws. later (phase_at g) (i + 1) tt f eq s ws) where
    swapped : (o : Option ℕ) (g : Event) → MayPair o (rec.Event (i + 1) g) → MayPair o (rec.Event k e)
    swapped None g h = tt
    swapped (Some c) g h = h
pairs-all p past (rec.Inner e ∷ rs) i d is h pairs = step-pairs past rs (written_from (i + 1) rs) d (i + 1) e (rec.Inner e) is refl (λ o. inner o (i + 1) e) pairs
    (λ f eq ws. pairs-all (phase_step p (rec.Inner e)) (past ++ rec.Inner e ∷ []) rs (i + 1) f eq h.1 ws)
pairs-all p past (rec.Settled done ∷ rs) i d is h pairs = left-pairs past rs (written_from i rs) d (rec.Settled done) is refl tt (λ c. none-due Closed c i rs (λ inside. inside) h.1) pairs
    (λ f eq ws. pairs-all Closed (past ++ rec.Settled done ∷ []) rs i f eq h.1 ws)
pairs-all p past (rec.Unsettled done left ∷ rs) i d is h pairs = left-pairs past rs (written_from i rs) d (rec.Unsettled done left) is refl tt (λ c. none-due Closed c i rs (λ inside. inside) h.1) pairs
    (λ f eq ws. pairs-all Closed (past ++ rec.Unsettled done left ∷ []) rs i f eq h.1 ws)
pairs-all p past (r ∷ rs) i d is h pairs = plain-pairs past rs (written_from i rs) d r is pairs (λ f eq ws. pairs-all (phase_step p r) (past ++ r ∷ []) rs i f eq h.1 ws)

pub pairs-settled : (J : List Rec) → AllStand Closed J → ArePaired Nothing (written_out J) → EachMay PairsAt [] J
pairs-settled J h pairs = pairs-all Closed [] J 0 Nothing refl h pairs
