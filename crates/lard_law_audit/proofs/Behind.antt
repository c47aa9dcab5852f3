-- What stands directly behind what: the first assignment behind the record that admits, and what is read behind the event of its disk.
use Rattle.std.proofs.Common.{◌≡◌, ℕ, true, false, List, [], ◌∷◌, ◌++◌, Option, Some, None, refl, sym, ap, ◌∙◌, subst, nat_eq}
use Rattle.std.proofs.lemmas.List.Sums.{fold-append}
use Rattle.std.specs.List.{fold}
use Rattle.lard_audit.specs.Sound.{audit_due_behind, due_by, is_first_of, audit_last_of}
use Rattle.lard_law_view.specs.Prelude.{EachMay, EachStep, Event, FilesAt, Rec, last_event, last_event_step, split, steps}
use Rattle.lard_base.specs.declared.event.Event.TheVariants as event
use Rattle.lard_history.proofs.Seeing.{same_number}
use Rattle.lard_journal.specs.declared.rec.Rec.TheVariants as rec
use Rattle.lard_law_connections.specs.PolicyLaws.{ArePaired, AssignmentDue}
use Rattle.lard_law_connections.specs.PolicyLaws.AssignmentDue.{First, Later, Nothing}
use Rattle.lard_law_connections.specs.StoresLaws.{CompletesJob, MayStore, MustRead, NoneRead, is_read}

pub last-behind : (past : List Rec) (r : Rec) → audit_last_of (past ++ r ∷ []) ≡ Some r
last-behind past r = fold-append (λ before r. Some r) None past (r ∷ [])

-- ---- first assignments

-- a first assignment stands where it is due, and nothing else does
abbrev pub MayPair : Option ℕ → Rec → Type 0
MayPair None (rec.AssignedFirst c r path n add remove) = ⊥
MayPair None _ = Unit {0}
MayPair (Some c) r = is_first_of c r ≡ true

abbrev pub due_of : AssignmentDue → Option ℕ
due_of Nothing = None
due_of (First c) = Some c
due_of (Later c) = None

-- what is due behind a record
abbrev pub due_next : Rec → AssignmentDue
due_next (rec.Admitted c) = First c
due_next (rec.BatchOver c) = Later c
due_next _ = Nothing

pub next-is : (r : Rec) → due_of (due_next r) ≡ due_by r
next-is (rec.Admitted c) = refl
next-is (rec.BatchOver c) = refl
next-is _ = refl

pub pairs-one : (d : AssignmentDue) (r : Rec) (rs : List Rec) → ArePaired d (r ∷ rs) → MayPair (due_of d) r × ArePaired (due_next r) rs
pairs-one Nothing (rec.Admitted c) rs h = (tt, h)
pairs-one Nothing (rec.BatchOver c) rs h = (tt, h)
pairs-one Nothing (rec.AssignedFirst c r path n add remove) rs h = absurd h
pairs-one Nothing _ rs h = (tt, h)
pairs-one (First c) (rec.AssignedFirst d r path n add remove) rs h = (subst (λ (k : ℕ). nat_eq d k ≡ true) h.0 (same_number d), h.1)
pairs-one (First c) _ rs h = absurd h
pairs-one (Later c) (rec.AssignedLater d r path n add size queue) rs h = (tt, h.1)
pairs-one (Later c) _ rs h = absurd h

abbrev pub PairsAt : List Rec → Rec → Type 0
PairsAt past r = MayPair (audit_due_behind (audit_last_of past)) r

pub pairs-each : (past rs : List Rec) (d : AssignmentDue) → due_of d ≡ audit_due_behind (audit_last_of past) → ArePaired d rs → EachMay PairsAt past rs
pairs-each past [] d is h = tt
pairs-each past (r ∷ rs) d is h =
    let one = pairs-one d r rs h in (
      subst (λ (o : Option ℕ). MayPair o r) is one.0,
      pairs-each (past ++ r ∷ []) rs (due_next r) (next-is r ∙ sym (ap audit_due_behind (last-behind past r))) one.1,
    )

-- ---- what is read

-- the event that the last record is
abbrev pub event_in : Option Rec → Option Event
event_in None = None
event_in (Some (rec.Event i e)) = Some e
event_in (Some (rec.Inner e)) = Some e
event_in (Some _) = None

-- it is the last event of all
pub event-last : (past : List Rec) (e : Event) → event_in (audit_last_of past) ≡ Some e → last_event past ≡ Some e
event-last past e = go past None None (λ d h. h) e where
  one : (r : Rec) (last : Option Event) (d : Event) → event_in (Some r) ≡ Some d → last_event_step last r ≡ Some d
  one (rec.Event i e) last d h = h
  one (rec.Inner e) last d h = h
  one _ last d h = let no : None ≡ Some d = h in absurd cc

  go : (rs : List Rec) (o : Option Rec) (last : Option Event) → ((d : Event) → event_in o ≡ Some d → last ≡ Some d)
      → (d : Event) → event_in (fold (λ before r. Some r) o rs) ≡ Some d → fold last_event_step last rs ≡ Some d
  go [] o last h = h
  go (r ∷ rs) o last h = go rs (Some r) (last_event_step last r) (one r last)

-- a job is read directly behind an event
abbrev pub ReadsBehind : Option Rec → Rec → Type 0
ReadsBehind before (rec.Read n m c r path) = (e : Event) × (event_in before ≡ Some e)
ReadsBehind before _ = Unit {0}

abbrev pub ReadsAt : List Rec → Rec → Type 0
ReadsAt past r = ReadsBehind (audit_last_of past) r

-- where it is none
none-read : (before : Option Rec) (r : Rec) → is_read r ≡ false → ReadsBehind before r
none-read before (rec.Read n m c r path) h = let no : true ≡ false = h in absurd cc
none-read before _ h = tt

-- behind an event it may be one
behind-event : (before : Option Rec) (e : Event) → event_in before ≡ Some e → (r : Rec) → ReadsBehind before r
behind-event before e is (rec.Read n m c r path) = (e, is)
behind-event before e is _ = tt

-- what is left of a step: nothing of it is read, unless the event stands directly before
abbrev LeftMay : Option Event → List Rec → Type 0
LeftMay None rs = NoneRead rs
LeftMay (Some e) rs = (past : List Rec) × CompletesJob past e rs

completes-left : (past : List Rec) (e : Event) (r : Rec) (rs : List Rec) → CompletesJob past e (r ∷ rs) → NoneRead rs
completes-left past (event.Disk n j) r rs h =
    let same : rs ≡ h.1 = tails r (rec.Read n h.0.0 h.0.1 h.0.2 h.0.3) rs h.1 h.3 in
    subst NoneRead (sym same) h.4 where
      tails : (a b : Rec) (as_ bs : List Rec) → a ∷ as_ ≡ b ∷ bs → as_ ≡ bs
      tails a b as_ bs e = cc
completes-left past e r rs h = h.1

abbrev StepsMay : List (List Rec) → Type 0
StepsMay ss = (past : List Rec) × EachStep MustRead past ss

-- a record that is no event
inside : (r : Rec) (past rs : List Rec) (ss : List (List Rec)) (Next : Type 0) → (LeftMay (event_in (audit_last_of (past ++ r ∷ []))) rs → StepsMay ss → Next)
    → event_in (Some r) ≡ None → LeftMay (event_in (audit_last_of past)) (r ∷ rs) → StepsMay ss → ReadsAt past r × Next
inside r past rs ss Next next none h s = go (event_in (audit_last_of past)) refl h where
  now : None ≡ event_in (audit_last_of (past ++ r ∷ []))
  now = sym (ap event_in (last-behind past r) ∙ none)

  go : (o : Option Event) → event_in (audit_last_of past) ≡ o → LeftMay o (r ∷ rs) → ReadsAt past r × Next
  go None is h = (none-read (audit_last_of past) r h.0, next (subst (λ (o : Option Event). LeftMay o rs) now h.1) s)
  go (Some e) is h = (behind-event (audit_last_of past) e is r, next (subst (λ (o : Option Event). LeftMay o rs) now (completes-left h.0 e r rs h.1)) s)

reads-each : (past rs : List Rec) → LeftMay (event_in (audit_last_of past)) (split rs).0 → StepsMay (split rs).1 → EachMay ReadsAt past rs
reads-each past [] h s = tt
reads-each past (rec.Event i e ∷ rs) h s =
    (tt, reads-each (past ++ rec.Event i e ∷ []) rs (subst (λ (o : Option Event). LeftMay o (split rs).0) (sym (ap event_in (last-behind past (rec.Event i e)))) (s.0, s.1.0)) (_, s.1.1))
reads-each past (rec.Inner e ∷ rs) h s =
    (tt, reads-each (past ++ rec.Inner e ∷ []) rs (subst (λ (o : Option Event). LeftMay o (split rs).0) (sym (ap event_in (last-behind past (rec.Inner e)))) (s.0, s.1.0)) (_, s.1.1))
reads-each past (r ∷ rs) h s = inside r past (split rs).0 (split rs).1 (EachMay ReadsAt (past ++ r ∷ []) rs) (reads-each (past ++ r ∷ []) rs) refl h s

-- of what stands before the first event none is read, since no event is there that names it
before-first : (files : FilesAt) (limit : ℕ) (past rs : List Rec) → last_event past ≡ None → EachMay (MayStore files limit) past rs → NoneRead (split rs).0
before-first files limit past [] none e = tt
before-first files limit past (rec.Event i d ∷ rs) none e = tt
before-first files limit past (rec.Inner d ∷ rs) none e = tt
before-first files limit past (rec.Read n m c r path ∷ rs) none e = let no : None ≡ Some (event.Disk n e.0.0) = sym none ∙ e.0.1 in absurd cc
before-first files limit past (r ∷ rs) none e = (refl, before-first files limit (past ++ r ∷ []) rs (fold-append last_event_step None past (r ∷ []) ∙ none) e.1)

pub reads-behind : (files : FilesAt) (limit : ℕ) (J : List Rec) → EachMay (MayStore files limit) [] J → EachStep MustRead [] (steps J) → EachMay ReadsAt [] J
reads-behind files limit J stores disks = reads-each [] J (before-first files limit [] J refl stores) ([], disks)
