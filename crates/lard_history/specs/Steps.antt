-- The steps of a journal, and laws of a step.
use Rattle.std.specs.Prelude.{Bool, true, false, List, [], ◌∷◌, ◌++◌, if◌then◌else◌}
use Rattle.lard_history.specs.Laws.{EachMay}
use Rattle.lard_journal.specs.declared.rec.Rec.{Rec}
use Rattle.lard_journal.specs.declared.rec.Rec.TheVariants as rec

-- a step begins by its event, or by an inner one
abbrev pub is_opening : Rec → Bool
is_opening (rec.Event i e) = true
is_opening (rec.Inner e) = true
is_opening _ = false

-- what stands before the first event, and the steps from there
abbrev pub split : List Rec → List Rec × List (List Rec)
split [] = ([], [])
split (r ∷ rs) = if is_opening r then ([], (r ∷ (split rs).0) ∷ (split rs).1) else (r ∷ (split rs).0, (split rs).1)

-- a journal's steps, each from an event to the next
abbrev pub steps : List Rec → List (List Rec)
steps J = (split J).1

-- each step holds what it must, after what stood before it
abbrev pub EachStep : (List Rec → List Rec → Type 0) → List Rec → List (List Rec) → Type 0
EachStep must past [] = Unit {0}
EachStep must past (s ∷ ss) = must past s × EachStep must (past ++ s) ss

-- P holds where this record begins a step
abbrev pub HoldsBefore : (List Rec → Type 0) → List Rec → Rec → Type 0
HoldsBefore P past (rec.Event i e) = P past
HoldsBefore P past (rec.Inner e) = P past
HoldsBefore P past _ = Unit {0}

-- P holds at the end of each step: wherever an event follows, and at the end of the journal
pub record AtEachEnd (P : List Rec → Type 0) (J : List Rec) : Type 0 where
  pub before : EachMay (HoldsBefore P) [] J
  pub last : P J
