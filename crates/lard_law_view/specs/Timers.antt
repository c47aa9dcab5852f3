-- When timers change, in words of the journal: by one record each, behind all else in the step, exactly where the flag
-- changed.
use Rattle.std.specs.Prelude.{◌≡◌, ℕ, Bool, true, false, not, ◌&&◌, List, [], ◌∷◌, ◌++◌, nat_eq}
use Rattle.std.specs.List.{filter, list_all}
use Rattle.lard_base.specs.declared.place.Place.{Place}
use Rattle.lard_base.specs.declared.place.TimerKind.{TimerKind}
use Rattle.lard_history.specs.Journal.{is_kind, is_place, is_running}
use Rattle.lard_history.specs.Steps.{EachStep, steps}
use Rattle.lard_journal.specs.declared.rec.Rec.{Rec}
use Rattle.lard_journal.specs.declared.rec.Rec.TheVariants as rec

-- ---- the records

-- a record of a timer
abbrev pub is_change : Rec → Bool
is_change (rec.Armed p c kind) = true
is_change (rec.Cleared p c kind) = true
is_change _ = false

-- of the one of this kind of connection c, at a place
abbrev pub is_change_of : Place → ℕ → TimerKind → Rec → Bool
is_change_of p c kind (rec.Armed q d k) = is_place q p && (nat_eq d c && is_kind k kind)
is_change_of p c kind (rec.Cleared q d k) = is_place q p && (nat_eq d c && is_kind k kind)
is_change_of p c kind _ = false

-- the record that a timer has by its flag before and after: none where that is the same
abbrev pub change_of : Place → ℕ → TimerKind → Bool → Bool → List Rec
change_of p c kind false true = rec.Armed p c kind ∷ []
change_of p c kind true false = rec.Cleared p c kind ∷ []
change_of p c kind _ _ = []

-- A step is records of no timer, and behind them those of timers. Of each timer there is the one of its change: `armed`
-- where it did not run before the step and does behind it, `cleared` where it ran and does no longer, and else none.
pub record ChangesTimers (past step : List Rec) : Type 0 where
  pub before : List Rec
  pub changes : List Rec
  pub is : step ≡ before ++ changes
  pub none : list_all (λ r. not (is_change r)) before ≡ true
  pub all : list_all is_change changes ≡ true
  pub exactly : (p : Place) (c : ℕ) (kind : TimerKind) → filter (is_change_of p c kind) changes ≡ change_of p c kind (is_running past p c kind) (is_running (past ++ step) p c kind)

abbrev pub ChangesInSteps : List Rec → Type 0
ChangesInSteps J = EachStep ChangesTimers [] (steps J)
