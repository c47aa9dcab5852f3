-- Which nodes serve a target, and when that changed last, as the journal tells it.
use Rattle.std.specs.Prelude.{ℕ, Bool, true, false, ◌&&◌, ◌||◌, nat_eq, is_some, List, Option, Some, None, if◌then◌else◌}
use Rattle.std.specs.List.{fold}
use Rattle.std.specs.Str.{bytes_eq}
use Rattle.lard_law_view.specs.Prelude.{Millis, Rec}
use Rattle.lard_journal.specs.declared.rec.Rec.TheVariants as rec

-- ---- which nodes

-- whether node k is in, where it was or was not, once a node is taken in or out
abbrev pub taken_in : ℕ → Option ℕ → Bool → Bool
taken_in k None was = was
taken_in k (Some n) was = if nat_eq k n then true else was

abbrev pub taken_out : ℕ → Option ℕ → Bool → Bool
taken_out k None was = was
taken_out k (Some n) was = if nat_eq k n then false else was

-- an assignment of the path takes the node that is added in, and then the node that is removed out; a node that is closed is out of all
abbrev pub serves_step : List ℕ → ℕ → Bool → Rec → Bool
serves_step path k was (rec.AssignedFirst c r other n add remove) = if bytes_eq path other then taken_out k remove (taken_in k add was) else was
serves_step path k was (rec.AssignedLater c r other n add size queue) = if bytes_eq path other then taken_in k add was else was
serves_step path k was (rec.Closed n) = if nat_eq k n then false else was
serves_step path k was _ = was

-- node k serves the path
abbrev pub serves : List Rec → List ℕ → ℕ → Bool
serves J path k = fold (serves_step path k) false J

-- ---- when

-- the time, and when the nodes of a path changed last
pub record Dated : Type 0 where
  pub now : Millis
  pub last : Millis

abbrev pub dated : Bool → Dated → Dated
dated true d = record d { last = d.now }
dated false d = d

abbrev pub dated_step : List ℕ → Dated → Rec → Dated
dated_step path d (rec.Clock time) = record d { now = time }
dated_step path d (rec.AssignedFirst c r other n add remove) = dated (bytes_eq path other && (is_some add || is_some remove)) d
dated_step path d (rec.AssignedLater c r other n add size queue) = dated (bytes_eq path other && is_some add) d
dated_step path d _ = d

-- the time of the last assignment of the path with a node that was added or removed, or 0
abbrev pub last_mod : List Rec → List ℕ → Millis
last_mod J path = (fold (dated_step path) (record { now = record { 0 = 0 }; last = record { 0 = 0 } }) J).last
