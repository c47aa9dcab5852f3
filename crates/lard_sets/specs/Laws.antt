-- What any number of calls, one after another, leave of server sets.
use Rattle.std.specs.Prelude.{◌≡◌, ℕ, ◌≤◌, Bool, true, false, ◌&&◌, nat_eq, List, [], ◌∷◌, if◌then◌else◌}
use Rattle.std.specs.Str.{bytes_eq}
use Rattle.lard_base.specs.declared.ids.Millis.{Millis}
use Rattle.lard_base.specs.Members.{has}
use Rattle.lard_sets.specs.declared.sets.ServerSet.{ServerSet}
use Rattle.lard_sets.specs.Sets.{has_place, set_of, touched, added, removed, sets_closed}

-- a call that may change sets
pub data SetCall : Type 0 where
  Touch : List ℕ → SetCall
  Add : List ℕ → ℕ → Millis → SetCall
  Remove : List ℕ → ℕ → Millis → SetCall
  Close : ℕ → SetCall

-- the sets after a call
abbrev pub sets_after_call : List (List ℕ × ServerSet) → SetCall → List (List ℕ × ServerSet)
sets_after_call sets (Touch target) = touched sets target
sets_after_call sets (Add target n now) = added sets target n now
sets_after_call sets (Remove target n now) = removed sets target n now
sets_after_call sets (Close n) = sets_closed sets n

-- and after any number of them
abbrev pub sets_after_calls : List (List ℕ × ServerSet) → List SetCall → List (List ℕ × ServerSet)
sets_after_calls sets [] = sets
sets_after_calls sets (call ∷ calls) = sets_after_calls (sets_after_call sets call) calls

-- each call names a node, where it names one
abbrev pub NameNodes : List SetCall → Type 0
NameNodes [] = Unit {0}
NameNodes (Touch target ∷ calls) = NameNodes calls
NameNodes (Add target n now ∷ calls) = (1 ≤ n) × NameNodes calls
NameNodes (Remove target n now ∷ calls) = (1 ≤ n) × NameNodes calls
NameNodes (Close n ∷ calls) = (1 ≤ n) × NameNodes calls

-- whether a node serves a target after a call, where it did or did not before
abbrev pub serves_after : List ℕ → ℕ → Bool → SetCall → Bool
serves_after target k before (Touch other) = before
serves_after target k before (Add other n now) = if bytes_eq target other && nat_eq k n then true else before
serves_after target k before (Remove other n now) = if bytes_eq target other && nat_eq k n then false else before
serves_after target k before (Close n) = if nat_eq k n then false else before

-- whether it does after any number of calls: the last one that speaks of both decides
abbrev pub serves_after_all : List ℕ → ℕ → Bool → List SetCall → Bool
serves_after_all target k before [] = before
serves_after_all target k before (call ∷ calls) = serves_after_all target k (serves_after target k before call) calls

-- A node serves a target exactly where the last call that takes it into the target's set or out of it takes it in.
abbrev pub LastCallDecides : Type 0
LastCallDecides = (calls : List SetCall) (target : List ℕ) (k : ℕ) → 1 ≤ k → NameNodes calls → has (set_of (sets_after_calls [] calls) target).members k ≡ serves_after_all target k false calls

-- when a target's set was last changed, after a call
abbrev pub changed_after : List ℕ → Millis → SetCall → Millis
changed_after target before (Touch other) = before
changed_after target before (Add other n now) = if bytes_eq target other then now else before
changed_after target before (Remove other n now) = if bytes_eq target other then now else before
changed_after target before (Close n) = before

-- and after any number of them: the time of the last one that adds or removes
abbrev pub changed : List ℕ → Millis → List SetCall → Millis
changed target before [] = before
changed target before (call ∷ calls) = changed target (changed_after target before call) calls

-- a node is removed only of a target for which a place is kept
abbrev pub RemoveKept : List (List ℕ × ServerSet) → List SetCall → Type 0
RemoveKept sets [] = Unit {0}
RemoveKept sets (Touch target ∷ calls) = RemoveKept (touched sets target) calls
RemoveKept sets (Add target n now ∷ calls) = RemoveKept (added sets target n now) calls
RemoveKept sets (Remove target n now ∷ calls) = (has_place sets target ≡ true) × RemoveKept (removed sets target n now) calls
RemoveKept sets (Close n ∷ calls) = RemoveKept (sets_closed sets n) calls

-- The time of a target's last change is that of the last call that adds a node to its set or removes one; 0 before that.
abbrev pub TellsTheLastChange : Type 0
TellsTheLastChange = (calls : List SetCall) (target : List ℕ) → RemoveKept [] calls → (set_of (sets_after_calls [] calls) target).modified ≡ changed target (record { 0 = 0 }) calls
