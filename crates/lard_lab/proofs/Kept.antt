-- What is kept of each target stays sound as files come, requests are assigned and time goes by.
use Rattle.std.proofs.Common.{◌≡◌, ℕ, ◌≤◌, Bool, true, false, List, [], ◌∷◌, ◌++◌, Option, Some, None, IfSome, cond, subst, arith}
use Rattle.std.specs.Str.{bytes_eq}
use Rattle.lard_base.specs.declared.ids.Millis.{Millis}
use Rattle.lard_policy.specs.declared.first.FirstChoice.{FirstChoice}
use Rattle.lard_sets.specs.declared.sets.ServerSet.{ServerSet}
use Rattle.lard_lab.specs.declared.targets.Target.{Target}
use Rattle.lard_lab.specs.Desk.{chosen_for, desk_joined, desk_reduced}
use Rattle.lard_lab.specs.Sound.{IsTargetKept, AreKept}
use Rattle.lard_lab.specs.Targets.{fresh_target, target_at, with_target}

-- of a path that is found, what is known of all
pub kept_at : (nodes now : ℕ) (targets : List (List ℕ × Target)) (path : List ℕ) (target : Target) → AreKept nodes now targets → target_at targets path ≡ Some target → IsTargetKept nodes now target
kept_at nodes now targets path target all there = subst (λ (o : Option Target). IfSome o (IsTargetKept nodes now)) there (all path)

kept-fresh : (nodes now size : ℕ) → IsTargetKept nodes now (fresh_target size)
kept-fresh nodes now size = record { server = tt; modified = omega arith }

-- as time goes by
pub kept-later : (nodes now later : ℕ) (targets : List (List ℕ × Target)) → now ≤ later → AreKept nodes now targets → AreKept nodes later targets
kept-later nodes now later targets more all = λ path. go (target_at targets path) (all path) where
  go : (o : Option Target) → IfSome o (IsTargetKept nodes now) → IfSome o (IsTargetKept nodes later)
  go None h = tt
  go (Some t) h = let before = h.modified in record { server = h.server; modified = omega (arith, before, more) }

-- what holds of all and of one more holds of these
one-added : (P : Target → Type 0) (targets : List (List ℕ × Target)) (path : List ℕ) (t : Target) (q : List ℕ) → P t → IfSome (target_at targets q) P → IfSome (target_at (targets ++ (path, t) ∷ []) q) P
one-added P [] path t q new all = go (bytes_eq q path) where
  go : (b : Bool) → IfSome (cond {A = Option Target} b (Some t) None) P
  go true = new
  go false = tt
one-added P (e ∷ es) path t q new all = go (one-added P es path t q new) (bytes_eq q e.0) all where
  go : (IfSome (target_at es q) P → IfSome (target_at (es ++ (path, t) ∷ []) q) P) → (b : Bool) → IfSome (cond {A = Option Target} b (Some e.1) (target_at es q)) P
      → IfSome (cond {A = Option Target} b (Some e.1) (target_at (es ++ (path, t) ∷ []) q)) P
  go more true h = h
  go more false h = more h

pub kept-added : (nodes now : ℕ) (targets : List (List ℕ × Target)) (path : List ℕ) (size : ℕ) → AreKept nodes now targets → AreKept nodes now (targets ++ (path, fresh_target size) ∷ [])
kept-added nodes now targets path size all = λ q. one-added (IsTargetKept nodes now) targets path (fresh_target size) q (kept-fresh nodes now size) (all q)

-- and where it is written in its place
pub one-written : (P : Target → Type 0) (targets : List (List ℕ × Target)) (path : List ℕ) (t : Target) (q : List ℕ) → P t → IfSome (target_at targets q) P → IfSome (target_at (with_target targets path t) q) P
one-written P [] path t q new all = tt
one-written P (e ∷ es) path t q new all = go (one-written P es path t q new) (bytes_eq path e.0) where
  inner : (IfSome (target_at es q) P → IfSome (target_at (with_target es path t) q) P) → (b : Bool) → IfSome (cond {A = Option Target} b (Some e.1) (target_at es q)) P
      → IfSome (cond {A = Option Target} b (Some e.1) (target_at (with_target es path t) q)) P
  inner more true h = h
  inner more false h = more h

  here : (b : Bool) → IfSome (cond {A = Option Target} b (Some e.1) (target_at es q)) P → IfSome (cond {A = Option Target} b (Some t) (target_at es q)) P
  here true h = new
  here false h = h

  go : (IfSome (target_at es q) P → IfSome (target_at (with_target es path t) q) P) → (a : Bool) → IfSome (target_at (cond a ((e.0, t) ∷ es) (e ∷ with_target es path t)) q) P
  go more true = here (bytes_eq q e.0) all
  go more false = inner more (bytes_eq q e.0) all

pub kept-written : (nodes now : ℕ) (targets : List (List ℕ × Target)) (path : List ℕ) (t : Target) → IsTargetKept nodes now t → AreKept nodes now targets → AreKept nodes now (with_target targets path t)
kept-written nodes now targets path t new all = λ q. one-written (IsTargetKept nodes now) targets path t q new (all q)

-- a set that nodes join and leave now was changed now, or not at all
changed-now : (set : ServerSet) (add remove : Option ℕ) (now : Millis) → set.modified.0 ≤ now.0 → (desk_reduced (desk_joined set add now) remove now).modified.0 ≤ now.0
changed-now set None None now h = h
changed-now set (Some n) None now h = omega arith
changed-now set add (Some n) now h = omega arith

pub kept-chosen : (nodes : ℕ) (now : Millis) (target : Target) (choice : FirstChoice) → choice.node ≤ nodes → IsTargetKept nodes now.0 target → IsTargetKept nodes now.0 (chosen_for target choice now)
kept-chosen nodes now target choice node kept = record { server = node; modified = changed-now target.set choice.add choice.remove now kept.modified }
