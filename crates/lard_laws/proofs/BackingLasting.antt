-- What was assigned lasts, but for a first assignment that no node took.
use Rattle.std.proofs.Common.{◌≡◌, ◌-◌, ℕ, Bool, true, false, cond, List, [], ◌∷◌, ◌++◌, length, take, drop, Some, nat_eq, refl, sym, ap, ◌∙◌, subst, arith, append-nil}
use Rattle.std.specs.List.{fold, slice_get}
use Rattle.std.proofs.lemmas.List.{length_push, take-append-drop}
use Rattle.std.proofs.lemmas.List.Sums.{fold-append}
use Rattle.std.proofs.Math.Seq.{take-append_seam}
use Rattle.lard_law_view.specs.Prelude.{Client, Front, IsPrefix, Node, Place, Rec, assigned, assignments, assignments_step, assignments_taken}
use Rattle.lard_answers.proofs.Growing.{IsPrefix-trans}
use Rattle.lard_laws.specs.WaysUnder.{Assigned}
use Rattle.lard_laws.proofs.WaysGoods.{get-front}
use Rattle.lard_history.proofs.Seeing.{same_number}
use Rattle.lard_history.specs.Journal.{Assignments, without_last}
use Rattle.lard_journal.specs.declared.rec.Rec.TheVariants as rec

-- what stays assigned, whatever comes
abbrev pub lasting : Assignments → List Assigned
lasting s = (assignments_taken Front s).list

-- it is all, where a node took the connection
pub all-last : (s : Assignments) → s.fresh ≡ false → lasting s ≡ s.list
all-last s e = ap (λ (b : Bool). cond b (without_last s.list) s.list) e

whole : (xs : List Assigned) → IsPrefix xs xs
whole xs = ([], sym (append-nil xs))

pub without-pushed : (xs : List Assigned) (a : Assigned) → without_last (xs ++ a ∷ []) ≡ xs
without-pushed xs a =
    let one : length (xs ++ a ∷ []) - 1 ≡ length xs = omega (arith, length_push xs a) in
    ap (λ (n : ℕ). take n (xs ++ a ∷ [])) one ∙ take-append_seam xs (a ∷ [])

lasts-in : (s : Assignments) → IsPrefix (lasting s) s.list
lasts-in s = go s.fresh where
  go : (b : Bool) → IsPrefix (cond b (without_last s.list) s.list) s.list
  go true = (drop (length s.list - 1) s.list, sym (take-append-drop (length s.list - 1) s.list))
  go false = whole s.list

one-lasts : (c : ℕ) (s : Assignments) (r : Rec) → IsPrefix (lasting s) (lasting (assignments_step c s r))
one-lasts c s (rec.AssignedFirst d r path n add remove) = go (nat_eq d c) where
  go : (b : Bool) → IsPrefix (lasting s) (lasting (cond b (record { list = s.list ++ (path, n) ∷ []; fresh = true }) s))
  go true = subst (IsPrefix (lasting s)) (sym (without-pushed s.list (path, n))) (lasts-in s)
  go false = whole (lasting s)
one-lasts c s (rec.AssignedLater d r path n add size queue) = go (nat_eq d c) where
  go : (b : Bool) → IsPrefix (lasting s) (lasting (cond b (record { list = s.list ++ (path, n) ∷ []; fresh = false }) s))
  go true = IsPrefix-trans (lasting s) s.list (s.list ++ (path, n) ∷ []) (lasts-in s) ((path, n) ∷ [], refl)
  go false = whole (lasting s)
one-lasts c s (rec.Took place d epoch) = go place (nat_eq d c) where
  go : (p : Place) (b : Bool) → IsPrefix (lasting s) (lasting (cond b (assignments_taken p s) s))
  go Front true = whole (lasting s)
  go (Node n) true = lasts-in s
  go (Client e) true = whole (lasting s)
  go p false = whole (lasting s)
one-lasts c s _ = whole (lasting s)

more-lasts : (c : ℕ) (s : Assignments) (rs : List Rec) → IsPrefix (lasting s) (lasting (fold (assignments_step c) s rs))
more-lasts c s [] = whole (lasting s)
more-lasts c s (r ∷ rs) =
    let t : Assignments = assignments_step c s r in
    IsPrefix-trans (lasting s) (lasting t) (lasting (fold (assignments_step c) t rs)) (one-lasts c s r) (more-lasts c t rs)

-- ---- an assignment, by its place

-- one that lasts is there
pub lasts-there : (s : Assignments) (k : ℕ) (a : Assigned) → slice_get (lasting s) k ≡ Some a → slice_get s.list k ≡ Some a
lasts-there s k a e = let more = lasts-in s in ap (λ (l : List Assigned). slice_get l k) more.1 ∙ get-front (lasting s) more.0 k a e

-- and is there behind more records
pub lasts-on : (J rs : List Rec) (c k : ℕ) (a : Assigned) → slice_get (lasting (assignments J c)) k ≡ Some a → slice_get (lasting (assignments (J ++ rs) c)) k ≡ Some a
lasts-on J rs c k a e =
    let more = more-lasts c (assignments J c) rs in
    ap (λ (s : Assignments). slice_get (lasting s) k) (fold-append (assignments_step c) (record { list = []; fresh = false }) J rs)
    ∙ ap (λ (l : List Assigned). slice_get l k) more.1
    ∙ get-front (lasting (assignments J c)) more.0 k a e

-- all last once a node takes the connection
pub taken-last : (J : List Rec) (n c epoch : ℕ) → lasting (assignments (J ++ rec.Took (Node n) c (record { 0 = epoch }) ∷ []) c) ≡ assigned J c
taken-last J n c epoch =
    ap lasting (fold-append (assignments_step c) (record { list = []; fresh = false }) J (rec.Took (Node n) c (record { 0 = epoch }) ∷ []))
    ∙ ap (λ (b : Bool). lasting (cond b (record { list = assigned J c; fresh = false }) (assignments J c))) (same_number c)
