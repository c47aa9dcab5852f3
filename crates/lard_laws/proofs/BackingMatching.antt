-- The assignment that a response goes with is for its path, and to the node from which its content came.
use Rattle.std.proofs.Common.{◌≡◌, ◌+◌, ◌-◌, ℕ, List, ◌++◌, length, take, Option, Some, sym, ap, ◌∙◌, subst, arith}
use Rattle.std.specs.List.{slice_get}
use Rattle.lard_law_view.specs.Prelude.{FilesAt, Node, Rec, Via, assigned, assignments, served, verdicts, wrote}
use Rattle.lard_base.specs.declared.place.Via.TheVariants as via
use Rattle.lard_laws.specs.BackingRequests.{IsFor, comes_from}
use Rattle.lard_laws.specs.BackingTold.{AssignsFor, WasAssigned}
use Rattle.lard_laws.proofs.BackingAssignments.{HasAssignment}
use Rattle.lard_laws.proofs.BackingLasting.{lasts-on, lasts-there}
use Rattle.lard_laws.specs.WaysUnder.{Assigned}
use Rattle.lard_laws.specs.Ways.{AnswersBy, AnswersNextAt, ComesAsAssigned, ComesFrom, GoesWith, good_paths, paths_answered, way_marks}

some-same : (a b : Assigned) → Some a ≡ Some b → a ≡ b
some-same a b e = cc

node-same : (a b : ℕ) → Node a ≡ Node b → a ≡ b
node-same a b e = cc

from-way : (home node n : ℕ) (way : Via) → n ≡ home → ComesFrom home node way → node ≡ comes_from n way
from-way home node n via.Own same h = absurd h
from-way home node n via.Cache same h = h ∙ sym same
from-way home node n via.Disk same h = h ∙ sym same
from-way home node n (via.Node m) same h = sym h.0

module _ (files : FilesAt) (past : List Rec) (c n r : ℕ) (path : List ℕ) (way : Via) (number : r ≡ served past c + 1) (for : IsFor files (wrote past c) r path) (next : AnswersNextAt files (way_marks past c) (Node n) way) where
  goes-with : GoesWith files (way_marks past c) path (Node n) way
  goes-with =
      let at : for.before ≡ served past c = let a = for.number in omega (arith, a, number) in
      let is : slice_get (verdicts (wrote past c)) (served past c) ≡ Some for.verdict = ap (slice_get (verdicts (wrote past c))) (sym at) ∙ for.is in
      subst (ComesAsAssigned files (way_marks past c) (Node n) way) for.good (subst (AnswersBy files (way_marks past c) (Node n) way) is next)

  -- it is for this path, and to the node that the way names
  pub matched : (before later : List Rec) (ask : Option ℕ) → past ≡ before ++ later → HasAssignment files (wrote past c) before c r ask → WasAssigned files (wrote past c) before c r path (comes_from n way) ask
  unfolding goes-with
  matched before later ask split h =
      let g : GoesWith files (way_marks past c) path (Node n) way = goes-with in
      let first : r - 1 ≡ served past c = omega (arith, number) in
      let place : length (assigned h.before c) ≡ length (paths_answered files (way_marks past c)) = h.place ∙ ap (λ (i : ℕ). length (good_paths files (take i (verdicts (wrote past c))))) first in
      let there : slice_get (assigned past c) (length (assigned h.before c)) ≡ Some h.made = subst (λ (l : List Rec). slice_get (assigned l c) (length (assigned h.before c)) ≡ Some h.made) (sym split)
      (lasts-there (assignments (before ++ later) c) (length (assigned h.before c)) h.made (lasts-on before later c (length (assigned h.before c)) h.made h.lasts)) in
      let same : h.made ≡ g.its = some-same h.made g.its (sym there ∙ ap (slice_get (assigned past c)) place ∙ g.its_is) in
      let node : g.its.1 ≡ comes_from n way = from-way g.home g.its.1 n way (node-same n g.home g.place_is) g.comes in
      record {
        before = h.before;
        its = h.its;
        behind = h.behind;
        split = h.split;
        assigns = subst (λ (p : List ℕ). AssignsFor h.before c p (comes_from n way) ask h.its) g.path_is
            (subst (λ (i : ℕ). AssignsFor h.before c g.its.0 i ask h.its) node (subst (λ (a : Assigned). AssignsFor h.before c a.0 a.1 ask h.its) same h.assigns));
        place = h.place;
      }
