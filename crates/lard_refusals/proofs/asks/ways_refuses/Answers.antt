use Rattle.std.proofs.Common.{◌≡◌, ℕ, Bool, true, false, List, [], ◌∷◌, Option, None, Some, refl, subst, arith, sym}
use Rattle.std.specs.Prelude.{codes, slice_get}
use Rattle.lard_law_view.specs.Prelude.{Front, Node, Verdict, request, verdicts}
use Rattle.lard_base.specs.declared.place.Via.TheVariants as via
use Rattle.lard_laws.specs.Ways.{AnswersBy, WayMarks}
use Rattle.lard_refusals.specs.Refusals.{two_files}
use Rattle.lard_refusals.proofs.Requests.{nothing-asked, request-asks}
use Rattle.lard_refusals.proofs.asks.ways_refuses.Goals as goal

-- what is told once the client wrote the request, with these assignments, of which the last is fresh, and this home
abbrev asked : List (List ℕ × ℕ) → Bool → Option ℕ → WayMarks
asked assigned fresh home = record { wrote = request (codes "/a"); served = 0; assigned = assigned; fresh = fresh; home = home }

-- its one assignment is to node 2
abbrev at_two : WayMarks
at_two = asked ((codes "/a", 2) ∷ []) true (Some 2)

abbrev blank : WayMarks
blank = record { wrote = []; served = 0; assigned = []; fresh = false; home = None }

-- so node 2 may answer it, and node 1 may not
two-may : AnswersBy two_files at_two (Node 2) via.Cache (slice_get (verdicts at_two.wrote) 0)
two-may = subst (λ (vs : List Verdict). AnswersBy two_files at_two (Node 2) via.Cache (slice_get vs 0)) (sym request-asks)
    (record { home = 2; home_is = refl; its = (codes "/a", 2); its_is = refl; path_is = refl; place_is = refl; comes = refl })

one-may-not : AnswersBy two_files at_two (Node 1) via.Cache (slice_get (verdicts at_two.wrote) 0) → ⊥
one-may-not h =
    let goes = subst (λ (vs : List Verdict). AnswersBy two_files at_two (Node 1) via.Cache (slice_get vs 0)) request-asks h in
    let home : Some 2 ≡ Some goes.home = goes.home_is in
    let two : 2 ≡ goes.home = cc in
    let place : Node 1 ≡ Node goes.home = goes.place_is in
    let one : 1 ≡ goes.home = cc in
    omega arith

pub returns-clause-answered_and_not_asked : goal.returns-clause-answered_and_not_asked
returns-clause-answered_and_not_asked c h = subst (λ (vs : List Verdict). AnswersBy two_files blank Front via.Own (slice_get vs 0)) nothing-asked (h.0 refl)

pub returns-clause-served_and_not_assigned : goal.returns-clause-served_and_not_assigned
returns-clause-served_and_not_assigned c h =
    let goes = subst (λ (vs : List Verdict). AnswersBy two_files (asked [] false None) (Node 1) via.Cache (slice_get vs 0)) request-asks (h.1.0 refl) in
    let e : None ≡ Some goes.home = goes.home_is in
    cc

pub returns-clause-served_by_another_node : goal.returns-clause-served_by_another_node
returns-clause-served_by_another_node c h = one-may-not (h.1.1.0 refl)

pub returns-clause-served_by_its_node : goal.returns-clause-served_by_its_node
returns-clause-served_by_its_node c = (tt, (tt, ((λ untouched. two-may), tt)))

pub returns-clause-served_by_the_node_before : goal.returns-clause-served_by_the_node_before
returns-clause-served_by_the_node_before c h = one-may-not (h.1.1.1.1.0 refl)

pub returns-clause-served_by_the_node_after : goal.returns-clause-served_by_the_node_after
returns-clause-served_by_the_node_after c = (tt, (tt, (tt, (tt, ((λ untouched. two-may), tt)))))
