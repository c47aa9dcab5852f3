use Rattle.std.proofs.Common.{◌≡◌, List, None, Some, refl, subst, sym}
use Rattle.std.specs.Prelude.{slice_get}
use Rattle.lard_law_view.specs.Prelude.{Front, Node, Verdict}
use Rattle.lard_laws.specs.BackingRequests.{AnswersNextFrom}
use Rattle.lard_refusals.specs.Refusals.{two_files}
use Rattle.lard_refusals.proofs.Requests.{nothing-asked, request-asks}
use Rattle.lard_refusals.proofs.service.answerers_refuses.Goals as goal

pub returns-clause-node_answers_no_file : goal.returns-clause-node_answers_no_file
returns-clause-node_answers_no_file c h = subst (λ (vs : List Verdict). AnswersNextFrom two_files None None (slice_get vs 0) (Node 1)) nothing-asked (h.0 refl)

pub returns-clause-file_answered_at_the_front_end : goal.returns-clause-file_answered_at_the_front_end
returns-clause-file_answered_at_the_front_end c h =
    let its = subst (λ (vs : List Verdict). AnswersNextFrom two_files None (Some 1) (slice_get vs 0) Front) request-asks (h.1.1.0 refl) in
    let e : Front ≡ Node its.0 = its.2 in
    cc

pub returns-clause-file_answered_at_its_node : goal.returns-clause-file_answered_at_its_node
returns-clause-file_answered_at_its_node c =
    (tt, (tt, ((λ untouched. subst (λ (vs : List Verdict). AnswersNextFrom two_files None (Some 1) (slice_get vs 0) (Node 1)) (sym request-asks) (1, refl, refl)), tt)))
