use Rattle.std.proofs.Common.{◌≡◌, [], ◌∷◌, ⊎_elim, inl, refl}
use Rattle.std.specs.Prelude.{codes}
use Rattle.lard_law_view.specs.Prelude.{Came, Has, Node, Row, Seen, own}
use Rattle.lard_journal.specs.declared.rec.Rec.TheVariants as rec
use Rattle.lard_refusals.specs.Refusals.{took}
use Rattle.lard_refusals.proofs.Having.{of-later}
use Rattle.lard_refusals.proofs.contents.came_refuses.Goals as goal

pub returns-clause-remote_request_served_at_once : goal.returns-clause-remote_request_served_at_once
unfolding own
returns-clause-remote_request_served_at_once c h =
    let was = h.1.0 in
    let saw = was.came in
    let there : Has (Came (record { from = Node 2; to = Node 1; bytes = was.bytes })) (Row (took (Node 1) 1 2) ∷ []) = of-later _ _ saw.before saw.later saw.split saw.saw in
    ⊎_elim (λ (e : Row (took (Node 1) 1 2) ≡ Came (record { from = Node 2; to = Node 1; bytes = was.bytes })). cc) (λ (none : ⊥). none) there

pub returns-clause-served_before_it_is_read : goal.returns-clause-served_before_it_is_read
unfolding own
returns-clause-served_before_it_is_read c h =
    let was = h.1.1.0 in
    let saw = was.read in
    let read : Seen = Row (rec.Read 1 1 1 1 was.path) in
    let there : Has read (Row (took (Node 1) 1 2) ∷ Row (rec.Queued 1 1 1 1 (codes "/a")) ∷ []) = of-later _ _ saw.before saw.later saw.split saw.saw in
    ⊎_elim (λ (e : Row (took (Node 1) 1 2) ≡ read). cc)
    (⊎_elim (λ (e : Row (rec.Queued 1 1 1 1 (codes "/a")) ≡ read). cc) (λ (none : ⊥). none)) there

pub returns-clause-served_once_it_is_read : goal.returns-clause-served_once_it_is_read
unfolding own
returns-clause-served_once_it_is_read c = (
  tt,
  (
    tt,
    (
      record {
        epoch = 2;
        path = codes "/a";
        read = record { before = Row (took (Node 1) 1 2) ∷ []; later = Row (rec.Read 1 1 1 1 (codes "/a")) ∷ []; split = refl; took = inl refl; saw = inl refl };
      },
      tt,
    ),
  ),
)
