use Rattle.std.proofs.Common.{◌≡◌, ℕ, List, [], ◌∷◌, refl, ⊎_elim}
use Rattle.std.specs.Prelude.{codes}
use Rattle.lard_base.specs.declared.event.Event.TheVariants as event
use Rattle.lard_law_view.specs.Prelude.{Has, Node, Rec}
use Rattle.lard_journal.specs.declared.rec.Rec.TheVariants as rec
use Rattle.lard_message.specs.declared.message.Body.TheVariants as body
use Rattle.lard_refusals.specs.Packets.{content}
use Rattle.lard_refusals.proofs.Messages.{content-says, saying}
use Rattle.lard_refusals.proofs.contents.contents_refuses.Goals as goal

abbrev step : List Rec
step = rec.Event 1 (event.Timer (Node 1) 1) ∷ rec.Sent 1 (Node 1) (Node 2) content ∷ []

nothing-comes : (k : ℕ) → Has (rec.Got k) step → ⊥
nothing-comes k there =
    ⊎_elim (λ (e : rec.Event 1 (event.Timer (Node 1) 1) ≡ rec.Got k). cc)
    (⊎_elim (λ (e : rec.Sent 1 (Node 1) (Node 2) content ≡ rec.Got k). cc) (λ (none : ⊥). none)) there

nothing-is-read : (n m c r : ℕ) (path : List ℕ) → Has (rec.Read n m c r path) step → ⊥
nothing-is-read n m c r path there =
    ⊎_elim (λ (e : rec.Event 1 (event.Timer (Node 1) 1) ≡ rec.Read n m c r path). cc)
    (⊎_elim (λ (e : rec.Sent 1 (Node 1) (Node 2) content ≡ rec.Read n m c r path). cc) (λ (none : ⊥). none)) there

pub returns-clause-content_out_of_nothing : goal.returns-clause-content_out_of_nothing
returns-clause-content_out_of_nothing c h =
    let brings = h.0.1.0 (saying (body.Content 1 (codes "hi")), content-says, refl) in
    ⊎_elim (λ answers. nothing-comes answers.k answers.got) (λ read. nothing-is-read 1 2 brings.c brings.r brings.path read) brings.by
