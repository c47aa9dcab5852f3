-- The next request of a client, as a response or a reset of it is told; and notes that tell nothing of it.
use Rattle.std.proofs.Common.{◌≡◌, ℕ, ◌+◌, List, [], ◌∷◌, ◌++◌, length, true, false, Some, arith, sym, ap, ◌∙◌, subst, append-nil}
use Rattle.std.specs.List.{list_any}
use Rattle.std.specs.Option.{option_map}
use Rattle.lard_law_view.specs.Prelude.{FilesAt, IsPrefix, Rec, Tale, TellsOf, Verdict, Via, answer, answer_code, bytes_served_in, is_reset_record, named_records, served_bytes, served_in, tale, tale_step, told_on, verdicts}
use Rattle.lard_law_connections.specs.BytesRecords.{AnswersNext, ComesBy, IsWay, ResetsNext}
use Rattle.lard_law_connections.specs.BytesTurning.{AnswersAfter, IsNoteOf}
use Rattle.lard_law_connections.proofs.BytesTold.{place-notes}
use Rattle.lard_law_view.specs.Carry.{TellsBy}
use Rattle.lard_history.proofs.Each.{Each}
use Rattle.lard_history.proofs.Tales.{served-tale, served_bytes-tale}
use Rattle.lard_journal.specs.declared.rec.Rec.TheVariants as rec
use Rattle.lard_law_view.proofs.Notes.{Adds}
use Rattle.lard_law_view.proofs.Serving.{answer-is, verdict-is}

-- ---- the next request

-- the verdict v comes next on what was written
module _ (files : FilesAt) (c : ℕ) (w said : List ℕ) (vs : List Verdict) (past : List Rec) (t : TellsOf w said vs (tale past c)) (v : Verdict) (next : IsPrefix (vs ++ v ∷ []) (verdicts w)) where
  pub answers-next : (r : ℕ) (via : Via) → r ≡ length vs + 1 → IsWay files v via → AnswersNext files past c r (answer_code files v) (length (answer files v)) via
  answers-next r via e way = (
    e ∙ ap (λ (n : ℕ). n + 1) (sym (served-tale past c ∙ t.served)),
    ap (option_map (answer_code files)) (verdict-is files c w said vs past t v next),
    ap (option_map length) (answer-is files c w said vs past t v next),
    subst (λ o. ComesBy files o via) (sym (verdict-is files c w said vs past t v next)) way,
  )

  pub resets-next : (total : ℕ) → total ≡ length said + length (answer files v) → ResetsNext files past c total
  resets-next total e =
      ap (option_map (λ (bytes : List ℕ). served_bytes past c + length bytes)) (answer-is files c w said vs past t v next)
      ∙ ap (λ (n : ℕ). Some (n + length (answer files v))) (served_bytes-tale past c ∙ t.served_bytes) ∙ ap Some (sym e)

-- ---- notes

-- those that serve and reset nothing say nothing of it
pub mute-answers : (files : FilesAt) (c : ℕ) (t : Tale) (rs : List Rec) → Each (IsNoteOf c) rs → served_in rs ≡ 0 → list_any is_reset_record rs ≡ false → TellsBy (AnswersAfter files c) c t rs
mute-answers files c t [] h none calm = tt
mute-answers files c t (rec.Served place d r code size via ∷ rs) h none calm = absurd (omega (arith, none))
mute-answers files c t (rec.Reset place d total ∷ rs) h none calm = let no : true ≡ false = calm in absurd cc
mute-answers files c t (rec.Took place d epoch ∷ rs) h none calm = ((λ J e. tt), mute-answers files c (tale_step c t (rec.Took place d epoch)) rs h.1 none calm)
mute-answers files c t (rec.Hit n path ∷ rs) h none calm = ((λ J e. tt), mute-answers files c (tale_step c t (rec.Hit n path)) rs h.1 none calm)
mute-answers files c t (rec.Queued n m d r path ∷ rs) h none calm = ((λ J e. tt), mute-answers files c (tale_step c t (rec.Queued n m d r path)) rs h.1 none calm)
mute-answers files c t (rec.Read n m d r path ∷ rs) h none calm = ((λ J e. tt), mute-answers files c (tale_step c t (rec.Read n m d r path)) rs h.1 none calm)
mute-answers files c t (rec.Waits d ∷ rs) h none calm = ((λ J e. tt), mute-answers files c (tale_step c t (rec.Waits d)) rs h.1 none calm)
mute-answers files c t (rec.Admitted d ∷ rs) h none calm = ((λ J e. tt), mute-answers files c (tale_step c t (rec.Admitted d)) rs h.1 none calm)
mute-answers files c t (rec.Released d ∷ rs) h none calm = ((λ J e. tt), mute-answers files c (tale_step c t (rec.Released d)) rs h.1 none calm)
mute-answers files c t (rec.AssignedFirst d r path n add remove ∷ rs) h none calm =
    ((λ J e. tt), mute-answers files c (tale_step c t (rec.AssignedFirst d r path n add remove)) rs h.1 none calm)
mute-answers files c t (rec.AssignedLater d r path n add size queue ∷ rs) h none calm =
    ((λ J e. tt), mute-answers files c (tale_step c t (rec.AssignedLater d r path n add size queue)) rs h.1 none calm)
mute-answers files c t (rec.BatchOver d ∷ rs) h none calm = ((λ J e. tt), mute-answers files c (tale_step c t (rec.BatchOver d)) rs h.1 none calm)
mute-answers files c t (_ ∷ rs) h none calm = absurd h.0

-- what is told behind the notes of a turn
pub tells-on : (c : ℕ) (w said said_now : List ℕ) (vs us : List Verdict) (notes : List Rec) → Each (IsNoteOf c) notes → length us ≡ length vs + served_in notes → length said_now ≡ length said + bytes_served_in notes
    → (t : Tale) → TellsOf w said vs t → TellsOf w said_now us (told_on c t notes)
tells-on c w said said_now vs us notes each served size t told =
    let adds : Adds t [] [] (served_in notes) (bytes_served_in notes) (list_any is_reset_record notes) (told_on c t notes) = place-notes c t notes each in
    record {
      wrote = adds.wrote ∙ append-nil t.wrote ∙ told.wrote;
      served = adds.served ∙ ap (λ (n : ℕ). n + served_in notes) told.served ∙ sym served;
      served_bytes = adds.served_bytes ∙ ap (λ (n : ℕ). n + bytes_served_in notes) told.served_bytes ∙ sym size;
    }

-- a record that names no connection may be left out
pub named-tells : (may : Tale → Rec → Type 0) (c : ℕ) (t : Tale) (rs : List Rec) → Each (IsNoteOf c) rs → TellsBy may c t rs → TellsBy may c t (named_records rs)
named-tells may c t [] h e = tt
named-tells may c t (rec.Hit n path ∷ rs) h e = named-tells may c t rs h.1 e.1
named-tells may c t (rec.Served place d r code size via ∷ rs) h e = (e.0, named-tells may c (tale_step c t (rec.Served place d r code size via)) rs h.1 e.1)
named-tells may c t (rec.Reset place d total ∷ rs) h e = (e.0, named-tells may c (tale_step c t (rec.Reset place d total)) rs h.1 e.1)
named-tells may c t (rec.Took place d epoch ∷ rs) h e = (e.0, named-tells may c (tale_step c t (rec.Took place d epoch)) rs h.1 e.1)
named-tells may c t (rec.Queued n m d r path ∷ rs) h e = (e.0, named-tells may c (tale_step c t (rec.Queued n m d r path)) rs h.1 e.1)
named-tells may c t (rec.Read n m d r path ∷ rs) h e = (e.0, named-tells may c (tale_step c t (rec.Read n m d r path)) rs h.1 e.1)
named-tells may c t (rec.Waits d ∷ rs) h e = (e.0, named-tells may c (tale_step c t (rec.Waits d)) rs h.1 e.1)
named-tells may c t (rec.Admitted d ∷ rs) h e = (e.0, named-tells may c (tale_step c t (rec.Admitted d)) rs h.1 e.1)
named-tells may c t (rec.Released d ∷ rs) h e = (e.0, named-tells may c (tale_step c t (rec.Released d)) rs h.1 e.1)
named-tells may c t (rec.AssignedFirst d r path n add remove ∷ rs) h e = (e.0, named-tells may c (tale_step c t (rec.AssignedFirst d r path n add remove)) rs h.1 e.1)
named-tells may c t (rec.AssignedLater d r path n add size queue ∷ rs) h e = (e.0, named-tells may c (tale_step c t (rec.AssignedLater d r path n add size queue)) rs h.1 e.1)
named-tells may c t (rec.BatchOver d ∷ rs) h e = (e.0, named-tells may c (tale_step c t (rec.BatchOver d)) rs h.1 e.1)
named-tells may c t (_ ∷ rs) h e = absurd h.0
