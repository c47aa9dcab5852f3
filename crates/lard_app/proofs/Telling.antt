-- A journal tells the events of its steps: written out, they are those of the run without settles.
use Rattle.std.proofs.Common.{◌≡◌, ℕ, ◌+◌, Bool, true, false, cond, List, [], ◌∷◌, ◌++◌, refl, sym, ap, ◌∙◌, append_assoc, append-nil}
use Rattle.lard_law_view.specs.Prelude.{Config, Event, IsReached, Machine, Passes, Rec, machine_start}
use Rattle.lard_law_view.proofs.Carried.{reached-viewed}
use Rattle.lard_law_view.proofs.Runs.{passes-more}
use Rattle.lard_journal.specs.declared.rec.Rec.TheVariants as rec
use Rattle.lard_settling.specs.Written.{IsWrittenOut, is_settle, steps_with, written_from, written_rec}
use Rattle.lard_settling.proofs.Folds.{rule-step}
use Rattle.lard_settling.proofs.Plain.{AreUnmarked, HasPlainRows, is_mark, step-plain}
use Rattle.lard_app.specs.Happened.{step_of, step_told, steps_told}

-- of two journals, one behind the other
pub told-append : (J K : List Rec) → steps_told (J ++ K) ≡ steps_told J ++ steps_told K
told-append [] K = refl
told-append (r ∷ J) K = ap (λ es. step_told r ++ es) (told-append J K) ∙ sym (append_assoc (step_told r) (steps_told J) (steps_told K))

unmarked-none : (r : Rec) → is_mark r ≡ false → step_told r ≡ []
unmarked-none (rec.Event i e) h = cc
unmarked-none (rec.Inner e) h = cc
unmarked-none _ h = refl

pub rows-none : (rs : List Rec) → AreUnmarked rs → steps_told rs ≡ []
rows-none [] h = refl
rows-none (r ∷ rs) h = ap (λ es. es ++ steps_told rs) (unmarked-none r h.0) ∙ rows-none rs h.1

-- an event of a step
pub step-tells : (i : ℕ) (e : Event) (rows : List Rec) → is_settle e ≡ false → AreUnmarked rows → steps_told (rec.Event i e ∷ rows) ≡ e ∷ []
step-tells i e rows nots plain = ap (λ b. cond b [] (e ∷ []) ++ steps_told rows) nots ∙ ap (λ es. e ∷ es) (rows-none rows plain)

module _ (config : Config) (files : List (List ℕ × List ℕ)) where
  passes-tell : (es : List Event) (m n : Machine) → IsReached config files m → Passes m es n → steps_told n.journal ≡ steps_told m.journal ++ es
  passes-tell [] m n r g = ap (λ (k : Machine). steps_told k.journal) g ∙ sym (append-nil (steps_told m.journal))
  passes-tell (e ∷ es) m n r g =
      let k : Machine = g.0 in
      let step : HasPlainRows m e k = step-plain m (reached-viewed config files m r) e k g.1 g.2 in
      let more : steps_told k.journal ≡ steps_told m.journal ++ e ∷ [] = ap steps_told step.are ∙ told-append m.journal (rec.Event (m.events + 1) e ∷ step.rows)
      ∙ ap (λ ds. steps_told m.journal ++ ds) (step-tells (m.events + 1) e step.rows (rule-step e g.1) step.unmarked) in
      passes-tell es k n (r.0 ++ e ∷ [], passes-more r.0 (machine_start config files) m k e r.1 g.1 g.2) g.3 ∙ ap (λ ds. ds ++ es) more ∙ append_assoc (steps_told m.journal) (e ∷ []) es

  -- a run without settles tells its events
  pub reached-tells : (m : Machine) (r : IsReached config files m) → steps_told m.journal ≡ r.0
  reached-tells m r = passes-tell r.0 (machine_start config files) m ([], refl) r.1

-- a record and what it stands for tell the same
rec-tells : (i : ℕ) (r : Rec) → steps_told (written_rec i r) ≡ step_told r
rec-tells i (rec.Event k e) = go (is_settle e) refl where
  go : (b : Bool) → is_settle e ≡ b → steps_told (cond b [] (rec.Event (i + 1) e ∷ [])) ≡ cond b [] (e ∷ [])
  go true h = refl
  go false h = ap (λ b. cond b [] (e ∷ []) ++ []) h
rec-tells i (rec.Inner e) = append-nil (step_of e)
rec-tells i _ = refl

pub written-tells : (i : ℕ) (J : List Rec) → steps_told (written_from i J) ≡ steps_told J
written-tells i [] = refl
written-tells i (r ∷ J) =
    told-append (written_rec i r) (written_from (steps_with i r) J) ∙ ap (λ es. es ++ steps_told (written_from (steps_with i r) J)) (rec-tells i r) ∙ ap (λ es. step_told r ++ es) (written-tells (steps_with i r) J)

-- so the events of the run without settles are those of the steps
pub plain-events : (config : Config) (files : List (List ℕ × List ℕ)) (m : Machine) (w : IsWrittenOut config files m) → w.reached.0 ≡ steps_told m.journal
plain-events config files m w = sym (reached-tells config files w.plain w.reached) ∙ ap steps_told w.journal ∙ written-tells 0 m.journal
