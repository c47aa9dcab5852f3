-- Where no fault came, the input alone decides how a run ends.
use Rattle.std.proofs.Common.{◌≡◌, inl, inr, ℕ, List, ◌++◌, Option, Some, None, refl, sym, ap, ◌∙◌, append-nil}
use Rattle.lard_app.specs.declared.status.Status.{Status}
use Rattle.lard_app.specs.declared.status.Status.TheVariants.{Done, Usage, Refused, ReadFault, WriteFault, NoMemory, Limit}
use Rattle.lard_app.specs.Replay.{whole}
use Rattle.lard_app.specs.Run.{Ended, DecidesReplay, IsSettled, TellsOfRead, ReadsInput}

pub settled : (status : Status) (left left_now old new : Option (List ℕ)) → ReadsInput status left left_now old new → ¬ (status ≡ ReadFault) → ¬ (status ≡ WriteFault) → IsSettled status left
settled status None left_now old new ran read written = tt
settled status (Some input) None old new ran read written = absurd ran.consumed
settled status (Some input) (Some after) old new ran read written = go status ran.told ran.ended read written where
  all : ran.read ≡ ran.text → DecidesReplay ran.text (Some after) → whole input ≡ whole ran.text
  all told (inl end) = ap whole (ran.consumed ∙ ap (λ rest. ran.read ++ rest) end ∙ append-nil ran.read ∙ told)
  all told (inr same) = ap whole (ran.consumed ∙ ap (λ text. text ++ after) told) ∙ same after

  same : (made : Status) → ran.read ≡ ran.text → DecidesReplay ran.text (Some after) → (whole ran.text).1 ≡ made → made ≡ (whole input).1
  same made told how is = sym is ∙ ap (λ p. p.1) (sym (all told how))

  go : (made : Status) → TellsOfRead made ran.read ran.text → Ended made ran.text (Some after) old new → ¬ (made ≡ ReadFault) → ¬ (made ≡ WriteFault) → IsSettled made (Some input)
  go Done told ended read written = inl (same Done told (inl ended.0) ended.2.status_is)
  go (Refused line reason) told ended read written = inl (same (Refused line reason) told ended.0 ended.1.status_is)
  go (Limit line what) told ended read written = inl (same (Limit line what) told ended.0 ended.1.status_is)
  go NoMemory told ended read written = inr refl
  go ReadFault told ended read written = absurd (read refl)
  go WriteFault told ended read written = absurd (written refl)
  go Usage told ended read written = absurd ended
