-- What an audit says once the verdict on a report is known, and how a known input decides it.
use Rattle.std.proofs.Common.{◌≡◌, inl, inr, ℕ, List, ◌++◌, Option, Some, None, refl, sym, ap, ◌∙◌, subst, append-nil}
use Rattle.std.proofs.KnownBytes.{Keeps-refl}
use Rattle.std.specs.Io.KnownBytes.{Appends}
use Rattle.lard_audit_run.specs.declared.verdict.Flaw.{Flaw}
use Rattle.lard_audit_run.specs.declared.verdict.Verdict.{Verdict}
use Rattle.lard_audit_run.specs.declared.verdict.Verdict.TheVariants.{Sound, Refused, TooLong, ReadFault, WriteFault, NoMemory}
use Rattle.lard_audit_run.specs.Audited.{audited, records_line}
use Rattle.lard_audit_run.specs.Runs.{AuditEnds, Audited, IsAuditDecided, IsVerdictSettled, Judged, AuditWrote}
use Rattle.lard_audit_run.proofs.Causes.{caused}

module _ (left left_now old new : Option (List ℕ)) where
  told : (v w : Verdict) (j : Judged v left left_now) → AuditEnds w j.text left_now old new → Audited w left left_now old new
  told v w j e = record { text = j.text; consumed = j.consumed; bounded = j.bounded; ended = e; causes = caused j.text }

  -- the line of a sound report was written, or a front of it
  pub wrote-so : (n : ℕ) (w : Verdict) → Judged (Sound n) left left_now → AuditWrote n w old new → Audited w left left_now old new
  wrote-so n (Sound m) j h = told (Sound n) (Sound m) j (j.ends.0, j.ends.1, j.ends.2 ∙ ap Sound (sym h.0), subst (λ k. Appends old new (records_line k)) (sym h.0) h.1)
  wrote-so n WriteFault j h = told (Sound n) WriteFault j (j.ends.0, j.ends.1, (n, j.ends.2, h))
  wrote-so n NoMemory j h = told (Sound n) NoMemory j h
  wrote-so n (Refused line flaw) j h = absurd h
  wrote-so n (TooLong line) j h = absurd h
  wrote-so n ReadFault j h = absurd h

module _ (left left_now old : Option (List ℕ)) where
  -- nothing is written of another
  pub refused-so : (line : ℕ) (flaw : Flaw) → Judged (Refused line flaw) left left_now → Audited (Refused line flaw) left left_now old old
  refused-so line flaw j = told left left_now old old (Refused line flaw) (Refused line flaw) j (j.ends.0, j.ends.1, Keeps-refl old)

  pub long-so : (line : ℕ) → Judged (TooLong line) left left_now → Audited (TooLong line) left left_now old old
  long-so line j = told left left_now old old (TooLong line) (TooLong line) j (j.ends.0, j.ends.1, Keeps-refl old)

  pub failed-so : Judged ReadFault left left_now → Audited ReadFault left left_now old old
  failed-so j = told left left_now old old ReadFault ReadFault j (j.ends.0, j.ends.1, Keeps-refl old)

  pub starved-so : Judged NoMemory left left_now → Audited NoMemory left left_now old old
  starved-so j = told left left_now old old NoMemory NoMemory j (Keeps-refl old)

  pub never-so : Judged WriteFault left left_now → Audited WriteFault left left_now old old
  never-so j = absurd j.ends

-- where no fault came, the input alone decides the verdict
pub settled : (v : Verdict) (left left_now old new : Option (List ℕ)) → Audited v left left_now old new → ¬ (v ≡ ReadFault) → ¬ (v ≡ WriteFault) → IsVerdictSettled v left
settled v None left_now old new ran read written = tt
settled v (Some input) None old new ran read written = absurd ran.consumed
settled v (Some input) (Some after) old new ran read written = go v ran.ended read written where
  all : IsAuditDecided ran.text (Some after) → audited input ≡ audited ran.text
  all (inl end) = ap audited (ran.consumed ∙ ap (λ rest. ran.text ++ rest) end ∙ append-nil ran.text)
  all (inr same) = ap audited ran.consumed ∙ same after

  go : (w : Verdict) → AuditEnds w ran.text (Some after) old new → ¬ (w ≡ ReadFault) → ¬ (w ≡ WriteFault) → IsVerdictSettled w (Some input)
  go (Sound n) e read written = inl (sym (all (inl e.0) ∙ e.2))
  go (Refused line flaw) e read written = inl (sym (all e.0 ∙ e.1))
  go (TooLong line) e read written = inl (sym (all e.0 ∙ e.1))
  go NoMemory e read written = inr refl
  go ReadFault e read written = absurd (read refl)
  go WriteFault e read written = absurd (written refl)
