-- What an audit says of the bytes that were read and written.
use Rattle.std.specs.Prelude.{◌≡◌, ◌↔◌, ◌⊎◌, ℕ, ◌+◌, ◌≤◌, ◌^◌, List, [], ◌∷◌, ◌++◌, length, Option, Some, None}
use Rattle.std.specs.Io.KnownBytes.{Appends, Consumes, IsAtEnd, Keeps}
use Rattle.lard_base.specs.Causes.{Rose}
use Rattle.lard_base.specs.Outside.{WrotePrefix}
use Rattle.lard_lines.specs.Lines.{lines_of}
use Rattle.lard_audit_run.specs.declared.verdict.Verdict.{Verdict}
use Rattle.lard_audit_run.specs.declared.verdict.Verdict.TheVariants.{Sound, Refused, TooLong, ReadFault, WriteFault, NoMemory}
use Rattle.lard_audit_run.specs.Audited.{Course, AuditLeads, audited, audit_begin, records_line}
use Rattle.lard_audit_run.specs.Causes.{AuditCause}

-- the text is the whole input, or whatever follows it, the verdict is the same
abbrev pub IsAuditDecided : List ℕ → Option (List ℕ) → Type 0
IsAuditDecided text left = IsAtEnd left ⊎ ((more : List ℕ) → audited (text ++ more) ≡ audited text)

-- each line of the text that has its line feed was passed
abbrev pub HasAuditPassed : List ℕ → Type 0
HasAuditPassed text = (lines : List (List ℕ)) × (last : List ℕ) × (s : Course) × (lines_of text ≡ lines ++ last ∷ []) × AuditLeads audit_begin lines s

-- How an audit ends over the text that it read. A sound report was read to its end. A fault of reading comes behind lines that were all
-- passed. Where memory runs out, nothing is said of the report.
abbrev pub Ends : Verdict → List ℕ → Option (List ℕ) → Type 0
Ends (Sound n) text left = IsAtEnd left × (length text ≤ 2 ^ 30) × (audited text ≡ Sound n)
Ends (Refused line flaw) text left = IsAuditDecided text left × (audited text ≡ Refused line flaw)
Ends (TooLong line) text left = IsAuditDecided text left × (audited text ≡ TooLong line)
Ends ReadFault text left = (length text ≤ 2 ^ 30) × HasAuditPassed text
Ends NoMemory text left = Unit {0}
Ends WriteFault text left = ⊥

-- what was read, and how it is judged; one byte more is read at most than a report may have
pub record Judged (verdict : Verdict) (left left_now : Option (List ℕ)) : Type 0 where
  pub text : List ℕ
  pub consumed : Consumes left left_now text
  pub bounded : length text ≤ 2 ^ 30 + 1
  pub ends : Ends verdict text left_now

-- what comes of writing how many records there are
abbrev pub AuditWrote : ℕ → Verdict → Option (List ℕ) → Option (List ℕ) → Type 0
AuditWrote n (Sound m) old new = (m ≡ n) × Appends old new (records_line n)
AuditWrote n WriteFault old new = WrotePrefix old new (records_line n)
AuditWrote n NoMemory old new = Keeps old new
AuditWrote n _ old new = ⊥

-- a sink's count of faults once an audit has ended: it rose where that was a write fault, and is as before else
abbrev pub AuditEndsCount : ℕ → ℕ → Verdict → Type 0
AuditEndsCount before now WriteFault = Rose before now
AuditEndsCount before now _ = now ≡ before

-- How an audit ends, over what was read and written: what is written is that line of a sound report, or after a fault of writing a front
-- of it, and nothing else.
abbrev pub AuditEnds : Verdict → List ℕ → Option (List ℕ) → Option (List ℕ) → Option (List ℕ) → Type 0
AuditEnds (Sound n) text left old new = IsAtEnd left × (length text ≤ 2 ^ 30) × (audited text ≡ Sound n) × Appends old new (records_line n)
AuditEnds (Refused line flaw) text left old new = IsAuditDecided text left × (audited text ≡ Refused line flaw) × Keeps old new
AuditEnds (TooLong line) text left old new = IsAuditDecided text left × (audited text ≡ TooLong line) × Keeps old new
AuditEnds ReadFault text left old new = (length text ≤ 2 ^ 30) × HasAuditPassed text × Keeps old new
AuditEnds WriteFault text left old new = IsAtEnd left × (length text ≤ 2 ^ 30) × ((n : ℕ) × (audited text ≡ Sound n) × WrotePrefix old new (records_line n))
AuditEnds NoMemory text left old new = Keeps old new

-- All that an audit says: what was read, and how the audit ends over it; and that a text has a verdict exactly where its cause is there.
pub record Audited (verdict : Verdict) (left left_now old new : Option (List ℕ)) : Type 0 where
  pub text : List ℕ
  pub consumed : Consumes left left_now text
  pub bounded : length text ≤ 2 ^ 30 + 1
  pub ended : AuditEnds verdict text left_now old new
  pub causes : (other : Verdict) → (audited text ≡ other) ↔ AuditCause (lines_of text) other

-- the verdict is that on a known input, unless memory ran out
abbrev pub IsVerdictSettled : Verdict → Option (List ℕ) → Type 0
IsVerdictSettled verdict None = Unit {0}
IsVerdictSettled verdict (Some input) = (verdict ≡ audited input) ⊎ (verdict ≡ NoMemory)
