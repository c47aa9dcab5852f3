-- What an answer of the lab's command says: of the bytes that were read and written, and how the lab ended over them.
use Rattle.std.specs.Prelude.{◌≡◌, ℕ, ◌+◌, ◌≤◌, ◌⊎◌, List, [], ◌∷◌, ◌++◌, length, Option, Some, None}
use Rattle.std.specs.Io.KnownBytes.{Appends, Consumes, IsAtEnd}
use Rattle.lard_base.specs.declared.limits.TheConstants.{MAX_INPUT_BYTES}
use Rattle.lard_base.specs.Outside.{WrotePrefix}
use Rattle.lard_lab.specs.declared.policy.Policy.{Policy}
use Rattle.lard_lab.specs.Lab.{totals_text}
use Rattle.lard_lines.specs.Lines.{lines_of}
use Rattle.lard_schedule.specs.declared.reader.Stage.TheVariants.{Running}
use Rattle.lard_lab_run.specs.declared.end.LabEnd.{LabEnd}
use Rattle.lard_lab_run.specs.declared.end.LabEnd.TheVariants.{Done, Refused, ReadFault, WriteFault, NoMemory, Limit}
use Rattle.lard_lab_run.specs.Trial.{LeadsInLab, LabProgress, lab_begin, lab_gain, lab_whole}

-- ---- how a lab ends over the text that it read

-- the end is that of the whole text, and all that it gives was written
pub record CompletesLab (policy : Policy) (end : LabEnd) (text : List ℕ) (old new : Option (List ℕ)) : Type 0 where
  pub end_is : (lab_whole policy text).0 ≡ end
  pub written : Appends old new (lab_whole policy text).1

-- the text is the whole input, or whatever follows it, the lab is the same
abbrev pub IsLabDecided : Policy → List ℕ → Option (List ℕ) → Type 0
IsLabDecided policy text left = IsAtEnd left ⊎ ((more : List ℕ) → lab_whole policy (text ++ more) ≡ lab_whole policy text)

-- The text is lines that were passed, with all that they give written, and one more, which was taken: of what came of it a front was written.
pub record EndsInLabLine (policy : Policy) (text : List ℕ) (old new : Option (List ℕ)) : Type 0 where
  pub lines : List (List ℕ)
  pub line : List ℕ
  pub are : lines_of text ≡ lines ++ line ∷ [] ∷ []
  pub state : LabProgress
  pub told : List ℕ
  pub leads : LeadsInLab (lab_begin policy) lines told state
  pub between : Option (List ℕ)
  pub written : Appends old between told
  pub front : WrotePrefix between new (lab_gain state line)

-- The text is lines that were passed, and a last one that has no line feed; all that the lines give was written, and nothing more.
pub record EndsBehindLabLines (policy : Policy) (text : List ℕ) (old new : Option (List ℕ)) : Type 0 where
  pub lines : List (List ℕ)
  pub last : List ℕ
  pub are : lines_of text ≡ lines ++ last ∷ []
  pub state : LabProgress
  pub told : List ℕ
  pub leads : LeadsInLab (lab_begin policy) lines told state
  pub written : Appends old new told

-- The text is the whole input, and all of its lines were passed, `go` among them; of the totals a front was written.
pub record EndsInTotals (policy : Policy) (text : List ℕ) (left old new : Option (List ℕ)) : Type 0 where
  pub whole_is : IsAtEnd left
  pub lines : List (List ℕ)
  pub are : lines_of text ≡ lines ++ [] ∷ []
  pub state : LabProgress
  pub running : state.reader.stage ≡ Running
  pub told : List ℕ
  pub leads : LeadsInLab (lab_begin policy) lines told state
  pub between : Option (List ℕ)
  pub written : Appends old between told
  pub front : WrotePrefix between new (totals_text state.lab)

-- A fault of reading comes behind lines that were all passed, and leaves what they give. A fault of writing comes in a line or in the totals, and
-- memory runs out in a line, behind one, or in the totals.
abbrev pub LabEnded : Policy → LabEnd → List ℕ → Option (List ℕ) → Option (List ℕ) → Option (List ℕ) → Type 0
LabEnded policy Done text left old new = IsAtEnd left × (length text ≤ MAX_INPUT_BYTES) × CompletesLab policy Done text old new
LabEnded policy (Refused line why) text left old new = IsLabDecided policy text left × CompletesLab policy (Refused line why) text old new
LabEnded policy (Limit line what) text left old new = IsLabDecided policy text left × CompletesLab policy (Limit line what) text old new
LabEnded policy ReadFault text left old new = (length text ≤ MAX_INPUT_BYTES) × EndsBehindLabLines policy text old new
LabEnded policy WriteFault text left old new = EndsInLabLine policy text old new ⊎ EndsInTotals policy text left old new
LabEnded policy NoMemory text left old new = EndsInLabLine policy text old new ⊎ (EndsBehindLabLines policy text old new ⊎ EndsInTotals policy text left old new)

-- The lab tells of all that was read; or, where a write failed or memory ran out, of a front of it.
abbrev pub IsLabTold : LabEnd → List ℕ → List ℕ → Type 0
IsLabTold WriteFault read text = (behind : List ℕ) × (read ≡ text ++ behind)
IsLabTold NoMemory read text = (behind : List ℕ) × (read ≡ text ++ behind)
IsLabTold _ read text = read ≡ text

-- what was read, the text of it that the lab tells of, that a front of what that gives was written, and how the lab ended over it
pub record LabReads (policy : Policy) (end : LabEnd) (left left_now old new : Option (List ℕ)) : Type 0 where
  pub read : List ℕ
  pub consumed : Consumes left left_now read
  pub bounded : length read ≤ MAX_INPUT_BYTES + 1
  pub text : List ℕ
  pub told : IsLabTold end read text
  pub wrote : WrotePrefix old new (lab_whole policy text).1
  pub ended : LabEnded policy end text left_now old new

-- the end is that of a known input, unless memory ran out
abbrev pub IsSettledLab : Policy → LabEnd → Option (List ℕ) → Type 0
IsSettledLab policy end None = Unit {0}
IsSettledLab policy end (Some input) = (end ≡ (lab_whole policy input).0) ⊎ (end ≡ NoMemory)
