-- A lab ends over a text by an end exactly where a line, or the text's end, gives its cause. And all that the command says.
use Rattle.std.proofs.Common.{◌≡◌, ◌≢◌, ◌↔◌, ℕ, suc, ◌+◌, ◌≤◌, ◌<◌, List, [], ◌∷◌, ◌++◌, length, Bool, true, false, cond, Option, Some, None, Result, Ok, Err, refl, sym, ap, ◌∙◌, subst, inl, inr, ⊎_elim, add-zero, zero-add, append-nil, arith}
use Rattle.std.proofs.lemmas.Bool.Decides.{nat_tests}
use Rattle.std.specs.Prelude.{nat_lt}
use Rattle.lard_base.specs.declared.limits.TheConstants.{MAX_INPUT_BYTES}
use Rattle.lard_lab.specs.declared.policy.Policy.{Policy}
use Rattle.lard_lines.specs.Lines.{is_feed, lines_of}
use Rattle.lard_schedule.proofs.Cuts.{first_part}
use Rattle.lard_schedule.specs.declared.reader.Stage.{Stage}
use Rattle.lard_schedule.specs.declared.reader.Stage.TheVariants as stage
use Rattle.lard_lab_run.specs.Causes.{EndsLab, EndsLabRest, EndsLabText, lab_bytes_in}
use Rattle.lard_lab_run.specs.Run.{LabEnded, IsLabDecided, IsSettledLab, IsLabTold, LabReads}
use Rattle.lard_lab_run.specs.Told.{IsReport, LabRan}
use Rattle.lard_lab_run.specs.Trial.{LeadsInLab, LabProgress, lab_begin, written_behind, lab_ended_at, lab_ending, lab_gain, lab_passed, run_from, totals_at, lab_whole}
use Rattle.lard_lab_run.specs.declared.end.LabEnd.{LabEnd}
use Rattle.lard_lab_run.specs.declared.end.LabEnd.TheVariants.{Done, Refused, ReadFault, WriteFault, NoMemory, Limit}
use Rattle.lard_lab_run.specs.declared.end.LabLimit.TheVariants.{Input, Requests}
use Rattle.lard_lab_run.specs.declared.end.LabWhy.TheVariants.{Syntax, Config, File, NoFile, NotOpen}
use Rattle.lard_lab_run.proofs.Causing.{Knows, begin-knows, ends-line, line-ends, next_number, passed-knows}
use Rattle.lard_lab_run.proofs.Follows.{told-report, told-so-far}
use Rattle.lard_lab_run.proofs.Going.{leads_whole}

-- ---- numbers

is_past_end : (r b m : ℕ) → r ≡ b → nat_lt MAX_INPUT_BYTES (r + m) ≡ true → MAX_INPUT_BYTES < b + m
is_past_end r b m e o = grind (arith, nat_tests, e, o)

past_end : (r b m : ℕ) → r ≡ b → MAX_INPUT_BYTES < b + m → nat_lt MAX_INPUT_BYTES (r + m) ≡ true
past_end r b m e o = grind (arith, nat_tests, e, o)

is_before_end : (r b m : ℕ) → r ≡ b → nat_lt MAX_INPUT_BYTES (r + m) ≡ false → b + m ≤ MAX_INPUT_BYTES
is_before_end r b m e o = grind (arith, nat_tests, e, o)

before_end : (r b m : ℕ) → r ≡ b → b + m ≤ MAX_INPUT_BYTES → nat_lt MAX_INPUT_BYTES (r + m) ≡ false
before_end r b m e o = grind (arith, nat_tests, e, o)

module _ (n bytes : ℕ) (s : LabProgress) (k : Knows n bytes s) where
  -- ---- the text's end

  number : s.lines + 1 ≡ n + 1
  number = next_number n bytes s k []

  small : bytes ≤ MAX_INPUT_BYTES
  small = subst (λ m. m ≤ MAX_INPUT_BYTES) k.read k.small

  -- `go` has not passed
  early : (st : Stage) → s.reader.stage ≡ st → st ≢ stage.Running → Refused (s.lines + 1) Syntax ≡ lab_ended_at s.lines st → (end : LabEnd) → lab_ended_at s.lines st ≡ end → EndsLabText s n bytes [] end
  early st p other is end h = subst (EndsLabText s n bytes []) (is ∙ h) (number, omega (arith, small), inr (λ e. other (sym p ∙ e)))

  text-ends : (last : List ℕ) (end : LabEnd) → lab_ending s last ≡ end → EndsLabText s n bytes last end
  text-ends [] end e = go s.reader.stage refl e where
    go : (st : Stage) → s.reader.stage ≡ st → lab_ended_at s.lines st ≡ end → EndsLabText s n bytes [] end
    go stage.Running p h = subst (EndsLabText s n bytes []) h (refl, p)
    go stage.Start p h = early stage.Start p (λ e. cc) refl end h
    go stage.Settings p h = early stage.Settings p (λ e. cc) refl end h
    go stage.Files p h = early stage.Files p (λ e. cc) refl end h
  text-ends (b ∷ bs) end e = go (nat_lt MAX_INPUT_BYTES (s.read + length (b ∷ bs))) refl e where
    go : (t : Bool) → nat_lt MAX_INPUT_BYTES (s.read + length (b ∷ bs)) ≡ t → cond t (Limit (s.lines + 1) Input) (Refused (s.lines + 1) Syntax) ≡ end → EndsLabText s n bytes (b ∷ bs) end
    go true p h = subst (EndsLabText s n bytes (b ∷ bs)) h (number, is_past_end s.read bytes (length (b ∷ bs)) k.read p)
    go false p h = subst (EndsLabText s n bytes (b ∷ bs)) h (number, is_before_end s.read bytes (length (b ∷ bs)) k.read p, inl (λ e. cc))

  ends-text : (last : List ℕ) (end : LabEnd) → EndsLabText s n bytes last end → lab_ending s last ≡ end
  ends-text last Done u = subst (λ (xs : List ℕ). lab_ending s xs ≡ Done) (sym u.0) (ap (lab_ended_at s.lines) u.1)
  ends-text [] (Refused line Syntax) u = not_begun s.reader.stage refl (⊎_elim (λ (some : [] ≢ []). absurd (some refl)) (λ (other : s.reader.stage ≢ stage.Running). other) u.2) where
    not_begun : (st : Stage) → s.reader.stage ≡ st → s.reader.stage ≢ stage.Running → lab_ended_at s.lines st ≡ Refused line Syntax
    not_begun stage.Running p other = absurd (other p)
    not_begun stage.Start p other = ap (λ m. Refused m Syntax) (number ∙ sym u.0)
    not_begun stage.Settings p other = ap (λ m. Refused m Syntax) (number ∙ sym u.0)
    not_begun stage.Files p other = ap (λ m. Refused m Syntax) (number ∙ sym u.0)
  ends-text (b ∷ bs) (Refused line Syntax) u = rw (before_end s.read bytes (length (b ∷ bs)) k.read u.1) (ap (λ m. Refused m Syntax) (number ∙ sym u.0))
  ends-text [] (Limit line Input) u = absurd (omega (arith, small, u.1))
  ends-text (b ∷ bs) (Limit line Input) u = rw (past_end s.read bytes (length (b ∷ bs)) k.read u.1) (ap (λ m. Limit m Input) (number ∙ sym u.0))
  ends-text last (Limit line Requests) u = absurd u
  ends-text last (Refused line (Config fault)) u = absurd u
  ends-text last (Refused line (File fault)) u = absurd u
  ends-text last (Refused line NoFile) u = absurd u
  ends-text last (Refused line (NotOpen i)) u = absurd u
  ends-text last ReadFault u = absurd u
  ends-text last WriteFault u = absurd u
  ends-text last NoMemory u = absurd u

-- ---- lines

-- from a state on, some lines pass, and the next ends the lab
record EndsFrom (s : LabProgress) (n bytes : ℕ) (lines : List (List ℕ)) (end : LabEnd) : Type 0 where
  before : List (List ℕ)
  rest : List (List ℕ)
  are : lines ≡ before ++ rest
  state : LabProgress
  told : List ℕ
  leads : LeadsInLab s before told state
  ends : EndsLabRest state (n + length before) (bytes + lab_bytes_in before) rest end

-- the first of the lines ends the lab
at_once : (s : LabProgress) (n bytes : ℕ) (lines : List (List ℕ)) (end : LabEnd) → EndsLabRest s n bytes lines end → EndsFrom s n bytes lines end
at_once s n bytes lines end e = record {
  before = [];
  rest = lines;
  are = refl;
  state = s;
  told = [];
  leads = (refl, refl);
  ends = subst (λ m. EndsLabRest s m (bytes + 0) lines end) (sym (add-zero n)) (subst (λ m. EndsLabRest s n m lines end) (sym (add-zero bytes)) e);
}

-- the first line passes
and_later : (s u : LabProgress) (n bytes : ℕ) (line : List ℕ) (lines : List (List ℕ)) (end : LabEnd) → lab_passed s line ≡ Ok u → EndsFrom u (n + 1) (bytes + (length line + 1)) lines end → EndsFrom s n bytes (line ∷ lines) end
and_later s u n bytes line lines end p e =
    let count : (n + 1) + length e.before ≡ n + suc (length e.before) = omega arith in
    let sum : (bytes + (length line + 1)) + lab_bytes_in e.before ≡ bytes + ((length line + 1) + lab_bytes_in e.before) = omega arith in
    record {
      before = line ∷ e.before;
      rest = e.rest;
      are = ap (λ xs. line ∷ xs) e.are;
      state = e.state;
      told = lab_gain s line ++ e.told;
      leads = (u, e.told, p, refl, e.leads);
      ends = subst (λ m. EndsLabRest e.state m (bytes + lab_bytes_in (line ∷ e.before)) e.rest end) count
          (subst (λ m. EndsLabRest e.state ((n + 1) + length e.before) m e.rest end) sum e.ends);
    }

ends-from : (line : List ℕ) (more : List (List ℕ)) (n bytes : ℕ) (s : LabProgress) (end : LabEnd) → Knows n bytes s → (run_from s (line ∷ more)).0 ≡ end → EndsFrom s n bytes (line ∷ more) end
ends-from line [] n bytes s end k e = at_once s n bytes (line ∷ []) end (text-ends n bytes s k line end e)
ends-from line (next ∷ more) n bytes s end k e = go (lab_passed s line) refl e (λ u j f. ends-from next more (n + 1) (bytes + (length line + 1)) u end j f) where
  go : (r : Result LabProgress LabEnd) → lab_passed s line ≡ r → (elim r as (λ _. LabEnd × List ℕ) [ Err other ↦ (other, []) | Ok t ↦ written_behind (lab_gain s line) (run_from t (next ∷ more)) ]).0 ≡ end
      → ((u : LabProgress) → Knows (n + 1) (bytes + (length line + 1)) u → (run_from u (next ∷ more)).0 ≡ end → EndsFrom u (n + 1) (bytes + (length line + 1)) (next ∷ more) end) → EndsFrom s n bytes (line ∷ next ∷ more) end
  go (Err other) p f later = at_once s n bytes (line ∷ next ∷ more) end (line-ends n bytes s k line end (p ∙ ap Err f))
  go (Ok u) p f later = and_later s u n bytes line (next ∷ more) end p (later u (passed-knows n bytes s u line k p) f)

-- ---- and back

-- a line that passes leads on to the lines behind it
passes_on : (s u : LabProgress) (line : List ℕ) (tail : List (List ℕ)) → lab_passed s line ≡ Ok u → tail ≢ [] → (run_from s (line ∷ tail)).0 ≡ (run_from u tail).0
passes_on s u line [] p some = absurd (some refl)
passes_on s u line (next ∷ more) p some = rw (p, run_from) refl

some_rest : (t : LabProgress) (n bytes : ℕ) (before rest : List (List ℕ)) (end : LabEnd) → EndsLabRest t n bytes rest end → before ++ rest ≢ []
some_rest t n bytes [] [] end e none = e
some_rest t n bytes [] (line ∷ more) end e none = cc
some_rest t n bytes (line ∷ before) rest end e none = cc

rest_ends : (n bytes : ℕ) (s : LabProgress) (rest : List (List ℕ)) (end : LabEnd) → Knows n bytes s → EndsLabRest s n bytes rest end → (run_from s rest).0 ≡ end
rest_ends n bytes s [] end k e = absurd e
rest_ends n bytes s (last ∷ []) end k e = ends-text n bytes s k last end e
rest_ends n bytes s (line ∷ next ∷ more) end k e = let p = ends-line n bytes s k line end e in rw (p, run_from) refl

from_ends : (before : List (List ℕ)) (n bytes : ℕ) (s t : LabProgress) (told : List ℕ) (rest : List (List ℕ)) (end : LabEnd) → Knows n bytes s → LeadsInLab s before told t → EndsLabRest t (n + length before) (bytes + lab_bytes_in before) rest end
    → (run_from s (before ++ rest)).0 ≡ end
from_ends [] n bytes s t told rest end k l e = rest_ends n bytes s rest end k
    (subst (λ (u : LabProgress). EndsLabRest u n bytes rest end) (sym l.0) (subst (λ m. EndsLabRest t m bytes rest end) (add-zero n) (subst (λ m. EndsLabRest t (n + 0) m rest end) (add-zero bytes) e)))
from_ends (line ∷ before) n bytes s t told rest end k l e =
    let count : n + suc (length before) ≡ (n + 1) + length before = omega arith in
    let sum : bytes + ((length line + 1) + lab_bytes_in before) ≡ (bytes + (length line + 1)) + lab_bytes_in before = omega arith in
    let later = subst (λ m. EndsLabRest t m ((bytes + (length line + 1)) + lab_bytes_in before) rest end) count (subst (λ m. EndsLabRest t (n + suc (length before)) m rest end) sum e) in
    passes_on s l.0 line (before ++ rest) l.2 (some_rest t _ _ before rest end e)
    ∙ from_ends before (n + 1) (bytes + (length line + 1)) l.0 t l.1 rest end (passed-knows n bytes s l.0 line k l.2) l.4 later

-- ---- a text

text_lines : (policy : Policy) (lines : List (List ℕ)) (part : List ℕ) (parts : List (List ℕ)) (end : LabEnd) → lines ≡ part ∷ parts → (run_from (lab_begin policy) lines).0 ≡ end → EndsLab policy lines end
text_lines policy lines part parts end e r =
    let found = ends-from part parts 0 0 (lab_begin policy) end (begin-knows policy) (ap (λ xs. (run_from (lab_begin policy) xs).0) (sym e) ∙ r) in
    record {
      before = found.before;
      rest = found.rest;
      are = e ∙ found.are;
      state = found.state;
      told = found.told;
      leads = found.leads;
      ends = subst (λ m. EndsLabRest found.state m (lab_bytes_in found.before) found.rest end) (zero-add (length found.before))
          (subst (λ m. EndsLabRest found.state (0 + length found.before) m found.rest end) (zero-add (lab_bytes_in found.before)) found.ends);
    }

lines_text : (policy : Policy) (lines : List (List ℕ)) (end : LabEnd) → EndsLab policy lines end → (run_from (lab_begin policy) lines).0 ≡ end
lines_text policy lines end e =
    ap (λ xs. (run_from (lab_begin policy) xs).0) e.are
    ∙ from_ends e.before 0 0 (lab_begin policy) e.state e.told e.rest end (begin-knows policy) e.leads
    (subst (λ m. EndsLabRest e.state m (0 + lab_bytes_in e.before) e.rest end) (sym (zero-add (length e.before)))
    (subst (λ m. EndsLabRest e.state (length e.before) m e.rest end) (sym (zero-add (lab_bytes_in e.before))) e.ends))

-- a lab ends over a text by an end exactly where its cause is there
caused : (policy : Policy) (text : List ℕ) (end : LabEnd) → ((lab_whole policy text).0 ≡ end) ↔ EndsLab policy (lines_of text) end
unfolding lab_whole
caused policy text end =
    let first = first_part is_feed text in
    (λ e. text_lines policy (lines_of text) first.0 first.1 end first.2 e, λ e. lines_text policy (lines_of text) end e)

-- ---- the report

-- what ends a lab that is done: nothing behind the last line feed
done-rest : (s : LabProgress) (n bytes : ℕ) (rest : List (List ℕ)) → EndsLabRest s n bytes rest Done → (rest ≡ [] ∷ []) × (s.reader.stage ≡ stage.Running)
done-rest s n bytes [] e = absurd e
done-rest s n bytes (last ∷ []) e = (ap (λ (xs : List ℕ). xs ∷ []) e.0, e.1)
done-rest s n bytes (line ∷ next ∷ more) e = absurd e

reported : (policy : Policy) (text : List ℕ) → (lab_whole policy text).0 ≡ Done → IsReport policy text (lab_whole policy text).1
unfolding lab_whole
reported policy text e =
    let ends = (caused policy text Done).0 e in
    let rest = done-rest ends.state (length ends.before) (lab_bytes_in ends.before) ends.rest ends.ends in
    let lines : lines_of text ≡ ends.before ++ [] ∷ [] = ends.are ∙ ap (λ (ls : List (List ℕ)). ends.before ++ ls) rest.0 in
    let all : run_from (lab_begin policy) (lines_of text) ≡ written_behind ends.told (run_from ends.state ([] ∷ [])) = ap (run_from (lab_begin policy)) lines ∙ leads_whole (lab_begin policy) ends.state ends.before ends.told [] [] ends.leads in
    record {
      lines = ends.before;
      are = lines;
      is = ap (λ (p : LabEnd × List ℕ). p.1) all ∙ ap (λ (st : Stage). ends.told ++ totals_at st ends.state.lab) rest.1 ∙ told-report policy ends.before ends.told ends.state ends.leads rest.1;
    }

-- ---- the whole of a lab

pub ran : (policy : Policy) (end : LabEnd) (left left_now old new : Option (List ℕ)) → LabReads policy end left left_now old new → LabRan policy end left left_now old new
ran policy end left left_now old new r = record {
  read = r.read;
  consumed = r.consumed;
  bounded = r.bounded;
  text = r.text;
  told = r.told;
  wrote = r.wrote;
  ended = r.ended;
  causes = λ other. caused policy r.text other;
  so_far = λ lines written s l. told-so-far policy lines written s l;
  report = λ e. reported policy r.text e;
}

-- where no fault came, the input alone decides how a lab ends
pub settled : (policy : Policy) (end : LabEnd) (left left_now old new : Option (List ℕ)) → LabReads policy end left left_now old new → ¬ (end ≡ ReadFault) → ¬ (end ≡ WriteFault) → IsSettledLab policy end left
settled policy end None left_now old new reads read written = tt
settled policy end (Some input) None old new reads read written = absurd reads.consumed
settled policy end (Some input) (Some after) old new reads read written = go end reads.told reads.ended read written where
  all : reads.read ≡ reads.text → IsLabDecided policy reads.text (Some after) → lab_whole policy input ≡ lab_whole policy reads.text
  all told (inl ends) = ap (lab_whole policy) (reads.consumed ∙ ap (λ rest. reads.read ++ rest) ends ∙ append-nil reads.read ∙ told)
  all told (inr same) = ap (lab_whole policy) (reads.consumed ∙ ap (λ text. text ++ after) told) ∙ same after

  same : (made : LabEnd) → reads.read ≡ reads.text → IsLabDecided policy reads.text (Some after) → (lab_whole policy reads.text).0 ≡ made → made ≡ (lab_whole policy input).0
  same made told how is = sym is ∙ ap (λ p. p.0) (sym (all told how))

  go : (made : LabEnd) → IsLabTold made reads.read reads.text → LabEnded policy made reads.text (Some after) old new → ¬ (made ≡ ReadFault) → ¬ (made ≡ WriteFault) → IsSettledLab policy made (Some input)
  go Done told ended read written = inl (same Done told (inl ended.0) ended.2.end_is)
  go (Refused line reason) told ended read written = inl (same (Refused line reason) told ended.0 ended.1.end_is)
  go (Limit line what) told ended read written = inl (same (Limit line what) told ended.0 ended.1.end_is)
  go NoMemory told ended read written = inr refl
  go ReadFault told ended read written = absurd (read refl)
  go WriteFault told ended read written = absurd (written refl)
