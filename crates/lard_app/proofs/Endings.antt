-- A text's replay ends with a status exactly where a line, or the text's end, gives its cause.
use Rattle.std.proofs.Common.{◌≡◌, ◌≢◌, ◌↔◌, ℕ, suc, ◌+◌, ◌≤◌, ◌<◌, List, [], ◌∷◌, ◌++◌, length, Bool, true, false, cond, Result, Ok, Err, refl, sym, ap, ◌∙◌, subst, inl, inr, ⊎_elim, add-zero, zero-add, arith}
use Rattle.std.proofs.lemmas.Bool.Decides.{nat_tests}
use Rattle.std.specs.Prelude.{nat_lt}
use Rattle.lard_law_view.specs.Prelude.{MAX_INPUT_BYTES}
use Rattle.lard_lines.specs.Lines.{is_feed, lines_of}
use Rattle.lard_rules.specs.declared.fault.What.TheVariants.{Input, Packets, PacketBytes, Records, Answers, Requests, Stream}
use Rattle.lard_schedule.specs.declared.reader.Stage.{Stage}
use Rattle.lard_schedule.specs.declared.reader.Stage.TheVariants as stage
use Rattle.lard_schedule.proofs.Cuts.{first_part}
use Rattle.lard_app.specs.declared.status.Status.{Status}
use Rattle.lard_app.specs.declared.status.Status.TheVariants.{Done, Usage, Refused, ReadFault, WriteFault, NoMemory, Limit}
use Rattle.lard_app.specs.declared.status.Why.TheVariants.{Syntax, Config, File, Untimely, NoFile, NotOpen, Broken}
use Rattle.lard_app.specs.Causes.{EndsRun, EndsRest, EndsText, Leads, lines_bytes}
use Rattle.lard_app.specs.Replay.{Progress, begin, ended_behind, ending, halted, line_passed, replayed, whole}
use Rattle.lard_app.proofs.Causes.{ends-line, line-ends, next_number}
use Rattle.lard_app.proofs.Knows.{Knows, begin-knows, passed-knows}

-- ---- numbers

is_past_end : (r b m : ℕ) → r ≡ b → nat_lt MAX_INPUT_BYTES (r + m) ≡ true → MAX_INPUT_BYTES < b + m
is_past_end r b m e o = grind (arith, nat_tests, e, o)

past_end : (r b m : ℕ) → r ≡ b → MAX_INPUT_BYTES < b + m → nat_lt MAX_INPUT_BYTES (r + m) ≡ true
past_end r b m e o = grind (arith, nat_tests, e, o)

is_before_end : (r b m : ℕ) → r ≡ b → nat_lt MAX_INPUT_BYTES (r + m) ≡ false → b + m ≤ MAX_INPUT_BYTES
is_before_end r b m e o = grind (arith, nat_tests, e, o)

before_end : (r b m : ℕ) → r ≡ b → b + m ≤ MAX_INPUT_BYTES → nat_lt MAX_INPUT_BYTES (r + m) ≡ false
before_end r b m e o = grind (arith, nat_tests, e, o)

module _ (n bytes : ℕ) (s : Progress) (k : Knows n bytes s) where
  -- ---- the text's end

  number : s.lines + 1 ≡ n + 1
  number = next_number n bytes s k []

  small : bytes ≤ MAX_INPUT_BYTES
  small = subst (λ m. m ≤ MAX_INPUT_BYTES) k.read k.keeps.read

  -- `go` has not passed
  early : (st : Stage) → s.reader.stage ≡ st → st ≢ stage.Running → Refused (s.lines + 1) Syntax ≡ ended_behind s.lines st → (status : Status) → ended_behind s.lines st ≡ status → EndsText s n bytes [] status
  early st p other is status h = subst (EndsText s n bytes []) (is ∙ h) (number, omega (arith, small), inr (λ e. other (sym p ∙ e)))

  text-ends : (last : List ℕ) (status : Status) → ending s last ≡ status → EndsText s n bytes last status
  text-ends [] status e = go s.reader.stage refl e where
    go : (st : Stage) → s.reader.stage ≡ st → ended_behind s.lines st ≡ status → EndsText s n bytes [] status
    go stage.Running p h = subst (EndsText s n bytes []) h (refl, p)
    go stage.Start p h = early stage.Start p (λ e. cc) refl status h
    go stage.Settings p h = early stage.Settings p (λ e. cc) refl status h
    go stage.Files p h = early stage.Files p (λ e. cc) refl status h
  text-ends (b ∷ bs) status e = go (nat_lt MAX_INPUT_BYTES (s.read + length (b ∷ bs))) refl e where
    go : (t : Bool) → nat_lt MAX_INPUT_BYTES (s.read + length (b ∷ bs)) ≡ t → cond t (Limit (s.lines + 1) Input) (Refused (s.lines + 1) Syntax) ≡ status → EndsText s n bytes (b ∷ bs) status
    go true p h = subst (EndsText s n bytes (b ∷ bs)) h (number, is_past_end s.read bytes (length (b ∷ bs)) k.read p)
    go false p h = subst (EndsText s n bytes (b ∷ bs)) h (number, is_before_end s.read bytes (length (b ∷ bs)) k.read p, inl (λ e. cc))

  ends-text : (last : List ℕ) (status : Status) → EndsText s n bytes last status → ending s last ≡ status
  ends-text last Done u = subst (λ (xs : List ℕ). ending s xs ≡ Done) (sym u.0) (ap (ended_behind s.lines) u.1)
  ends-text [] (Refused line Syntax) u = not_begun s.reader.stage refl (⊎_elim (λ (some : [] ≢ []). absurd (some refl)) (λ (other : s.reader.stage ≢ stage.Running). other) u.2) where
    not_begun : (st : Stage) → s.reader.stage ≡ st → s.reader.stage ≢ stage.Running → ended_behind s.lines st ≡ Refused line Syntax
    not_begun stage.Running p other = absurd (other p)
    not_begun stage.Start p other = ap (λ m. Refused m Syntax) (number ∙ sym u.0)
    not_begun stage.Settings p other = ap (λ m. Refused m Syntax) (number ∙ sym u.0)
    not_begun stage.Files p other = ap (λ m. Refused m Syntax) (number ∙ sym u.0)
  ends-text (b ∷ bs) (Refused line Syntax) u = rw (before_end s.read bytes (length (b ∷ bs)) k.read u.1) (ap (λ m. Refused m Syntax) (number ∙ sym u.0))
  ends-text [] (Limit line Input) u = absurd (omega (arith, small, u.1))
  ends-text (b ∷ bs) (Limit line Input) u = rw (past_end s.read bytes (length (b ∷ bs)) k.read u.1) (ap (λ m. Limit m Input) (number ∙ sym u.0))
  ends-text last (Limit line Packets) u = absurd u
  ends-text last (Limit line PacketBytes) u = absurd u
  ends-text last (Limit line Records) u = absurd u
  ends-text last (Limit line Answers) u = absurd u
  ends-text last (Limit line Requests) u = absurd u
  ends-text last (Limit line Stream) u = absurd u
  ends-text last (Refused line (Config fault)) u = absurd u
  ends-text last (Refused line (File fault)) u = absurd u
  ends-text last (Refused line (Untimely reason)) u = absurd u
  ends-text last (Refused line NoFile) u = absurd u
  ends-text last (Refused line (NotOpen number)) u = absurd u
  ends-text last (Refused line (Broken rule)) u = absurd u
  ends-text last Usage u = absurd u
  ends-text last ReadFault u = absurd u
  ends-text last WriteFault u = absurd u
  ends-text last NoMemory u = absurd u

-- ---- lines

-- from a state on, some lines pass, and the next ends the run
record EndsFrom (s : Progress) (n bytes : ℕ) (lines : List (List ℕ)) (status : Status) : Type 0 where
  before : List (List ℕ)
  rest : List (List ℕ)
  are : lines ≡ before ++ rest
  state : Progress
  leads : Leads s before state
  ends : EndsRest state (n + length before) (bytes + lines_bytes before) rest status

-- the first of the lines ends the run
at_once : (s : Progress) (n bytes : ℕ) (lines : List (List ℕ)) (status : Status) → EndsRest s n bytes lines status → EndsFrom s n bytes lines status
at_once s n bytes lines status e = record {
  before = [];
  rest = lines;
  are = refl;
  state = s;
  leads = refl;
  ends = subst (λ m. EndsRest s m (bytes + 0) lines status) (sym (add-zero n)) (subst (λ m. EndsRest s n m lines status) (sym (add-zero bytes)) e);
}

-- the first line passes
and_later : (s u : Progress) (n bytes : ℕ) (line : List ℕ) (lines : List (List ℕ)) (status : Status) → line_passed s line ≡ Ok u → EndsFrom u (n + 1) (bytes + (length line + 1)) lines status → EndsFrom s n bytes (line ∷ lines) status
and_later s u n bytes line lines status p e =
    let count : (n + 1) + length e.before ≡ n + suc (length e.before) = omega arith in
    let sum : (bytes + (length line + 1)) + lines_bytes e.before ≡ bytes + ((length line + 1) + lines_bytes e.before) = omega arith in
    record {
      before = line ∷ e.before;
      rest = e.rest;
      are = ap (λ xs. line ∷ xs) e.are;
      state = e.state;
      leads = (u, p, e.leads);
      ends = subst (λ m. EndsRest e.state m (bytes + lines_bytes (line ∷ e.before)) e.rest status) count
          (subst (λ m. EndsRest e.state ((n + 1) + length e.before) m e.rest status) sum e.ends);
    }

ends-from : (line : List ℕ) (more : List (List ℕ)) (n bytes : ℕ) (s : Progress) (status : Status) → Knows n bytes s → (replayed s (line ∷ more)).1 ≡ status → EndsFrom s n bytes (line ∷ more) status
ends-from line [] n bytes s status k e = at_once s n bytes (line ∷ []) status (text-ends n bytes s k line status e)
ends-from line (next ∷ more) n bytes s status k e = go (line_passed s line) refl e (λ u j f. ends-from next more (n + 1) (bytes + (length line + 1)) u status j f) where
  go : (r : Result Progress Status) → line_passed s line ≡ r → (elim r as (λ _. Progress × Status) [ Err other ↦ (halted s line, other) | Ok t ↦ replayed t (next ∷ more) ]).1 ≡ status
      → ((u : Progress) → Knows (n + 1) (bytes + (length line + 1)) u → (replayed u (next ∷ more)).1 ≡ status → EndsFrom u (n + 1) (bytes + (length line + 1)) (next ∷ more) status) → EndsFrom s n bytes (line ∷ next ∷ more) status
  go (Err other) p f later = at_once s n bytes (line ∷ next ∷ more) status (line-ends n bytes s k line status (p ∙ ap Err f))
  go (Ok u) p f later = and_later s u n bytes line (next ∷ more) status p (later u (passed-knows n bytes s u line k p) f)

-- ---- and back

-- a line that passes leads on to the lines behind it
passes_on : (s u : Progress) (line : List ℕ) (tail : List (List ℕ)) → line_passed s line ≡ Ok u → tail ≢ [] → replayed s (line ∷ tail) ≡ replayed u tail
passes_on s u line [] p some = absurd (some refl)
passes_on s u line (next ∷ more) p some = rw (p, replayed) refl

some_rest : (t : Progress) (n bytes : ℕ) (before rest : List (List ℕ)) (status : Status) → EndsRest t n bytes rest status → before ++ rest ≢ []
some_rest t n bytes [] [] status e none = e
some_rest t n bytes [] (line ∷ more) status e none = cc
some_rest t n bytes (line ∷ before) rest status e none = cc

rest_ends : (n bytes : ℕ) (s : Progress) (rest : List (List ℕ)) (status : Status) → Knows n bytes s → EndsRest s n bytes rest status → (replayed s rest).1 ≡ status
rest_ends n bytes s [] status k e = absurd e
rest_ends n bytes s (last ∷ []) status k e = ends-text n bytes s k last status e
rest_ends n bytes s (line ∷ next ∷ more) status k e = let p = ends-line n bytes s k line status e in rw (p, replayed) refl

from_ends : (before : List (List ℕ)) (n bytes : ℕ) (s t : Progress) (rest : List (List ℕ)) (status : Status) → Knows n bytes s → Leads s before t → EndsRest t (n + length before) (bytes + lines_bytes before) rest status
    → (replayed s (before ++ rest)).1 ≡ status
from_ends [] n bytes s t rest status k l e = rest_ends n bytes s rest status k
    (subst (λ (u : Progress). EndsRest u n bytes rest status) (sym l) (subst (λ m. EndsRest t m bytes rest status) (add-zero n) (subst (λ m. EndsRest t (n + 0) m rest status) (add-zero bytes) e)))
from_ends (line ∷ before) n bytes s t rest status k l e =
    let count : n + suc (length before) ≡ (n + 1) + length before = omega arith in
    let sum : bytes + ((length line + 1) + lines_bytes before) ≡ (bytes + (length line + 1)) + lines_bytes before = omega arith in
    let later = subst (λ m. EndsRest t m ((bytes + (length line + 1)) + lines_bytes before) rest status) count (subst (λ m. EndsRest t (n + suc (length before)) m rest status) sum e) in
    ap (λ p. p.1) (passes_on s l.0 line (before ++ rest) l.1 (some_rest t _ _ before rest status e))
    ∙ from_ends before (n + 1) (bytes + (length line + 1)) l.0 t rest status (passed-knows n bytes s l.0 line k l.1) l.2 later

-- ---- a text

text_lines : (lines : List (List ℕ)) (part : List ℕ) (parts : List (List ℕ)) (status : Status) → lines ≡ part ∷ parts → (replayed begin lines).1 ≡ status → EndsRun lines status
text_lines lines part parts status e r =
    let found = ends-from part parts 0 0 begin status begin-knows (ap (λ xs. (replayed begin xs).1) (sym e) ∙ r) in
    record {
      before = found.before;
      rest = found.rest;
      are = e ∙ found.are;
      state = found.state;
      leads = found.leads;
      ends = subst (λ m. EndsRest found.state m (lines_bytes found.before) found.rest status) (zero-add (length found.before))
          (subst (λ m. EndsRest found.state (0 + length found.before) m found.rest status) (zero-add (lines_bytes found.before)) found.ends);
    }

lines_text : (lines : List (List ℕ)) (status : Status) → EndsRun lines status → (replayed begin lines).1 ≡ status
lines_text lines status e =
    ap (λ xs. (replayed begin xs).1) e.are
    ∙ from_ends e.before 0 0 begin e.state e.rest status begin-knows e.leads
    (subst (λ m. EndsRest e.state m (0 + lines_bytes e.before) e.rest status) (sym (zero-add (length e.before)))
    (subst (λ m. EndsRest e.state (length e.before) m e.rest status) (sym (zero-add (lines_bytes e.before))) e.ends))

-- a text's replay ends with a status exactly where its cause is there
pub caused : (text : List ℕ) (status : Status) → ((whole text).1 ≡ status) ↔ EndsRun (lines_of text) status
unfolding whole
caused text status =
    let first = first_part is_feed text in
    (λ e. text_lines (lines_of text) first.0 first.1 status first.2 e, λ e. lines_text (lines_of text) status e)
