-- The lines of a trace that are passed, one after another: what was written so far, and what the rest gives.
use Rattle.std.proofs.Common.{◌≡◌, ◌≢◌, ◌⊎◌, inl, inr, ℕ, ◌+◌, ◌≤◌, ◌<◌, List, [], ◌∷◌, ◌++◌, length, take, drop, Bool, true, false, cond, Option, Some, None, Result, Ok, Err, refl, sym, ap, ◌∙◌, subst, append_assoc, append-nil, arith, length-append, length-drop}
use Rattle.std.proofs.KnownBytes.{Appends-trans, Appends-nil}
use Rattle.std.specs.Io.KnownBytes.{Appends, IsAtEnd}
use Rattle.std.proofs.lemmas.Bool.Decides.{nat_tests}
use Rattle.std.proofs.lemmas.List.{drop-append-le, length-take-le, take-append-drop, take-append-le}
use Rattle.std.proofs.lemmas.List.Quantifiers.{position-Some}
use Rattle.std.specs.List.{position}
use Rattle.std.specs.Prelude.{nat_lt}
use Rattle.lard_base.specs.declared.limits.TheConstants.{MAX_INPUT_BYTES}
use Rattle.lard_base.specs.Outside.{WrotePrefix}
use Rattle.lard_lab.specs.declared.policy.Policy.{Policy}
use Rattle.lard_lab.specs.Lab.{totals_text}
use Rattle.lard_lines.proofs.Feeds.{found_before, none_until}
use Rattle.lard_lines.specs.Lines.{is_feed, lines_of}
use Rattle.lard_schedule.specs.declared.reader.Stage.{Stage}
use Rattle.lard_schedule.specs.declared.reader.Stage.TheVariants.{Start, Settings, Files, Running}
use Rattle.lard_schedule.proofs.Cuts.{first_part, split_alone, split_at}
use Rattle.lard_lab_run.specs.Run.{CompletesLab, LabEnded, EndsInLabLine, EndsInTotals, IsLabDecided, IsLabTold}
use Rattle.lard_lab_run.specs.Trial.{Finishes, IsLabSound, LeadsInLab, PassesInLab, LabProgress, lab_begin, written_behind, end_gain, lab_ended_at, lab_ending, lab_gain, lab_is_past, lab_passed, run_from, totals_at, lab_whole}
use Rattle.lard_lab_run.specs.declared.end.LabEnd.{LabEnd}
use Rattle.lard_lab_run.specs.declared.end.LabEnd.TheVariants.{Done, Refused, ReadFault, WriteFault, NoMemory, Limit}
use Rattle.lard_lab_run.specs.declared.end.LabLimit.TheVariants.{Input}
use Rattle.lard_lab_run.specs.declared.end.LabWhy.TheVariants.{Syntax}
use Rattle.lard_lab_run.proofs.Passing.{begin-sound, passed-read, passed-sound, passed_by, refused-nothing}

-- ---- lines that pass

behind_more : (xs ys : List ℕ) (p : LabEnd × List ℕ) → written_behind xs (written_behind ys p) ≡ written_behind (xs ++ ys) p
behind_more xs ys p = ap (λ (t : List ℕ). (p.0, t)) (sym (append_assoc xs ys p.1))

-- lines that pass, and one more
leads_on : (s t u : LabProgress) (lines : List (List ℕ)) (line told : List ℕ) → LeadsInLab s lines told t → lab_passed t line ≡ Ok u → LeadsInLab s (lines ++ line ∷ []) (told ++ lab_gain t line) u
leads_on s t u [] line told l e = (
  u,
  [],
  ap (λ (v : LabProgress). lab_passed v line) l.0 ∙ e,
  ap (λ (xs : List ℕ). xs ++ lab_gain t line) l.1 ∙ ap (λ (v : LabProgress). lab_gain v line) (sym l.0) ∙ sym (append-nil (lab_gain s line)),
  (refl, refl),
)
leads_on s t u (first ∷ lines) line told l e = (
  l.0,
  l.1 ++ lab_gain t line,
  l.2,
  ap (λ (xs : List ℕ). xs ++ lab_gain t line) l.3 ∙ append_assoc (lab_gain s first) l.1 (lab_gain t line),
  leads_on l.0 t u lines line l.1 l.4 e,
)

-- lines that pass lead a lab to what is behind them
pub leads_whole : (s t : LabProgress) (lines : List (List ℕ)) (told part : List ℕ) (parts : List (List ℕ)) → LeadsInLab s lines told t → run_from s (lines ++ part ∷ parts) ≡ written_behind told (run_from t (part ∷ parts))
leads_whole s t [] told part parts l = ap (λ (v : LabProgress). run_from v (part ∷ parts)) l.0 ∙ ap (λ (xs : List ℕ). written_behind xs (run_from t (part ∷ parts))) (sym l.1)
leads_whole s t (line ∷ []) told part parts l =
    let step : run_from s (line ∷ part ∷ parts) ≡ written_behind (lab_gain s line) (run_from l.0 (part ∷ parts)) = rw (l.2, run_from) refl in
    step ∙ ap (written_behind (lab_gain s line)) (leads_whole l.0 t [] l.1 part parts l.4) ∙ behind_more (lab_gain s line) l.1 (run_from t (part ∷ parts)) ∙ ap (λ (xs : List ℕ). written_behind xs (run_from t (part ∷ parts))) (sym l.3)
leads_whole s t (line ∷ next ∷ lines) told part parts l =
    let step : run_from s (line ∷ next ∷ (lines ++ part ∷ parts)) ≡ written_behind (lab_gain s line) (run_from l.0 (next ∷ (lines ++ part ∷ parts))) = rw (l.2, run_from) refl in
    step ∙ ap (written_behind (lab_gain s line)) (leads_whole l.0 t (next ∷ lines) l.1 part parts l.4) ∙ behind_more (lab_gain s line) l.1 (run_from t (part ∷ parts)) ∙ ap (λ (xs : List ℕ). written_behind xs (run_from t (part ∷ parts))) (sym l.3)

nothing : (xs : List ℕ) → length xs ≡ 0 → xs ≡ []
nothing [] none = refl
nothing (x ∷ xs) none = absurd (omega (arith, none))

-- The state after the lines of a text that are passed, with the rest of it. Whatever comes behind the text comes behind
-- the rest.
pub record Going (policy : Policy) (text rest : List ℕ) (s : LabProgress) (old now : Option (List ℕ)) : Type 0 where
  pub sound : IsLabSound s
  pub read : s.read + length rest ≡ length text
  pub lines : List (List ℕ)
  pub told : List ℕ
  pub leads : LeadsInLab (lab_begin policy) lines told s
  pub passed_text : List ℕ
  pub cut : text ≡ passed_text ++ rest
  pub are : (more : List ℕ) → lines_of (passed_text ++ more) ≡ lines ++ lines_of more
  pub written : Appends old now told

-- the lines of the whole text are those that were passed, and those of the rest, whatever comes behind
lines-of-all : (policy : Policy) (text rest : List ℕ) (s : LabProgress) (old now : Option (List ℕ)) (g : Going policy text rest s old now) (more : List ℕ) → lines_of (text ++ more) ≡ g.lines ++ lines_of (rest ++ more)
lines-of-all policy text rest s old now g more = ap (λ (xs : List ℕ). lines_of (xs ++ more)) g.cut ∙ ap lines_of (append_assoc g.passed_text rest more) ∙ g.are (rest ++ more)

pub going_first : (policy : Policy) (s : LabProgress) (old : Option (List ℕ)) → s ≡ lab_begin policy → Going policy [] [] s old old
going_first policy s old e = record {
  sound = subst IsLabSound (sym e) (begin-sound policy);
  read = subst (λ (t : LabProgress). t.read + 0 ≡ 0) (sym e) (omega arith);
  lines = [];
  told = [];
  leads = (sym e, refl);
  passed_text = [];
  cut = refl;
  are = λ more. refl;
  written = Appends-nil old;
}

-- more is read
pub going_more : (policy : Policy) (text rest taken : List ℕ) (s : LabProgress) (old now : Option (List ℕ)) → Going policy text rest s old now → Going policy (text ++ taken) (rest ++ taken) s old now
going_more policy text rest taken s old now g = record {
  sound = g.sound;
  read = omega (arith, g.read, length-append rest taken, length-append text taken);
  lines = g.lines;
  told = g.told;
  leads = g.leads;
  passed_text = g.passed_text;
  cut = ap (λ xs. xs ++ taken) g.cut ∙ append_assoc g.passed_text rest taken;
  are = g.are;
  written = g.written;
}

-- a front of what was to be written is one of all that is
front_on : (a b c : Option (List ℕ)) (xs ys zs all : List ℕ) → Appends a b xs → WrotePrefix b c ys → all ≡ (xs ++ ys) ++ zs → WrotePrefix a c all
front_on a b c xs ys zs all h f e = record {
  front = xs ++ f.front;
  rest = f.rest ++ zs;
  is = append_assoc xs f.front (f.rest ++ zs) ∙ ap (λ ws. xs ++ ws) (sym (append_assoc f.front f.rest zs) ∙ ap (λ ws. ws ++ zs) f.is) ∙ sym (append_assoc xs ys zs) ∙ sym e;
  written = Appends-trans a b c xs f.front h f.written;
}

-- what was written is a front of what is
front-of : (a b : Option (List ℕ)) (xs ys all : List ℕ) → Appends a b xs → all ≡ xs ++ ys → WrotePrefix a b all
front-of a b xs ys all h e = record { front = xs; rest = ys; is = sym e; written = h }

-- ---- a line that is too long, before its line feed is read

past_at_end : (s : LabProgress) (last : List ℕ) → MAX_INPUT_BYTES < s.read + length last → last ≢ [] → run_from s (last ∷ []) ≡ (Limit (s.lines + 1) Input, [])
past_at_end s [] l some = absurd (some refl)
past_at_end s (b ∷ bs) l some =
    let past : nat_lt MAX_INPUT_BYTES (s.read + length (b ∷ bs)) ≡ true = grind (arith, nat_tests, l) in
    ap (λ u. (cond u (Limit (s.lines + 1) Input) (Refused (s.lines + 1) Syntax), [])) past

past_as_line : (s : LabProgress) (line : List ℕ) → MAX_INPUT_BYTES < s.read + length line → lab_passed s line ≡ Err (Limit (s.lines + 1) Input)
past_as_line s line l =
    let past : lab_is_past s line ≡ true = grind (arith, nat_tests, l) in passed_by s line true past

past_limit : (s : LabProgress) (rest more : List ℕ) → position is_feed rest ≡ None → MAX_INPUT_BYTES < s.read + length rest → s.read ≤ MAX_INPUT_BYTES → run_from s (lines_of (rest ++ more)) ≡ (Limit (s.lines + 1) Input, [])
past_limit s rest more none l small = alone (position is_feed (rest ++ more)) refl where
  some : rest ++ more ≢ []
  some e = let no : length (rest ++ more) ≡ 0 = ap length e in absurd (omega (arith, no, l, small, length-append rest more))

  alone : (o : Option ℕ) → position is_feed (rest ++ more) ≡ o → run_from s (lines_of (rest ++ more)) ≡ (Limit (s.lines + 1) Input, [])
  alone None e = ap (run_from s) (split_alone is_feed (rest ++ more) e) ∙ past_at_end s (rest ++ more) (omega (arith, l, length-append rest more)) some
  alone (Some at) e = behind-it (first_part is_feed (drop (at + 1) (rest ++ more))) where
    behind-it : (part : List ℕ) × (parts : List (List ℕ)) × (lines_of (drop (at + 1) (rest ++ more)) ≡ part ∷ parts) → run_from s (lines_of (rest ++ more)) ≡ (Limit (s.lines + 1) Input, [])
    behind-it f =
        let least = none_until is_feed rest more at none e in
        let within = position-Some is_feed (rest ++ more) at 0 e in
        let line : length (take at (rest ++ more)) ≡ at = length-take-le at (rest ++ more) (omega (arith, within.0)) in
        let long : MAX_INPUT_BYTES < s.read + length (take at (rest ++ more)) = omega (arith, l, least, line) in
        let past = past_as_line s (take at (rest ++ more)) long in
        let step : run_from s (take at (rest ++ more) ∷ f.0 ∷ f.1) ≡ (Limit (s.lines + 1) Input, []) = rw (past, run_from) refl in
        ap (run_from s) (split_at is_feed (rest ++ more) at e ∙ ap (λ ls. take at (rest ++ more) ∷ ls) f.2) ∙ step

-- ---- how a text ends

-- the lab is done where nothing is left, and `go` has passed
done-running : (s : LabProgress) (rest : List ℕ) → lab_ending s rest ≡ Done → (rest ≡ []) × (s.reader.stage ≡ Running)
done-running s [] e = go s.reader.stage refl e where
  go : (st : Stage) → s.reader.stage ≡ st → lab_ended_at s.lines st ≡ Done → (◌≡◌ {A = List ℕ} [] []) × (s.reader.stage ≡ Running)
  go Running p h = (refl, p)
  go Start p h = cc
  go Settings p h = cc
  go Files p h = cc
done-running s (b ∷ bs) e = go (nat_lt MAX_INPUT_BYTES (s.read + length (b ∷ bs))) e where
  go : (t : Bool) → cond t (Limit (s.lines + 1) Input) (Refused (s.lines + 1) Syntax) ≡ Done → (b ∷ bs ≡ []) × (s.reader.stage ≡ Running)
  go true f = cc
  go false f = cc

-- what is written then is the totals
done-totals : (s : LabProgress) (rest : List ℕ) → rest ≡ [] → s.reader.stage ≡ Running → end_gain s rest ≡ totals_text s.lab
done-totals s rest e p = ap (end_gain s) e ∙ ap (λ (st : Stage). totals_at st s.lab) p

no-read-stage : (s : LabProgress) (st : Stage) → ¬ (lab_ended_at s.lines st ≡ ReadFault)
no-read-stage s Start e = cc
no-read-stage s Settings e = cc
no-read-stage s Files e = cc
no-read-stage s Running e = cc

no-read : (s : LabProgress) (rest : List ℕ) → ¬ (lab_ending s rest ≡ ReadFault)
no-read s [] e = no-read-stage s s.reader.stage e
no-read s (b ∷ bs) e = go (nat_lt MAX_INPUT_BYTES (s.read + length (b ∷ bs))) e where
  go : (t : Bool) → cond t (Limit (s.lines + 1) Input) (Refused (s.lines + 1) Syntax) ≡ ReadFault → ⊥
  go true f = cc
  go false f = cc

-- How a lab ends over a text that it tells of, of what was read; a front of what that gives was written.
pub record EndsSo (policy : Policy) (end : LabEnd) (read : List ℕ) (left old new : Option (List ℕ)) : Type 0 where
  pub text : List ℕ
  pub told : IsLabTold end read text
  pub wrote : WrotePrefix old new (lab_whole policy text).1
  pub ended : LabEnded policy end text left old new

module _ (policy : Policy) (text rest : List ℕ) (s : LabProgress) (old now : Option (List ℕ)) (g : Going policy text rest s old now) where
  -- what the rest gives, with whatever comes behind it
  goes_on : (more : List ℕ) → lab_whole policy (text ++ more) ≡ written_behind g.told (run_from s (lines_of (rest ++ more)))
  unfolding lab_whole
  goes_on more = go (first_part is_feed (rest ++ more)) where
    go : (part : List ℕ) × (parts : List (List ℕ)) × (lines_of (rest ++ more) ≡ part ∷ parts) → run_from (lab_begin policy) (lines_of (text ++ more)) ≡ written_behind g.told (run_from s (lines_of (rest ++ more)))
    go f =
        ap (run_from (lab_begin policy)) (lines-of-all policy text rest s old now g more ∙ ap (λ ls. g.lines ++ ls) f.2)
        ∙ leads_whole (lab_begin policy) s g.lines g.told f.0 f.1 g.leads ∙ ap (λ ls. written_behind g.told (run_from s ls)) (sym f.2)

  as_read : (p : LabEnd × List ℕ) → ((more : List ℕ) → lab_whole policy (text ++ more) ≡ p) → lab_whole policy text ≡ p
  as_read p e = ap (lab_whole policy) (sym (append-nil text)) ∙ e []

  decided : (p : LabEnd × List ℕ) → ((more : List ℕ) → lab_whole policy (text ++ more) ≡ p) → (more : List ℕ) → lab_whole policy (text ++ more) ≡ lab_whole policy text
  decided p e more = e more ∙ sym (as_read p e)

  passed-lines : lines_of g.passed_text ≡ g.lines ++ [] ∷ []
  passed-lines = ap lines_of (sym (append-nil g.passed_text)) ∙ g.are []

  passed-whole : lab_whole policy g.passed_text ≡ written_behind g.told (run_from s ([] ∷ []))
  unfolding lab_whole
  passed-whole = ap (run_from (lab_begin policy)) passed-lines ∙ leads_whole (lab_begin policy) s g.lines g.told [] [] g.leads

  -- memory ran out behind the lines that were passed
  pub going_starved : (left : Option (List ℕ)) → EndsSo policy NoMemory text left old now
  going_starved left = record {
    text = g.passed_text;
    told = (rest, g.cut);
    wrote = front-of old now g.told (end_gain s []) (lab_whole policy g.passed_text).1 g.written (ap (λ (p : LabEnd × List ℕ). p.1) passed-whole);
    ended = inr (inl (record { lines = g.lines; last = []; are = passed-lines; state = s; told = g.told; leads = g.leads; written = g.written }));
  }

  -- ---- the rest has a whole line
  module _ (at : ℕ) (is : position is_feed rest ≡ Some at) where
    within : at + 1 ≤ length rest
    within = let l = position-Some is_feed rest at 0 is in omega (arith, l.0)

    -- the line is the same whatever comes behind it
    one_line : (more : List ℕ) → lines_of (rest ++ more) ≡ take at rest ∷ lines_of (drop (at + 1) rest ++ more)
    one_line more =
        split_at is_feed (rest ++ more) at (found_before is_feed rest more at is)
        ∙ ap (λ line. line ∷ lines_of (drop (at + 1) (rest ++ more))) (take-append-le at rest more (omega (arith, within)))
        ∙ ap (λ xs. take at rest ∷ lines_of xs) (drop-append-le (at + 1) rest more within)

    when_refused : (end : LabEnd) → lab_passed s (take at rest) ≡ Err end → (more : List ℕ) → lab_whole policy (text ++ more) ≡ (end, g.told ++ [])
    when_refused end e more = go (first_part is_feed (drop (at + 1) rest ++ more)) where
      go : (part : List ℕ) × (parts : List (List ℕ)) × (lines_of (drop (at + 1) rest ++ more) ≡ part ∷ parts) → lab_whole policy (text ++ more) ≡ (end, g.told ++ [])
      go f =
          let step : run_from s (take at rest ∷ f.0 ∷ f.1) ≡ (end, []) = rw (e, run_from) refl in
          goes_on more ∙ ap (λ ls. written_behind g.told (run_from s ls)) (one_line more ∙ ap (λ ls. take at rest ∷ ls) f.2) ∙ ap (written_behind g.told) step

    -- ---- the text through this line

    abbrev through : List ℕ
    through = g.passed_text ++ take (at + 1) rest

    -- the line with its feed
    abbrev fed : List ℕ
    fed = take (at + 1) rest

    fed-length : length fed ≡ at + 1
    fed-length = length-take-le (at + 1) rest within

    fed-parts : fed ++ drop (at + 1) rest ≡ rest
    fed-parts = take-append-drop (at + 1) rest

    fed-found : position is_feed fed ≡ Some at
    fed-found = go (position is_feed fed) refl where
      all : position is_feed (fed ++ drop (at + 1) rest) ≡ Some at
      all = ap (position is_feed) fed-parts ∙ is

      go : (o : Option ℕ) → position is_feed fed ≡ o → position is_feed fed ≡ Some at
      go None none = let le = none_until is_feed fed (drop (at + 1) rest) at none all in absurd (omega (arith, le, fed-length))
      go (Some i) found = found ∙ sym (found_before is_feed fed (drop (at + 1) rest) i found) ∙ all

    fed-line : take at fed ≡ take at rest
    fed-line = sym (take-append-le at fed (drop (at + 1) rest) (omega (arith, fed-length))) ∙ ap (take at) fed-parts

    fed-rest : drop (at + 1) fed ≡ []
    fed-rest = let none = length-drop (at + 1) fed in nothing (drop (at + 1) fed) (omega (arith, none, fed-length))

    -- it is that line whatever comes behind it
    lines-through : (more : List ℕ) → lines_of (through ++ more) ≡ (g.lines ++ take at rest ∷ []) ++ lines_of more
    lines-through more =
        let cut : lines_of (fed ++ more) ≡ take at (fed ++ more) ∷ lines_of (drop (at + 1) (fed ++ more)) = split_at is_feed (fed ++ more) at (found_before is_feed fed more at fed-found) in
        let line : take at (fed ++ more) ≡ take at rest = take-append-le at fed more (omega (arith, fed-length)) ∙ fed-line in
        let behind : drop (at + 1) (fed ++ more) ≡ more = drop-append-le (at + 1) fed more (omega (arith, fed-length)) ∙ ap (λ xs. xs ++ more) fed-rest in
        ap lines_of (append_assoc g.passed_text fed more) ∙ g.are (fed ++ more)
        ∙ ap (λ ls. g.lines ++ ls) (cut ∙ ap (λ l. l ∷ lines_of (drop (at + 1) (fed ++ more))) line ∙ ap (λ xs. take at rest ∷ lines_of xs) behind)
        ∙ sym (append_assoc g.lines (take at rest ∷ []) (lines_of more))

    -- it is a front of what was read
    through-front : (behind : List ℕ) × (text ≡ through ++ behind)
    through-front = (
      drop (at + 1) rest,
      g.cut ∙ ap (λ xs. g.passed_text ++ xs) (sym (take-append-drop (at + 1) rest)) ∙ sym (append_assoc g.passed_text (take (at + 1) rest) (drop (at + 1) rest)),
    )

    through-lines : lines_of through ≡ g.lines ++ take at rest ∷ [] ∷ []
    through-lines = ap lines_of (sym (append-nil through)) ∙ lines-through [] ∙ append_assoc g.lines (take at rest ∷ []) ([] ∷ [])

    -- what it gives is that of the lines before, what this line adds, passed or not, and perhaps the totals
    through-whole : (more : List ℕ) × ((lab_whole policy through).1 ≡ (g.told ++ lab_gain s (take at rest)) ++ more)
    unfolding lab_whole
    through-whole = go (lab_passed s (take at rest)) refl where
      first : lab_whole policy through ≡ written_behind g.told (run_from s (take at rest ∷ [] ∷ []))
      first = ap (run_from (lab_begin policy)) through-lines ∙ leads_whole (lab_begin policy) s g.lines g.told (take at rest) ([] ∷ []) g.leads

      go : (r : Result LabProgress LabEnd) → lab_passed s (take at rest) ≡ r → (more : List ℕ) × ((lab_whole policy through).1 ≡ (g.told ++ lab_gain s (take at rest)) ++ more)
      go (Err end) e =
          let step : run_from s (take at rest ∷ [] ∷ []) ≡ (end, []) = rw (e, run_from) refl in (
            [],
            ap (λ (p : LabEnd × List ℕ). p.1) (first ∙ ap (written_behind g.told) step) ∙ ap (λ (xs : List ℕ). g.told ++ xs) (sym (refused-nothing s (take at rest) end e)) ∙ sym (append-nil (g.told ++ lab_gain s (take at rest))),
          )
      go (Ok t) e =
          let step : run_from s (take at rest ∷ [] ∷ []) ≡ written_behind (lab_gain s (take at rest)) (run_from t ([] ∷ [])) = rw (e, run_from) refl in (
            end_gain t [],
            ap (λ (p : LabEnd × List ℕ). p.1) (first ∙ ap (written_behind g.told) step) ∙ sym (append_assoc g.told (lab_gain s (take at rest)) (end_gain t [])),
          )

    -- a front of what came of it was written
    through-written : (next : Option (List ℕ)) → WrotePrefix now next (lab_gain s (take at rest)) → WrotePrefix old next (lab_whole policy through).1
    through-written next f = front_on old now next g.told (lab_gain s (take at rest)) through-whole.0 (lab_whole policy through).1 g.written f through-whole.1

    in-line : (next : Option (List ℕ)) → WrotePrefix now next (lab_gain s (take at rest)) → EndsInLabLine policy through old next
    in-line next f = record { lines = g.lines; line = take at rest; are = through-lines; state = s; told = g.told; leads = g.leads; between = now; written = g.written; front = f }

    pub going_on : (t : LabProgress) (next : Option (List ℕ)) → (lab_passed s (take at rest) ≡ Ok t) × Appends now next (lab_gain s (take at rest)) → Going policy text (drop (at + 1) rest) t old next
    going_on t next h = record {
      sound = passed-sound s t (take at rest) g.sound h.0;
      read =
          let line : length (take at rest) ≡ at = length-take-le at rest (omega (arith, within)) in
          let read = (passed-read s t (take at rest) h.0).1 in
          omega (arith, within, line, read, g.read, length-drop (at + 1) rest);
      lines = g.lines ++ take at rest ∷ [];
      told = g.told ++ lab_gain s (take at rest);
      leads = leads_on (lab_begin policy) s t g.lines (take at rest) g.told g.leads h.0;
      passed_text = through;
      cut = g.cut ∙ ap (λ xs. g.passed_text ++ xs) (sym (take-append-drop (at + 1) rest)) ∙ sym (append_assoc g.passed_text (take (at + 1) rest) (drop (at + 1) rest));
      are = lines-through;
      written = Appends-trans old now next _ _ g.written h.1;
    }

    refused_here : (end : LabEnd) (left next : Option (List ℕ)) → lab_passed s (take at rest) ≡ Err end → Appends now next (lab_gain s (take at rest)) → IsLabDecided policy text left × CompletesLab policy end text old next
    refused_here end left next e h =
        let is-so : lab_whole policy text ≡ (end, g.told ++ []) = as_read (end, g.told ++ []) (when_refused end e) in (
          inr (decided (end, g.told ++ []) (when_refused end e)),
          record {
            end_is = ap (λ (p : LabEnd × List ℕ). p.0) is-so;
            written = subst (Appends old next) (ap (λ (xs : List ℕ). g.told ++ xs) (refused-nothing s (take at rest) end e) ∙ sym (ap (λ (p : LabEnd × List ℕ). p.1) is-so)) (Appends-trans old now next g.told (lab_gain s (take at rest)) g.written h);
          },
        )

    pub going_stop : (e : LabEnd) (t : LabProgress) (left next : Option (List ℕ)) → PassesInLab (lab_passed s (take at rest)) (lab_gain s (take at rest)) now next t (Err e) → EndsSo policy e text left old next
    going_stop Done t left next h = absurd h
    going_stop ReadFault t left next h = absurd h
    going_stop (Refused line why) t left next h =
        let e = refused_here (Refused line why) left next h.0 h.1 in
        record { text = text; told = refl; wrote = front-of old next (lab_whole policy text).1 [] (lab_whole policy text).1 e.1.written (sym (append-nil (lab_whole policy text).1)); ended = e }
    going_stop (Limit line what) t left next h =
        let e = refused_here (Limit line what) left next h.0 h.1 in
        record { text = text; told = refl; wrote = front-of old next (lab_whole policy text).1 [] (lab_whole policy text).1 e.1.written (sym (append-nil (lab_whole policy text).1)); ended = e }
    going_stop WriteFault t left next h = record { text = through; told = through-front; wrote = through-written next h; ended = inl (in-line next h) }
    going_stop NoMemory t left next h = record { text = through; told = through-front; wrote = through-written next h; ended = inl (in-line next h) }

  -- ---- the rest has no line feed
  module _ (none : position is_feed rest ≡ None) where
    all-lines : lines_of text ≡ g.lines ++ rest ∷ []
    all-lines =
        ap lines_of (sym (append-nil text)) ∙ lines-of-all policy text rest s old now g [] ∙ ap (λ xs. g.lines ++ lines_of xs) (append-nil rest) ∙ ap (λ ls. g.lines ++ ls) (split_alone is_feed rest none)

    at_end : lab_whole policy text ≡ (lab_ending s rest, g.told ++ end_gain s rest)
    at_end = ap (lab_whole policy) (sym (append-nil text)) ∙ goes_on [] ∙ ap (λ xs. written_behind g.told (run_from s (lines_of xs))) (append-nil rest) ∙ ap (λ ls. written_behind g.told (run_from s ls)) (split_alone is_feed rest none)

    -- the source failed
    pub going_failed : (left : Option (List ℕ)) → length text ≤ MAX_INPUT_BYTES → EndsSo policy ReadFault text left old now
    going_failed left small = record {
      text = text;
      told = refl;
      wrote = front-of old now g.told (end_gain s rest) (lab_whole policy text).1 g.written (ap (λ (p : LabEnd × List ℕ). p.1) at_end);
      ended = (small, record { lines = g.lines; last = rest; are = all-lines; state = s; told = g.told; leads = g.leads; written = g.written });
    }

    -- ---- it ends the text, or has more bytes than an input may have

    short : rest ≡ [] → length text ≤ MAX_INPUT_BYTES
    short e = let no : length rest ≡ 0 = ap length e in omega (arith, no, g.read, g.sound.read)

    -- a line that is too long already is too long whatever comes behind it
    too_long : length text ≡ MAX_INPUT_BYTES + 1 → (more : List ℕ) → lab_whole policy (text ++ more) ≡ written_behind g.told (Limit (s.lines + 1) Input, [])
    too_long full more = goes_on more ∙ ap (written_behind g.told) (past_limit s rest more none (omega (arith, full, g.read)) g.sound.read)

    -- nothing that follows changes how it ends
    final : (left : Option (List ℕ)) → IsAtEnd left ⊎ (length text ≡ MAX_INPUT_BYTES + 1) → IsLabDecided policy text left
    final left (inl end) = inl end
    final left (inr full) = inr (decided (written_behind g.told (Limit (s.lines + 1) Input, [])) (too_long full))

    at_its_end : (left : Option (List ℕ)) → IsAtEnd left ⊎ (length text ≡ MAX_INPUT_BYTES + 1) → length text ≤ MAX_INPUT_BYTES → IsAtEnd left
    at_its_end left (inl end) small = end
    at_its_end left (inr full) small = absurd (omega (arith, full, small))

    module _ (left next : Option (List ℕ)) (how : IsAtEnd left ⊎ (length text ≡ MAX_INPUT_BYTES + 1)) where
      all-written : Appends now next (end_gain s rest) → Appends old next (lab_whole policy text).1
      all-written h = subst (Appends old next) (sym (ap (λ (p : LabEnd × List ℕ). p.1) at_end)) (Appends-trans old now next g.told (end_gain s rest) g.written h)

      completed : (end : LabEnd) → lab_ending s rest ≡ end → Appends now next (end_gain s rest) → CompletesLab policy end text old next
      completed end e h = record { end_is = ap (λ (p : LabEnd × List ℕ). p.0) at_end ∙ e; written = all-written h }

      as-told : (end : LabEnd) → IsLabTold end text text → Appends now next (end_gain s rest) → LabEnded policy end text left old next → EndsSo policy end text left old next
      as-told end told h e = record { text = text; told = told; wrote = front-of old next (lab_whole policy text).1 [] (lab_whole policy text).1 (all-written h) (sym (append-nil (lab_whole policy text).1)); ended = e }

      in-totals : lab_ending s rest ≡ Done → WrotePrefix now next (end_gain s rest) → EndsInTotals policy text left old next
      in-totals e f =
          let is-so = done-running s rest e in
          record {
            whole_is = at_its_end left how (short is-so.0);
            lines = g.lines;
            are = all-lines ∙ ap (λ (xs : List ℕ). g.lines ++ xs ∷ []) is-so.0;
            state = s;
            running = is-so.1;
            told = g.told;
            leads = g.leads;
            between = now;
            written = g.written;
            front = subst (WrotePrefix now next) (done-totals s rest is-so.0 is-so.1) f;
          }

      front-told : WrotePrefix now next (end_gain s rest) → WrotePrefix old next (lab_whole policy text).1
      front-told f = front_on old now next g.told (end_gain s rest) [] (lab_whole policy text).1 g.written f (ap (λ (p : LabEnd × List ℕ). p.1) at_end ∙ sym (append-nil (g.told ++ end_gain s rest)))

      pub going_end : (end : LabEnd) → Finishes (lab_ending s rest) (end_gain s rest) now next end → EndsSo policy end text left old next
      going_end Done h = as-told Done refl h.1 (at_its_end left how (short (done-running s rest h.0).0), short (done-running s rest h.0).0, completed Done h.0 h.1)
      going_end (Refused line why) h = as-told (Refused line why) refl h.1 (final left how, completed (Refused line why) h.0 h.1)
      going_end (Limit line what) h = as-told (Limit line what) refl h.1 (final left how, completed (Limit line what) h.0 h.1)
      going_end ReadFault h = absurd (no-read s rest h.0)
      going_end WriteFault h = record { text = text; told = ([], sym (append-nil text)); wrote = front-told h.1; ended = inr (in-totals h.0 h.1) }
      going_end NoMemory h = record { text = text; told = ([], sym (append-nil text)); wrote = front-told h.1; ended = inr (inr (in-totals h.0 h.1)) }
