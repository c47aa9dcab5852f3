-- The lines of a report that are passed, one after another: what the rest gives, whatever comes behind it.
use Rattle.std.proofs.Common.{◌≡◌, ◌≢◌, ◌⊎◌, inl, inr, ℕ, ◌+◌, ◌≤◌, ◌<◌, List, [], ◌∷◌, ◌++◌, length, take, drop, Bool, true, false, cond, Option, Some, None, Ok, Err, refl, sym, ap, ◌∙◌, subst, append_assoc, append-nil, arith, length-append, length-drop}
use Rattle.std.specs.Io.KnownBytes.{IsAtEnd}
use Rattle.std.proofs.lemmas.List.{drop-append-le, length-take-le, take-append-drop, take-append-le}
use Rattle.std.proofs.lemmas.List.Quantifiers.{position-Some}
use Rattle.std.specs.List.{position}
use Rattle.std.specs.Prelude.{nat_lt}
use Rattle.lard_lines.proofs.Feeds.{found_before, none_until}
use Rattle.lard_lines.specs.Lines.{is_feed, lines_of}
use Rattle.lard_schedule.proofs.Cuts.{first_part, split_alone, split_at}
use Rattle.lard_audit_run.specs.declared.auditor.Stage.{Stage}
use Rattle.lard_audit_run.specs.declared.auditor.Stage.TheVariants as stage
use Rattle.lard_audit_run.specs.declared.auditor.TheConstants.{MAX_REPORT_BYTES}
use Rattle.lard_audit_run.specs.declared.verdict.Flaw.TheVariants as flaw
use Rattle.lard_audit_run.specs.declared.verdict.Verdict.{Verdict}
use Rattle.lard_audit_run.specs.declared.verdict.Verdict.TheVariants.{Refused, TooLong}
use Rattle.lard_audit_run.specs.Audited.{Course, AuditLeads, audited, audit_begin, ended_at, audit_ending, audit_judged, audit_passed}
use Rattle.lard_audit_run.specs.Runs.{Ends, HasAuditPassed, IsAuditDecided}
use Rattle.lard_audit_run.proofs.Passing.{passed-took, past_as_line, past_at_end}

-- ---- lines that pass

-- lines that pass, and one more
pub leads_on : (s t u : Course) (lines : List (List ℕ)) (line : List ℕ) → AuditLeads s lines t → audit_passed t line ≡ Ok u → AuditLeads s (lines ++ line ∷ []) u
leads_on s t u [] line l e = (u, ap (λ (v : Course). audit_passed v line) l ∙ e, refl)
leads_on s t u (first ∷ lines) line l e = (l.0, l.1, leads_on l.0 t u lines line l.2 e)

-- lines that pass lead to what is behind them
pub leads_judged : (s t : Course) (lines : List (List ℕ)) (part : List ℕ) (parts : List (List ℕ)) → AuditLeads s lines t → audit_judged s (lines ++ part ∷ parts) ≡ audit_judged t (part ∷ parts)
leads_judged s t [] part parts l = ap (λ (v : Course). audit_judged v (part ∷ parts)) l
leads_judged s t (line ∷ []) part parts l =
    let step : audit_judged s (line ∷ part ∷ parts) ≡ audit_judged l.0 (part ∷ parts) = rw (l.1, audit_judged) refl in
    step ∙ ap (λ (v : Course). audit_judged v (part ∷ parts)) l.2
leads_judged s t (line ∷ next ∷ lines) part parts l =
    let step : audit_judged s (line ∷ next ∷ (lines ++ part ∷ parts)) ≡ audit_judged l.0 (next ∷ (lines ++ part ∷ parts)) = rw (l.1, audit_judged) refl in
    step ∙ leads_judged l.0 t (next ∷ lines) part parts l.2

-- The course after the lines of a text that are passed, with the rest of it. Whatever comes behind the text comes behind the rest.
pub record Going (text rest : List ℕ) (s : Course) : Type 0 where
  pub read : s.read + length rest ≡ length text
  pub most : s.read ≤ MAX_REPORT_BYTES
  pub lines : List (List ℕ)
  pub leads : AuditLeads audit_begin lines s
  pub passed_text : List ℕ
  pub cut : text ≡ passed_text ++ rest
  pub are : (more : List ℕ) → lines_of (passed_text ++ more) ≡ lines ++ lines_of more

-- the lines of the whole text are those that were passed, and those of the rest, whatever comes behind
lines-of-all : (text rest : List ℕ) (s : Course) (g : Going text rest s) (more : List ℕ) → lines_of (text ++ more) ≡ g.lines ++ lines_of (rest ++ more)
lines-of-all text rest s g more = ap (λ (xs : List ℕ). lines_of (xs ++ more)) g.cut ∙ ap lines_of (append_assoc g.passed_text rest more) ∙ g.are (rest ++ more)

pub going_first : Going [] [] audit_begin
going_first = record {
  read = refl;
  most = omega arith;
  lines = [];
  leads = refl;
  passed_text = [];
  cut = refl;
  are = λ more. refl;
}

-- more is read
pub going_more : (text rest taken : List ℕ) (s : Course) → Going text rest s → Going (text ++ taken) (rest ++ taken) s
going_more text rest taken s g = record {
  read = omega (arith, g.read, length-append rest taken, length-append text taken);
  most = g.most;
  lines = g.lines;
  leads = g.leads;
  passed_text = g.passed_text;
  cut = ap (λ xs. xs ++ taken) g.cut ∙ append_assoc g.passed_text rest taken;
  are = g.are;
}

-- ---- a line that is too long, before its line feed is read

past_limit : (s : Course) (rest more : List ℕ) → position is_feed rest ≡ None → MAX_REPORT_BYTES < s.read + length rest → s.read ≤ MAX_REPORT_BYTES → audit_judged s (lines_of (rest ++ more)) ≡ TooLong (s.lines + 1)
past_limit s rest more none l small = alone (position is_feed (rest ++ more)) refl where
  some : rest ++ more ≢ []
  some e = let no : length (rest ++ more) ≡ 0 = ap length e in absurd (omega (arith, no, l, small, length-append rest more))

  alone : (o : Option ℕ) → position is_feed (rest ++ more) ≡ o → audit_judged s (lines_of (rest ++ more)) ≡ TooLong (s.lines + 1)
  alone None e = ap (audit_judged s) (split_alone is_feed (rest ++ more) e) ∙ past_at_end s (rest ++ more) (omega (arith, l, length-append rest more)) some
  alone (Some at) e = behind (first_part is_feed (drop (at + 1) (rest ++ more))) where
    behind : (part : List ℕ) × (parts : List (List ℕ)) × (lines_of (drop (at + 1) (rest ++ more)) ≡ part ∷ parts) → audit_judged s (lines_of (rest ++ more)) ≡ TooLong (s.lines + 1)
    behind f =
        let least = none_until is_feed rest more at none e in
        let within = position-Some is_feed (rest ++ more) at 0 e in
        let line : length (take at (rest ++ more)) ≡ at = length-take-le at (rest ++ more) (omega (arith, within.0)) in
        let long : MAX_REPORT_BYTES < s.read + length (take at (rest ++ more)) = omega (arith, l, least, line) in
        let past = past_as_line s (take at (rest ++ more)) long in
        let step : audit_judged s (take at (rest ++ more) ∷ f.0 ∷ f.1) ≡ TooLong (s.lines + 1) = rw (past, audit_judged) refl in
        ap (audit_judged s) (split_at is_feed (rest ++ more) at e ∙ ap (λ ls. take at (rest ++ more) ∷ ls) f.2) ∙ step

nothing : (xs : List ℕ) → length xs ≡ 0 → xs ≡ []
nothing [] none = refl
nothing (x ∷ xs) none = absurd (omega (arith, none))

module _ (text rest : List ℕ) (s : Course) (g : Going text rest s) where
  -- what the rest gives, with whatever comes behind it
  goes_on : (more : List ℕ) → audited (text ++ more) ≡ audit_judged s (lines_of (rest ++ more))
  unfolding audited
  goes_on more = go (first_part is_feed (rest ++ more)) where
    go : (part : List ℕ) × (parts : List (List ℕ)) × (lines_of (rest ++ more) ≡ part ∷ parts) → audit_judged audit_begin (lines_of (text ++ more)) ≡ audit_judged s (lines_of (rest ++ more))
    go f = ap (audit_judged audit_begin) (lines-of-all text rest s g more ∙ ap (λ ls. g.lines ++ ls) f.2) ∙ leads_judged audit_begin s g.lines f.0 f.1 g.leads ∙ ap (audit_judged s) (sym f.2)

  as_read : (v : Verdict) → ((more : List ℕ) → audited (text ++ more) ≡ v) → audited text ≡ v
  as_read v e = ap audited (sym (append-nil text)) ∙ e []

  decided : (v : Verdict) → ((more : List ℕ) → audited (text ++ more) ≡ v) → (more : List ℕ) → audited (text ++ more) ≡ audited text
  decided v e more = e more ∙ sym (as_read v e)

  -- ---- the rest has a whole line
  module _ (at : ℕ) (is : position is_feed rest ≡ Some at) where
    within : at + 1 ≤ length rest
    within = let l = position-Some is_feed rest at 0 is in omega (arith, l.0)

    -- the line is the same whatever comes behind it
    one_line : (more : List ℕ) → lines_of (rest ++ more) ≡ take at rest ∷ lines_of (drop (at + 1) rest ++ more)
    one_line more =
        split_at is_feed (rest ++ more) at (found_before is_feed rest more at is)
        ∙ ap (λ line. line ∷ lines_of (drop (at + 1) (rest ++ more))) (take-append-le at rest more (omega (arith, within)))
        ∙ ap (λ xs. take at rest ∷ lines_of xs) (drop-append-le (at + 1) rest more within)

    when_refused : (v : Verdict) → audit_passed s (take at rest) ≡ Err v → (more : List ℕ) → audited (text ++ more) ≡ v
    when_refused v e more = go (first_part is_feed (drop (at + 1) rest ++ more)) where
      go : (part : List ℕ) × (parts : List (List ℕ)) × (lines_of (drop (at + 1) rest ++ more) ≡ part ∷ parts) → audited (text ++ more) ≡ v
      go f =
          let step : audit_judged s (take at rest ∷ f.0 ∷ f.1) ≡ v = rw (e, audit_judged) refl in
          goes_on more ∙ ap (audit_judged s) (one_line more ∙ ap (λ ls. take at rest ∷ ls) f.2) ∙ step

    -- a line ends the audit
    pub going_stop : (v : Verdict) → audit_passed s (take at rest) ≡ Err v → (left : Option (List ℕ)) → IsAuditDecided text left × (audited text ≡ v)
    going_stop v e left = (inr (decided v (when_refused v e)), as_read v (when_refused v e))

    -- ---- the line with its feed

    abbrev fed : List ℕ
    fed = take (at + 1) rest

    fed-length : length fed ≡ at + 1
    fed-length = length-take-le (at + 1) rest within

    fed-parts : fed ++ drop (at + 1) rest ≡ rest
    fed-parts = take-append-drop (at + 1) rest

    fed-found : position is_feed fed ≡ Some at
    fed-found = go (position is_feed fed) refl where
      all : position is_feed (fed ++ drop (at + 1) rest) ≡ Some at
      all = ap (position is_feed) fed-parts ∙ is

      go : (o : Option ℕ) → position is_feed fed ≡ o → position is_feed fed ≡ Some at
      go None none = let le = none_until is_feed fed (drop (at + 1) rest) at none all in absurd (omega (arith, le, fed-length))
      go (Some i) found = found ∙ sym (found_before is_feed fed (drop (at + 1) rest) i found) ∙ all

    fed-line : take at fed ≡ take at rest
    fed-line = sym (take-append-le at fed (drop (at + 1) rest) (omega (arith, fed-length))) ∙ ap (take at) fed-parts

    fed-rest : drop (at + 1) fed ≡ []
    fed-rest = let none = length-drop (at + 1) fed in nothing (drop (at + 1) fed) (omega (arith, none, fed-length))

    -- it is that line whatever comes behind it
    lines-through : (more : List ℕ) → lines_of ((g.passed_text ++ fed) ++ more) ≡ (g.lines ++ take at rest ∷ []) ++ lines_of more
    lines-through more =
        let cut : lines_of (fed ++ more) ≡ take at (fed ++ more) ∷ lines_of (drop (at + 1) (fed ++ more)) = split_at is_feed (fed ++ more) at (found_before is_feed fed more at fed-found) in
        let line : take at (fed ++ more) ≡ take at rest = take-append-le at fed more (omega (arith, fed-length)) ∙ fed-line in
        let behind : drop (at + 1) (fed ++ more) ≡ more = drop-append-le (at + 1) fed more (omega (arith, fed-length)) ∙ ap (λ xs. xs ++ more) fed-rest in
        ap lines_of (append_assoc g.passed_text fed more) ∙ g.are (fed ++ more)
        ∙ ap (λ ls. g.lines ++ ls) (cut ∙ ap (λ l. l ∷ lines_of (drop (at + 1) (fed ++ more))) line ∙ ap (λ xs. take at rest ∷ lines_of xs) behind)
        ∙ sym (append_assoc g.lines (take at rest ∷ []) (lines_of more))

    -- a line is passed
    pub going_on : (t : Course) → audit_passed s (take at rest) ≡ Ok t → Going text (drop (at + 1) rest) t
    going_on t e =
        let took = passed-took s t (take at rest) e in
        let line : length (take at rest) ≡ at = length-take-le at rest (omega (arith, within)) in
        record {
          read = omega (arith, within, line, took.read, g.read, length-drop (at + 1) rest);
          most = omega (arith, took.read, took.within);
          lines = g.lines ++ take at rest ∷ [];
          leads = leads_on audit_begin s t g.lines (take at rest) g.leads e;
          passed_text = g.passed_text ++ fed;
          cut = g.cut ∙ ap (λ xs. g.passed_text ++ xs) (sym (take-append-drop (at + 1) rest)) ∙ sym (append_assoc g.passed_text (take (at + 1) rest) (drop (at + 1) rest));
          are = lines-through;
        }

  -- ---- the rest has no line feed
  module _ (none : position is_feed rest ≡ None) where
    at_end : audited text ≡ audit_ending s rest
    at_end = ap audited (sym (append-nil text)) ∙ goes_on [] ∙ ap (λ xs. audit_judged s (lines_of xs)) (append-nil rest) ∙ ap (audit_judged s) (split_alone is_feed rest none)

    -- the source failed
    pub going_failed : length text ≤ MAX_REPORT_BYTES → (length text ≤ MAX_REPORT_BYTES) × HasAuditPassed text
    going_failed small = (
      small,
      (
        g.lines,
        rest,
        s,
        ap lines_of (sym (append-nil text)) ∙ lines-of-all text rest s g [] ∙ ap (λ xs. g.lines ++ lines_of xs) (append-nil rest) ∙ ap (λ ls. g.lines ++ ls) (split_alone is_feed rest none),
        g.leads,
      ),
    )

    short : rest ≡ [] → length text ≤ MAX_REPORT_BYTES
    short e = let no : length rest ≡ 0 = ap length e in omega (arith, no, g.read, g.most)

    -- a line that is too long already is too long whatever comes behind it
    too_long : length text ≡ MAX_REPORT_BYTES + 1 → (more : List ℕ) → audited (text ++ more) ≡ TooLong (s.lines + 1)
    too_long full more = goes_on more ∙ past_limit s rest more none (omega (arith, full, g.read)) g.most

    -- nothing that follows changes the verdict
    final : (left : Option (List ℕ)) → IsAtEnd left ⊎ (length text ≡ MAX_REPORT_BYTES + 1) → IsAuditDecided text left
    final left (inl end) = inl end
    final left (inr full) = inr (decided (TooLong (s.lines + 1)) (too_long full))

    at_its_end : (left : Option (List ℕ)) → IsAtEnd left ⊎ (length text ≡ MAX_REPORT_BYTES + 1) → length text ≤ MAX_REPORT_BYTES → IsAtEnd left
    at_its_end left (inl end) small = end
    at_its_end left (inr full) small = absurd (omega (arith, full, small))

    module _ (left : Option (List ℕ)) (how : IsAtEnd left ⊎ (length text ≡ MAX_REPORT_BYTES + 1)) where
      -- nothing follows the last line feed
      empty_end : (at : Stage) → s.stage ≡ at → rest ≡ [] → Ends (ended_at s at) text left
      empty_end stage.Heading e f = (final left how, at_end ∙ ap (audit_ending s) f ∙ ap (ended_at s) e)
      empty_end stage.Files e f = (at_its_end left how (short f), short f, at_end ∙ ap (audit_ending s) f ∙ ap (ended_at s) e)
      empty_end stage.Records e f = (at_its_end left how (short f), short f, at_end ∙ ap (audit_ending s) f ∙ ap (ended_at s) e)

      pub going_end : (v : Verdict) → v ≡ audit_ending s rest → Ends v text left
      going_end v e = go rest refl where
        go : (r : List ℕ) → rest ≡ r → Ends v text left
        go [] f = subst (λ t. Ends t text left) (sym (e ∙ ap (audit_ending s) f)) (empty_end s.stage refl f)
        go (b ∷ bs) f = past (nat_lt MAX_REPORT_BYTES (s.read + length (b ∷ bs))) refl where
          past : (t : Bool) → nat_lt MAX_REPORT_BYTES (s.read + length (b ∷ bs)) ≡ t → Ends v text left
          past true h =
              let is : audit_ending s rest ≡ TooLong (s.lines + 1) = ap (audit_ending s) f ∙ ap (λ u. cond u (TooLong (s.lines + 1)) (Refused (s.lines + 1) flaw.Syntax)) h in
              subst (λ t. Ends t text left) (sym (e ∙ is)) (final left how, at_end ∙ is)
          past false h =
              let is : audit_ending s rest ≡ Refused (s.lines + 1) flaw.Syntax = ap (audit_ending s) f ∙ ap (λ u. cond u (TooLong (s.lines + 1)) (Refused (s.lines + 1) flaw.Syntax)) h in
              subst (λ t. Ends t text left) (sym (e ∙ is)) (final left how, at_end ∙ is)
