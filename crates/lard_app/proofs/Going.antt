-- The lines of a text that are passed, one after another: what was written so far, and what the rest gives.
use Rattle.std.proofs.Common.{◌≡◌, ◌≢◌, ◌⊎◌, inl, inr, ℕ, ◌+◌, ◌≤◌, ◌<◌, List, [], ◌∷◌, ◌++◌, length, take, drop, Bool, true, false, cond, Option, Some, None, Result, Ok, Err, refl, sym, ap, ◌∙◌, subst, append_assoc, append-nil, arith, length-append, length-drop}
use Rattle.std.proofs.KnownBytes.{Appends-trans, Appends-nil}
use Rattle.std.specs.Io.KnownBytes.{Appends, IsAtEnd}
use Rattle.std.proofs.lemmas.Bool.Decides.{nat_tests}
use Rattle.std.proofs.lemmas.List.{drop-append-le, length-take-le, take-append-drop, take-append-le}
use Rattle.std.proofs.lemmas.List.Quantifiers.{position-Some}
use Rattle.std.specs.List.{position}
use Rattle.std.specs.Prelude.{nat_lt}
use Rattle.lard_law_view.specs.Prelude.{Event, MAX_INPUT_BYTES, Machine, WrotePrefix}
use Rattle.lard_report.specs.Formed.{HaveWidths}
use Rattle.lard_lines.proofs.Feeds.{found_before, none_until}
use Rattle.lard_lines.specs.Lines.{is_feed, lines_of}
use Rattle.lard_rules.specs.declared.fault.What.TheVariants.{Input}
use Rattle.lard_schedule.specs.declared.reader.Stage.{Stage}
use Rattle.lard_schedule.specs.declared.reader.Stage.TheVariants.{Start, Settings, Files, Running}
use Rattle.lard_schedule.proofs.Cuts.{first_part, split_alone, split_at}
use Rattle.lard_app.specs.Causes.{Leads}
use Rattle.lard_app.specs.declared.status.Status.{Status}
use Rattle.lard_app.specs.declared.status.Status.TheVariants.{Done, Usage, Refused, ReadFault, WriteFault, NoMemory, Limit}
use Rattle.lard_app.specs.declared.status.Why.TheVariants.{Syntax}
use Rattle.lard_app.specs.Replay.{begin, ended_behind, ending, gain, event_listed, halted, is_past, judged, line_passed, replayed, report_of, whole, HaltsAt, PassesLine, Progress, journal_of}
use Rattle.lard_app.specs.Run.{CompletesText, Ended, EndsInLine, DecidesReplay, TellsOfRead, TellsWidths}
use Rattle.lard_app.proofs.Growth.{halted-grown, passed-grown}
use Rattle.lard_app.proofs.Halting.{halted_by}
use Rattle.lard_app.proofs.Keeping.{Keeps, begin-keeps, passed-keeps}
use Rattle.lard_app.proofs.Passing.{passed-read, passed_by}

-- ---- lines that pass

-- lines that pass, and one more
leads_on : (s t u : Progress) (lines : List (List ℕ)) (line : List ℕ) → Leads s lines t → line_passed t line ≡ Ok u → Leads s (lines ++ line ∷ []) u
leads_on s t u [] line l e = (u, ap (λ (v : Progress). line_passed v line) l ∙ e, refl)
leads_on s t u (first ∷ lines) line l e = (l.0, l.1, leads_on l.0 t u lines line l.2 e)

-- lines that pass lead a replay to what is behind them
leads_whole : (s t : Progress) (lines : List (List ℕ)) (part : List ℕ) (parts : List (List ℕ)) → Leads s lines t → replayed s (lines ++ part ∷ parts) ≡ replayed t (part ∷ parts)
leads_whole s t [] part parts l = ap (λ (v : Progress). replayed v (part ∷ parts)) l
leads_whole s t (line ∷ []) part parts l =
    let step : replayed s (line ∷ part ∷ parts) ≡ replayed l.0 (part ∷ parts) = rw (l.1, replayed) refl in
    step ∙ ap (λ (v : Progress). replayed v (part ∷ parts)) l.2
leads_whole s t (line ∷ next ∷ lines) part parts l =
    let step : replayed s (line ∷ next ∷ (lines ++ part ∷ parts)) ≡ replayed l.0 (next ∷ (lines ++ part ∷ parts)) = rw (l.1, replayed) refl in
    step ∙ leads_whole l.0 t (next ∷ lines) part parts l.2

nothing : (xs : List ℕ) → length xs ≡ 0 → xs ≡ []
nothing [] none = refl
nothing (x ∷ xs) none = absurd (omega (arith, none))

-- The state after the lines of a text that are passed, with the rest of it. Whatever comes behind the text comes behind
-- the rest.
pub record Going (text rest : List ℕ) (s : Progress) (old now : Option (List ℕ)) : Type 0 where
  pub events : List Event
  pub keeps : Keeps s events
  pub read : s.read + length rest ≡ length text
  pub lines : List (List ℕ)
  pub leads : Leads begin lines s
  pub passed_text : List ℕ
  pub cut : text ≡ passed_text ++ rest
  pub are : (more : List ℕ) → lines_of (passed_text ++ more) ≡ lines ++ lines_of more
  pub written : Appends old now (report_of s)

-- the lines of the whole text are those that were passed, and those of the rest, whatever comes behind
lines-of-all : (text rest : List ℕ) (s : Progress) (old now : Option (List ℕ)) (g : Going text rest s old now) (more : List ℕ) → lines_of (text ++ more) ≡ g.lines ++ lines_of (rest ++ more)
lines-of-all text rest s old now g more = ap (λ (xs : List ℕ). lines_of (xs ++ more)) g.cut ∙ ap lines_of (append_assoc g.passed_text rest more) ∙ g.are (rest ++ more)

pub going_first : (s : Progress) (old : Option (List ℕ)) → s ≡ begin → Going [] [] s old old
going_first s old e = record {
  events = [];
  keeps = subst (λ (t : Progress). Keeps t []) (sym e) begin-keeps;
  read = subst (λ t. t.read + 0 ≡ 0) (sym e) (omega arith);
  lines = [];
  leads = sym e;
  passed_text = [];
  cut = refl;
  are = λ more. refl;
  written = subst (λ t. Appends old old (report_of t)) (sym e) (Appends-nil old);
}

-- more is read
pub going_more : (text rest taken : List ℕ) (s : Progress) (old now : Option (List ℕ)) → Going text rest s old now → Going (text ++ taken) (rest ++ taken) s old now
going_more text rest taken s old now g = record {
  events = g.events;
  keeps = g.keeps;
  read = omega (arith, g.read, length-append rest taken, length-append text taken);
  lines = g.lines;
  leads = g.leads;
  passed_text = g.passed_text;
  cut = ap (λ xs. xs ++ taken) g.cut ∙ append_assoc g.passed_text rest taken;
  are = g.are;
  written = g.written;
}

-- a front of what was to be written is one of all that is
pub front_on : (a b c : Option (List ℕ)) (xs ys zs all : List ℕ) → Appends a b xs → WrotePrefix b c ys → all ≡ (xs ++ ys) ++ zs → WrotePrefix a c all
front_on a b c xs ys zs all h f e = record {
  front = xs ++ f.front;
  rest = f.rest ++ zs;
  is = append_assoc xs f.front (f.rest ++ zs) ∙ ap (λ ws. xs ++ ws) (sym (append_assoc f.front f.rest zs) ∙ ap (λ ws. ws ++ zs) f.is) ∙ sym (append_assoc xs ys zs) ∙ sym e;
  written = Appends-trans a b c xs f.front h f.written;
}

-- the status and the report of a replay that is known
completes_as : (text : List ℕ) (s : Progress) (old now : Option (List ℕ)) (status : Status) → whole text ≡ (s, status) → Appends old now (report_of s) → CompletesText status text old now
completes_as text s old now status e h = record {
  status_is = ap (λ (p : Progress × Status). p.1) e;
  written = subst (Appends old now) (sym (ap (λ (p : Progress × Status). report_of p.0) e)) h;
}

-- ---- a line that is too long, before its line feed is read

past_at_end : (s : Progress) (last : List ℕ) → MAX_INPUT_BYTES < s.read + length last → last ≢ [] → ending s last ≡ Limit (s.lines + 1) Input
past_at_end s [] l some = absurd (some refl)
past_at_end s (b ∷ bs) l some =
    let past : nat_lt MAX_INPUT_BYTES (s.read + length (b ∷ bs)) ≡ true = grind (arith, nat_tests, l) in
    ap (λ u. cond u (Limit (s.lines + 1) Input) (Refused (s.lines + 1) Syntax)) past

past_as_line : (s : Progress) (line : List ℕ) → MAX_INPUT_BYTES < s.read + length line → line_passed s line ≡ Err (Limit (s.lines + 1) Input)
past_as_line s line l =
    let past : is_past s line ≡ true = grind (arith, nat_tests, l) in passed_by s line true past

past_leaves : (s : Progress) (line : List ℕ) → MAX_INPUT_BYTES < s.read + length line → halted s line ≡ s
past_leaves s line l =
    let past : is_past s line ≡ true = grind (arith, nat_tests, l) in halted_by s line true (judged s.reader line) past refl

past_limit : (s : Progress) (rest more : List ℕ) → position is_feed rest ≡ None → MAX_INPUT_BYTES < s.read + length rest → s.read ≤ MAX_INPUT_BYTES → replayed s (lines_of (rest ++ more)) ≡ (s, Limit (s.lines + 1) Input)
past_limit s rest more none l small = alone (position is_feed (rest ++ more)) refl where
  some : rest ++ more ≢ []
  some e = let no : length (rest ++ more) ≡ 0 = ap length e in absurd (omega (arith, no, l, small, length-append rest more))

  alone : (o : Option ℕ) → position is_feed (rest ++ more) ≡ o → replayed s (lines_of (rest ++ more)) ≡ (s, Limit (s.lines + 1) Input)
  alone None e = ap (replayed s) (split_alone is_feed (rest ++ more) e) ∙ ap (λ (t : Status). (s, t)) (past_at_end s (rest ++ more) (omega (arith, l, length-append rest more)) some)
  alone (Some at) e = behind (first_part is_feed (drop (at + 1) (rest ++ more))) where
    behind : (part : List ℕ) × (parts : List (List ℕ)) × (lines_of (drop (at + 1) (rest ++ more)) ≡ part ∷ parts) → replayed s (lines_of (rest ++ more)) ≡ (s, Limit (s.lines + 1) Input)
    behind f =
        let least = none_until is_feed rest more at none e in
        let within = position-Some is_feed (rest ++ more) at 0 e in
        let line : length (take at (rest ++ more)) ≡ at = length-take-le at (rest ++ more) (omega (arith, within.0)) in
        let long : MAX_INPUT_BYTES < s.read + length (take at (rest ++ more)) = omega (arith, l, least, line) in
        let past = past_as_line s (take at (rest ++ more)) long in
        let step : replayed s (take at (rest ++ more) ∷ f.0 ∷ f.1) ≡ (halted s (take at (rest ++ more)), Limit (s.lines + 1) Input) = rw (past, replayed) refl in
        let same : halted s (take at (rest ++ more)) ≡ s = past_leaves s (take at (rest ++ more)) long in
        ap (replayed s) (split_at is_feed (rest ++ more) at e ∙ ap (λ ls. take at (rest ++ more) ∷ ls) f.2) ∙ step ∙ ap (λ (t : Progress). (t, Limit (s.lines + 1) Input)) same

-- How a run ends over a text that it tells of, of what was read; a front of that text's report was written.
pub record EndsSo (status : Status) (read : List ℕ) (left old new : Option (List ℕ)) : Type 0 where
  pub text : List ℕ
  pub told : TellsOfRead status read text
  pub wrote : WrotePrefix old new (report_of (whole text).0)
  pub ended : Ended status text left old new
  pub widths : TellsWidths status text

-- the whole report was
whole-front : (text : List ℕ) (old new : Option (List ℕ)) → Appends old new (report_of (whole text).0) → WrotePrefix old new (report_of (whole text).0)
whole-front text old new h = record { front = report_of (whole text).0; rest = []; is = append-nil (report_of (whole text).0); written = h }

module _ (text rest : List ℕ) (s : Progress) (old now : Option (List ℕ)) (g : Going text rest s old now) where
  -- what the rest gives, with whatever comes behind it
  goes_on : (more : List ℕ) → whole (text ++ more) ≡ replayed s (lines_of (rest ++ more))
  unfolding whole
  goes_on more = go (first_part is_feed (rest ++ more)) where
    go : (part : List ℕ) × (parts : List (List ℕ)) × (lines_of (rest ++ more) ≡ part ∷ parts) → replayed begin (lines_of (text ++ more)) ≡ replayed s (lines_of (rest ++ more))
    go f = ap (replayed begin) (lines-of-all text rest s old now g more ∙ ap (λ ls. g.lines ++ ls) f.2) ∙ leads_whole begin s g.lines f.0 f.1 g.leads ∙ ap (replayed s) (sym f.2)

  as_read : (p : Progress × Status) → ((more : List ℕ) → whole (text ++ more) ≡ p) → whole text ≡ p
  as_read p e = ap whole (sym (append-nil text)) ∙ e []

  decided : (p : Progress × Status) → ((more : List ℕ) → whole (text ++ more) ≡ p) → (more : List ℕ) → whole (text ++ more) ≡ whole text
  decided p e more = e more ∙ sym (as_read p e)

  passed-lines : lines_of g.passed_text ≡ g.lines ++ [] ∷ []
  passed-lines = ap lines_of (sym (append-nil g.passed_text)) ∙ g.are []

  passed-report : report_of (whole g.passed_text).0 ≡ report_of s
  unfolding whole
  passed-report = ap (λ (p : Progress × Status). report_of p.0) (ap (replayed begin) passed-lines ∙ leads_whole begin s g.lines [] [] g.leads)

  -- memory ran out behind the lines that were passed
  pub going_starved : (left : Option (List ℕ)) → EndsSo NoMemory text left old now
  going_starved left = record {
    text = g.passed_text;
    told = (rest, g.cut);
    wrote = whole-front g.passed_text old now (subst (Appends old now) (sym passed-report) g.written);
    ended = inr (record { lines = g.lines; are = passed-lines; state = s; leads = g.leads; written = g.written });
    widths = tt;
  }

  -- ---- the rest has a whole line
  module _ (at : ℕ) (is : position is_feed rest ≡ Some at) where
    within : at + 1 ≤ length rest
    within = let l = position-Some is_feed rest at 0 is in omega (arith, l.0)

    -- the line is the same whatever comes behind it
    one_line : (more : List ℕ) → lines_of (rest ++ more) ≡ take at rest ∷ lines_of (drop (at + 1) rest ++ more)
    one_line more =
        split_at is_feed (rest ++ more) at (found_before is_feed rest more at is)
        ∙ ap (λ line. line ∷ lines_of (drop (at + 1) (rest ++ more))) (take-append-le at rest more (omega (arith, within)))
        ∙ ap (λ xs. take at rest ∷ lines_of xs) (drop-append-le (at + 1) rest more within)

    when_refused : (status : Status) → line_passed s (take at rest) ≡ Err status → (more : List ℕ) → whole (text ++ more) ≡ (halted s (take at rest), status)
    when_refused status e more = go (first_part is_feed (drop (at + 1) rest ++ more)) where
      go : (part : List ℕ) × (parts : List (List ℕ)) × (lines_of (drop (at + 1) rest ++ more) ≡ part ∷ parts) → whole (text ++ more) ≡ (halted s (take at rest), status)
      go f =
          let step : replayed s (take at rest ∷ f.0 ∷ f.1) ≡ (halted s (take at rest), status) = rw (e, replayed) refl in
          goes_on more ∙ ap (replayed s) (one_line more ∙ ap (λ ls. take at rest ∷ ls) f.2) ∙ step

    -- ---- the text through this line

    abbrev through : List ℕ
    through = g.passed_text ++ take (at + 1) rest

    -- the line with its feed
    abbrev fed : List ℕ
    fed = take (at + 1) rest

    fed-length : length fed ≡ at + 1
    fed-length = length-take-le (at + 1) rest within

    fed-parts : fed ++ drop (at + 1) rest ≡ rest
    fed-parts = take-append-drop (at + 1) rest

    fed-found : position is_feed fed ≡ Some at
    fed-found = go (position is_feed fed) refl where
      all : position is_feed (fed ++ drop (at + 1) rest) ≡ Some at
      all = ap (position is_feed) fed-parts ∙ is

      go : (o : Option ℕ) → position is_feed fed ≡ o → position is_feed fed ≡ Some at
      go None none = let le = none_until is_feed fed (drop (at + 1) rest) at none all in absurd (omega (arith, le, fed-length))
      go (Some i) found = found ∙ sym (found_before is_feed fed (drop (at + 1) rest) i found) ∙ all

    fed-line : take at fed ≡ take at rest
    fed-line = sym (take-append-le at fed (drop (at + 1) rest) (omega (arith, fed-length))) ∙ ap (take at) fed-parts

    fed-rest : drop (at + 1) fed ≡ []
    fed-rest = let none = length-drop (at + 1) fed in nothing (drop (at + 1) fed) (omega (arith, none, fed-length))

    -- it is that line whatever comes behind it
    lines-through : (more : List ℕ) → lines_of (through ++ more) ≡ (g.lines ++ take at rest ∷ []) ++ lines_of more
    lines-through more =
        let cut : lines_of (fed ++ more) ≡ take at (fed ++ more) ∷ lines_of (drop (at + 1) (fed ++ more)) = split_at is_feed (fed ++ more) at (found_before is_feed fed more at fed-found) in
        let line : take at (fed ++ more) ≡ take at rest = take-append-le at fed more (omega (arith, fed-length)) ∙ fed-line in
        let behind : drop (at + 1) (fed ++ more) ≡ more = drop-append-le (at + 1) fed more (omega (arith, fed-length)) ∙ ap (λ xs. xs ++ more) fed-rest in
        ap lines_of (append_assoc g.passed_text fed more) ∙ g.are (fed ++ more)
        ∙ ap (λ ls. g.lines ++ ls) (cut ∙ ap (λ l. l ∷ lines_of (drop (at + 1) (fed ++ more))) line ∙ ap (λ xs. take at rest ∷ lines_of xs) behind)
        ∙ sym (append_assoc g.lines (take at rest ∷ []) (lines_of more))

    -- it is a front of what was read
    through-front : (behind : List ℕ) × (text ≡ through ++ behind)
    through-front = (
      drop (at + 1) rest,
      g.cut ∙ ap (λ xs. g.passed_text ++ xs) (sym (take-append-drop (at + 1) rest)) ∙ sym (append_assoc g.passed_text (take (at + 1) rest) (drop (at + 1) rest)),
    )

    through-lines : lines_of through ≡ g.lines ++ take at rest ∷ [] ∷ []
    through-lines = ap lines_of (sym (append-nil through)) ∙ lines-through [] ∙ append_assoc g.lines (take at rest ∷ []) ([] ∷ [])

    -- its report is that of the lines before and what this line adds, passed or not
    through-report : report_of (whole through).0 ≡ report_of s ++ gain s (take at rest)
    unfolding whole
    through-report = ap (λ (p : Progress × Status). report_of p.0) (ap (replayed begin) through-lines ∙ leads_whole begin s g.lines (take at rest) ([] ∷ []) g.leads) ∙ go (line_passed s (take at rest)) refl where
      go : (r : Result Progress Status) → line_passed s (take at rest) ≡ r → report_of (replayed s (take at rest ∷ [] ∷ [])).0 ≡ report_of s ++ gain s (take at rest)
      go (Err status) e = rw (e, replayed) (halted-grown s (take at rest) status e)
      go (Ok t) e = rw (e, replayed) (passed-grown s t (take at rest) g.keeps.listed e)

    -- a front of what came of it was written
    through-written : (next : Option (List ℕ)) → WrotePrefix now next (gain s (take at rest)) → WrotePrefix old next (report_of (whole through).0)
    through-written next f = front_on old now next (report_of s) (gain s (take at rest)) [] (report_of (whole through).0) g.written f (through-report ∙ sym (append-nil _))

    in-line : (next : Option (List ℕ)) → WrotePrefix now next (gain s (take at rest)) → EndsInLine through old next
    in-line next f = record { lines = g.lines; line = take at rest; are = through-lines; state = s; leads = g.leads; between = now; written = g.written; front = f }

    pub going_on : (t : Progress) (next : Option (List ℕ)) → (line_passed s (take at rest) ≡ Ok t) × Appends now next (gain s (take at rest)) → Going text (drop (at + 1) rest) t old next
    going_on t next h = record {
      events = g.events ++ event_listed (judged s.reader (take at rest));
      keeps = passed-keeps s t (take at rest) g.events g.keeps h.0;
      read =
          let line : length (take at rest) ≡ at = length-take-le at rest (omega (arith, within)) in
          let read = (passed-read s t (take at rest) h.0).1 in
          omega (arith, within, line, read, g.read, length-drop (at + 1) rest);
      lines = g.lines ++ take at rest ∷ [];
      leads = leads_on begin s t g.lines (take at rest) g.leads h.0;
      passed_text = through;
      cut = g.cut ∙ ap (λ xs. g.passed_text ++ xs) (sym (take-append-drop (at + 1) rest)) ∙ sym (append_assoc g.passed_text (take (at + 1) rest) (drop (at + 1) rest));
      are = lines-through;
      written = subst (Appends old next) (sym (passed-grown s t (take at rest) g.keeps.listed h.0)) (Appends-trans old now next _ _ g.written h.1);
    }

    refused_here : (status : Status) (left next : Option (List ℕ)) → line_passed s (take at rest) ≡ Err status → Appends now next (gain s (take at rest)) → DecidesReplay text left × CompletesText status text old next
    refused_here status left next e h = (
      inr (decided (halted s (take at rest), status) (when_refused status e)),
      completes_as text (halted s (take at rest)) old next status (as_read (halted s (take at rest), status) (when_refused status e))
          (subst (Appends old next) (sym (halted-grown s (take at rest) status e)) (Appends-trans old now next (report_of s) (gain s (take at rest)) g.written h)),
    )

    -- the machine came as far as the line says, so its records are those of the text's replay
    stopped-widths : (status : Status) (t : Progress) → line_passed s (take at rest) ≡ Err status → t.machine ≡ (halted s (take at rest)).machine → HaveWidths t.machine.journal → HaveWidths (journal_of text)
    stopped-widths status t e is w =
        subst (λ (p : Progress × Status). HaveWidths p.0.machine.journal) (sym (as_read (halted s (take at rest), status) (when_refused status e))) (subst (λ (m : Machine). HaveWidths m.journal) is w)

    pub going_stop : (e : Status) (t : Progress) (left next : Option (List ℕ)) → PassesLine (line_passed s (take at rest)) (gain s (take at rest)) now next t (Err e)
        → HaltsAt (halted s (take at rest)).machine t.machine (Err e) → HaveWidths t.machine.journal → EndsSo e text left old next
    going_stop Done t left next h halts w = absurd h
    going_stop Usage t left next h halts w = absurd h
    going_stop ReadFault t left next h halts w = absurd h
    going_stop (Refused line why) t left next h halts w =
        let e = refused_here (Refused line why) left next h.0 h.1 in
        record { text = text; told = refl; wrote = whole-front text old next e.1.written; ended = e; widths = stopped-widths (Refused line why) t h.0 halts w }
    going_stop (Limit line what) t left next h halts w =
        let e = refused_here (Limit line what) left next h.0 h.1 in
        record { text = text; told = refl; wrote = whole-front text old next e.1.written; ended = e; widths = stopped-widths (Limit line what) t h.0 halts w }
    going_stop WriteFault t left next h halts w = record { text = through; told = through-front; wrote = through-written next h; ended = in-line next h; widths = tt }
    going_stop NoMemory t left next h halts w = record { text = through; told = through-front; wrote = through-written next h; ended = inl (in-line next h); widths = tt }

  -- ---- the rest has no line feed
  module _ (none : position is_feed rest ≡ None) where
    at_end : whole text ≡ (s, ending s rest)
    at_end = ap whole (sym (append-nil text)) ∙ goes_on [] ∙ ap (λ xs. replayed s (lines_of xs)) (append-nil rest) ∙ ap (replayed s) (split_alone is_feed rest none)

    -- the report of what was read is written
    written_so_far : Appends old now (report_of (whole text).0)
    written_so_far = subst (Appends old now) (sym (ap (λ (p : Progress × Status). report_of p.0) at_end)) g.written

    end-widths : HaveWidths s.machine.journal → HaveWidths (journal_of text)
    end-widths w = subst (λ (p : Progress × Status). HaveWidths p.0.machine.journal) (sym at_end) w

    -- the source failed
    pub going_failed : (left : Option (List ℕ)) → length text ≤ MAX_INPUT_BYTES → HaveWidths s.machine.journal → EndsSo ReadFault text left old now
    going_failed left small w = record { text = text; told = refl; wrote = whole-front text old now written_so_far; ended = failed; widths = end-widths w } where
      failed : Ended ReadFault text left old now
      failed = (
        small,
        (
          g.lines,
          rest,
          ap lines_of (sym (append-nil text)) ∙ lines-of-all text rest s old now g [] ∙ ap (λ xs. g.lines ++ lines_of xs) (append-nil rest) ∙ ap (λ ls. g.lines ++ ls) (split_alone is_feed rest none),
          subst (λ (p : Progress × Status). Leads begin g.lines p.0) (sym at_end) g.leads,
        ),
        written_so_far,
      )

    -- ---- it ends the text, or has more bytes than an input may have

    short : rest ≡ [] → length text ≤ MAX_INPUT_BYTES
    short e = let no : length rest ≡ 0 = ap length e in omega (arith, no, g.read, g.keeps.read)

    completed : (status : Status) → ending s rest ≡ status → CompletesText status text old now
    completed status e = completes_as text s old now status (at_end ∙ ap (λ (t : Status). (s, t)) e) g.written

    -- a line that is too long already is too long whatever comes behind it
    too_long : length text ≡ MAX_INPUT_BYTES + 1 → (more : List ℕ) → whole (text ++ more) ≡ (s, Limit (s.lines + 1) Input)
    too_long full more = goes_on more ∙ past_limit s rest more none (omega (arith, full, g.read)) g.keeps.read

    -- nothing that follows changes how it ends
    final : (left : Option (List ℕ)) → IsAtEnd left ⊎ (length text ≡ MAX_INPUT_BYTES + 1) → DecidesReplay text left
    final left (inl end) = inl end
    final left (inr full) = inr (decided (s, Limit (s.lines + 1) Input) (too_long full))

    at_its_end : (left : Option (List ℕ)) → IsAtEnd left ⊎ (length text ≡ MAX_INPUT_BYTES + 1) → length text ≤ MAX_INPUT_BYTES → IsAtEnd left
    at_its_end left (inl end) small = end
    at_its_end left (inr full) small = absurd (omega (arith, full, small))

    module _ (left : Option (List ℕ)) (how : IsAtEnd left ⊎ (length text ≡ MAX_INPUT_BYTES + 1)) (w : HaveWidths s.machine.journal) where
      ends-here : (status : Status) → TellsOfRead status text text → TellsWidths status text → Ended status text left old now → EndsSo status text left old now
      ends-here status told widths e = record { text = text; told = told; wrote = whole-front text old now written_so_far; ended = e; widths = widths }

      -- nothing follows the last line feed
      empty_end : (stage : Stage) → s.reader.stage ≡ stage → rest ≡ [] → EndsSo (ended_behind s.lines stage) text left old now
      empty_end Start e f = ends-here (Refused (s.lines + 1) Syntax) refl (end-widths w) (final left how, completed (Refused (s.lines + 1) Syntax) (ap (ending s) f ∙ ap (ended_behind s.lines) e))
      empty_end Settings e f = ends-here (Refused (s.lines + 1) Syntax) refl (end-widths w) (final left how, completed (Refused (s.lines + 1) Syntax) (ap (ending s) f ∙ ap (ended_behind s.lines) e))
      empty_end Files e f = ends-here (Refused (s.lines + 1) Syntax) refl (end-widths w) (final left how, completed (Refused (s.lines + 1) Syntax) (ap (ending s) f ∙ ap (ended_behind s.lines) e))
      empty_end Running e f = ends-here Done refl (end-widths w) (at_its_end left how (short f), short f, completed Done (ap (ending s) f ∙ ap (ended_behind s.lines) e))

      pub going_end : (status : Status) → status ≡ ending s rest → EndsSo status text left old now
      going_end status e = go rest refl where
        go : (r : List ℕ) → rest ≡ r → EndsSo status text left old now
        go [] f = subst (λ t. EndsSo t text left old now) (sym (e ∙ ap (ending s) f)) (empty_end s.reader.stage refl f)
        go (b ∷ bs) f = past (nat_lt MAX_INPUT_BYTES (s.read + length (b ∷ bs))) refl where
          past : (t : Bool) → nat_lt MAX_INPUT_BYTES (s.read + length (b ∷ bs)) ≡ t → EndsSo status text left old now
          past true h =
              let is : ending s rest ≡ Limit (s.lines + 1) Input = ap (ending s) f ∙ ap (λ u. cond u (Limit (s.lines + 1) Input) (Refused (s.lines + 1) Syntax)) h in
              subst (λ t. EndsSo t text left old now) (sym (e ∙ is)) (ends-here (Limit (s.lines + 1) Input) refl (end-widths w) (final left how, completed (Limit (s.lines + 1) Input) is))
          past false h =
              let is : ending s rest ≡ Refused (s.lines + 1) Syntax = ap (ending s) f ∙ ap (λ u. cond u (Limit (s.lines + 1) Input) (Refused (s.lines + 1) Syntax)) h in
              subst (λ t. EndsSo t text left old now) (sym (e ∙ is)) (ends-here (Refused (s.lines + 1) Syntax) refl (end-widths w) (final left how, completed (Refused (s.lines + 1) Syntax) is))
