-- What is read of a source, a piece after another, and how a run over it ends.
use Rattle.std.proofs.Common.{◌≡◌, ◌⊎◌, inl, inr, ℕ, ◌+◌, ◌≤◌, List, [], ◌++◌, length, take, drop, Option, Some, None, Ok, Err, refl, sym, ap, ◌∙◌, subst, arith, length-append}
use Rattle.std.proofs.KnownBytes.{Appends-nil, Consumes-nil, Consumes-trans}
use Rattle.std.specs.Io.KnownBytes.{Appends, Consumes, IsAtEnd}
use Rattle.std.specs.List.{position}
use Rattle.lard_law_view.specs.Prelude.{MAX_INPUT_BYTES, TakesIn, WrotePrefix}
use Rattle.lard_lines.specs.Lines.{Held, is_feed}
use Rattle.lard_report.specs.Formed.{HaveWidths}
use Rattle.lard_app.specs.declared.status.Status.{Status}
use Rattle.lard_app.specs.declared.status.Status.TheVariants.{ReadFault, NoMemory}
use Rattle.lard_app.specs.Replay.{begin, ending, gain, halted, line_passed, report_of, whole, HaltsAt, PassesLine, Progress}
use Rattle.lard_app.specs.Run.{ReadsInput}
use Rattle.lard_app.proofs.Going.{EndsSo, Going, going_end, going_failed, going_first, going_more, going_on, going_starved, going_stop}

-- ---- what is read of a source

-- what was read of a source and written to a sink: the text, and what of it is held
pub record Reading (left left_now : Option (List ℕ)) (held : Held) (s : Progress) (old now : Option (List ℕ)) : Type 0 where
  pub text : List ℕ
  pub consumed : Consumes left left_now text
  pub count : length text ≡ held.read
  pub bound : held.read ≤ MAX_INPUT_BYTES + 1
  pub most : held.most ≡ MAX_INPUT_BYTES
  pub going : Going text held.rest s old now

pub reading_first : (left old : Option (List ℕ)) (held : Held) (s : Progress) → held ≡ record { rest = []; read = 0; most = MAX_INPUT_BYTES } → s ≡ begin → Reading left left held s old old
reading_first left old held s h e = subst (λ (k : Held). Reading left left k s old old) (sym h) (record { text = []; consumed = Consumes-nil left; count = refl; bound = omega arith; most = refl; going = going_first s old e })

module _ (left mid now old new : Option (List ℕ)) (held more : Held) (s : Progress) where
  -- more is read
  pub reading_more : Reading left mid held s old new → TakesIn mid now held.rest more.rest → more.read + length held.rest ≡ held.read + length more.rest → more.read ≤ held.most + 1 → more.most ≡ held.most → Reading left now more s old new
  reading_more r t count bound most = record {
    text = r.text ++ t.taken;
    consumed = Consumes-trans left mid now r.text t.taken r.consumed t.consumed;
    count = let grown : length more.rest ≡ length held.rest + length t.taken = ap length t.text ∙ length-append held.rest t.taken in omega (arith, grown, count, r.count, length-append r.text t.taken);
    bound = subst (λ n. more.read ≤ n + 1) r.most bound;
    most = most ∙ r.most;
    going = subst (λ (rest : List ℕ). Going (r.text ++ t.taken) rest s old new) (sym t.text) (going_more r.text held.rest t.taken s old new r.going);
  }

module _ (left left_now old now : Option (List ℕ)) (held : Held) (s : Progress) (r : Reading left left_now held s old now) where
  -- a line is passed
  pub reading_on : (at : ℕ) (next : Held) (t : Progress) (new : Option (List ℕ)) → position is_feed held.rest ≡ Some at → next ≡ record { rest = drop (at + 1) held.rest; read = held.read; most = held.most }
      → (line_passed s (take at held.rest) ≡ Ok t) × Appends now new (gain s (take at held.rest)) → Reading left left_now next t old new
  reading_on at next t new is e h = subst (λ (k : Held). Reading left left_now k t old new) (sym e) (record {
    text = r.text;
    consumed = r.consumed;
    count = r.count;
    bound = r.bound;
    most = r.most;
    going = going_on r.text held.rest s old now r.going at is t new h;
  })

  ended_as : (status : Status) (new : Option (List ℕ)) → EndsSo status r.text left_now old new → ReadsInput status left left_now old new
  ended_as status new e = record { read = r.text; consumed = r.consumed; bounded = subst (λ n. n ≤ MAX_INPUT_BYTES + 1) (sym r.count) r.bound; text = e.text; told = e.told; wrote = e.wrote; ended = e.ended; widths = e.widths }

  -- a line ends the run
  pub reading_stop : (at : ℕ) (status : Status) (t : Progress) (new : Option (List ℕ)) → position is_feed held.rest ≡ Some at → PassesLine (line_passed s (take at held.rest)) (gain s (take at held.rest)) now new t (Err status)
      → HaltsAt (halted s (take at held.rest)).machine t.machine (Err status) → HaveWidths t.machine.journal → ReadsInput status left left_now old new
  reading_stop at status t new is h halts w = ended_as status new (going_stop r.text held.rest s old now r.going at is status t left_now new h halts w)

  -- memory runs out
  pub reading_starved : ReadsInput NoMemory left left_now old now
  reading_starved = ended_as NoMemory now (going_starved r.text held.rest s old now r.going left_now)

  module _ (none : position is_feed held.rest ≡ None) where
    -- the input ends
    pub reading_end : (status : Status) → IsAtEnd left_now ⊎ (held.read ≡ held.most + 1) → status ≡ ending s held.rest → HaveWidths s.machine.journal → ReadsInput status left left_now old now
    reading_end status how e w = ended_as status now (going_end r.text held.rest s old now r.going none left_now (full how) w status e) where
      full : IsAtEnd left_now ⊎ (held.read ≡ held.most + 1) → IsAtEnd left_now ⊎ (length r.text ≡ MAX_INPUT_BYTES + 1)
      full (inl end) = inl end
      full (inr most) = inr (r.count ∙ most ∙ ap (λ n. n + 1) r.most)

    -- the source fails
    pub reading_failed : held.read ≤ held.most → HaveWidths s.machine.journal → ReadsInput ReadFault left left_now old now
    reading_failed small w = ended_as ReadFault now (going_failed r.text held.rest s old now r.going none left_now (omega (arith, small, r.count, r.most)) w)

none-wrote : (old : Option (List ℕ)) → WrotePrefix old old (report_of (whole []).0)
unfolding whole
none-wrote old = record { front = []; rest = []; is = refl; written = Appends-nil old }

-- memory ran out before anything was read
pub reads-nothing : (left old : Option (List ℕ)) → ReadsInput NoMemory left left old old
reads-nothing left old = record {
  read = [];
  consumed = Consumes-nil left;
  bounded = omega arith;
  text = [];
  told = ([], refl);
  wrote = none-wrote old;
  ended = inr (record { lines = []; are = refl; state = begin; leads = refl; written = Appends-nil old });
  widths = tt;
}
