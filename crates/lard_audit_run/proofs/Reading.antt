-- What is read of a source, a piece after another, and how an audit over it ends.
use Rattle.std.proofs.Common.{◌≡◌, ◌⊎◌, inl, inr, ℕ, ◌+◌, ◌≤◌, List, [], ◌∷◌, ◌++◌, length, take, drop, Bool, true, false, cond, Option, Some, None, Ok, Err, refl, sym, ap, ◌∙◌, subst, arith, length-append}
use Rattle.std.proofs.KnownBytes.{Consumes-nil, Consumes-trans}
use Rattle.std.specs.Io.KnownBytes.{Consumes, IsAtEnd}
use Rattle.std.specs.List.{position}
use Rattle.std.specs.Prelude.{nat_lt}
use Rattle.lard_base.specs.Outside.{TakesIn}
use Rattle.lard_lines.specs.Lines.{Held, is_feed}
use Rattle.lard_audit_run.specs.declared.auditor.Auditor.{Auditor}
use Rattle.lard_audit_run.specs.declared.auditor.Stage.{Stage}
use Rattle.lard_audit_run.specs.declared.auditor.Stage.TheVariants as stage
use Rattle.lard_audit_run.specs.declared.auditor.TheConstants.{MAX_REPORT_BYTES}
use Rattle.lard_audit_run.specs.declared.verdict.Flaw.TheVariants as flaw
use Rattle.lard_audit_run.specs.declared.verdict.Verdict.{Verdict}
use Rattle.lard_audit_run.specs.declared.verdict.Verdict.TheVariants.{Sound, Refused, TooLong, ReadFault, WriteFault, NoMemory}
use Rattle.lard_audit_run.specs.Audited.{Course, audit_begin, ended_at, audit_ending, audit_passed}
use Rattle.lard_audit_run.specs.Runs.{Ends, Judged}
use Rattle.lard_audit_run.specs.Seen.{AuditPasses}
use Rattle.lard_audit_run.proofs.Going.{Going, going_end, going_failed, going_first, going_more, going_on, going_stop}

-- what was read of a source: the text, and what of it is held
pub record Reading (left left_now : Option (List ℕ)) (held : Held) (s : Course) : Type 0 where
  pub text : List ℕ
  pub consumed : Consumes left left_now text
  pub count : length text ≡ held.read
  pub bound : held.read ≤ MAX_REPORT_BYTES + 1
  pub most : held.most ≡ MAX_REPORT_BYTES
  pub going : Going text held.rest s

pub reading_first : (left : Option (List ℕ)) (held : Held) → held ≡ record { rest = []; read = 0; most = MAX_REPORT_BYTES } → Reading left left held audit_begin
reading_first left held h = subst (λ (k : Held). Reading left left k audit_begin) (sym h) (record { text = []; consumed = Consumes-nil left; count = refl; bound = omega arith; most = refl; going = going_first })

module _ (left mid now : Option (List ℕ)) (held more : Held) (s : Course) where
  -- more is read
  pub reading_more : Reading left mid held s → TakesIn mid now held.rest more.rest → more.read + length held.rest ≡ held.read + length more.rest → more.read ≤ held.most + 1 → more.most ≡ held.most → Reading left now more s
  reading_more r t count bound most = record {
    text = r.text ++ t.taken;
    consumed = Consumes-trans left mid now r.text t.taken r.consumed t.consumed;
    count = let grown : length more.rest ≡ length held.rest + length t.taken = ap length t.text ∙ length-append held.rest t.taken in omega (arith, grown, count, r.count, length-append r.text t.taken);
    bound = subst (λ n. more.read ≤ n + 1) r.most bound;
    most = most ∙ r.most;
    going = subst (λ (rest : List ℕ). Going (r.text ++ t.taken) rest s) (sym t.text) (going_more r.text held.rest t.taken s r.going);
  }

module _ (left left_now : Option (List ℕ)) (held : Held) (s : Course) (r : Reading left left_now held s) where
  -- a line is passed
  pub reading_on : (at : ℕ) (next : Held) (t : Course) → position is_feed held.rest ≡ Some at → next ≡ record { rest = drop (at + 1) held.rest; read = held.read; most = held.most }
      → audit_passed s (take at held.rest) ≡ Ok t → Reading left left_now next t
  reading_on at next t is e h = subst (λ (k : Held). Reading left left_now k t) (sym e) (record {
    text = r.text;
    consumed = r.consumed;
    count = r.count;
    bound = r.bound;
    most = r.most;
    going = going_on r.text held.rest s r.going at is t h;
  })

  ended_as : (v : Verdict) → Ends v r.text left_now → Judged v left left_now
  ended_as v e = record { text = r.text; consumed = r.consumed; bounded = subst (λ n. n ≤ MAX_REPORT_BYTES + 1) (sym r.count) r.bound; ends = e }

  -- a line ends the audit
  pub reading_stop : (at : ℕ) (v : Verdict) (a : Auditor) → position is_feed held.rest ≡ Some at → AuditPasses (audit_passed s (take at held.rest)) a (Err v) → Judged v left left_now
  reading_stop at (Refused line why) a is h = ended_as (Refused line why) (going_stop r.text held.rest s r.going at is (Refused line why) h left_now)
  reading_stop at (TooLong line) a is h = ended_as (TooLong line) (going_stop r.text held.rest s r.going at is (TooLong line) h left_now)
  reading_stop at NoMemory a is h = ended_as NoMemory tt
  reading_stop at (Sound n) a is h = absurd h
  reading_stop at ReadFault a is h = absurd h
  reading_stop at WriteFault a is h = absurd h

  -- memory runs out
  pub reading_starved : Judged NoMemory left left_now
  reading_starved = ended_as NoMemory tt

  module _ (none : position is_feed held.rest ≡ None) where
    -- the input ends
    pub reading_end : (v : Verdict) → IsAtEnd left_now ⊎ (held.read ≡ held.most + 1) → v ≡ audit_ending s held.rest → Judged v left left_now
    reading_end v how e = ended_as v (going_end r.text held.rest s r.going none left_now (full how) v e) where
      full : IsAtEnd left_now ⊎ (held.read ≡ held.most + 1) → IsAtEnd left_now ⊎ (length r.text ≡ MAX_REPORT_BYTES + 1)
      full (inl end) = inl end
      full (inr most) = inr (r.count ∙ most ∙ ap (λ n. n + 1) r.most)

    -- the source fails
    pub reading_failed : held.read ≤ held.most → Judged ReadFault left left_now
    reading_failed small = ended_as ReadFault (going_failed r.text held.rest s r.going none (omega (arith, small, r.count, r.most)))

-- memory ran out before anything was read
pub judged-nothing : (left : Option (List ℕ)) → Judged NoMemory left left
judged-nothing left = record { text = []; consumed = Consumes-nil left; bounded = omega arith; ends = tt }

-- no line ends an audit by a fault of reading
pub stop_no_read : (s : Course) (line : List ℕ) (a : Auditor) (v : Verdict) → AuditPasses (audit_passed s line) a (Err v) → ¬ (v ≡ ReadFault)
stop_no_read s line a ReadFault h e = h
stop_no_read s line a (Sound n) h e = cc
stop_no_read s line a (Refused number why) h e = cc
stop_no_read s line a (TooLong number) h e = cc
stop_no_read s line a WriteFault h e = cc
stop_no_read s line a NoMemory h e = cc

-- nor does the text's end
end_no_read : (s : Course) (at : Stage) → ¬ (ended_at s at ≡ ReadFault)
end_no_read s stage.Heading e = cc
end_no_read s stage.Files e = cc
end_no_read s stage.Records e = cc

pub ending_no_read : (s : Course) (rest : List ℕ) → ¬ (audit_ending s rest ≡ ReadFault)
ending_no_read s [] e = end_no_read s s.stage e
ending_no_read s (b ∷ bs) e = go (nat_lt MAX_REPORT_BYTES (s.read + length (b ∷ bs))) e where
  go : (t : Bool) → cond t (TooLong (s.lines + 1)) (Refused (s.lines + 1) flaw.Syntax) ≡ ReadFault → ⊥
  go true f = cc
  go false f = cc
