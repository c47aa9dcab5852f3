-- What is read of a source, a piece after another, and how a lab over it ends.
use Rattle.std.proofs.Common.{◌≡◌, ◌⊎◌, inl, inr, ℕ, ◌+◌, ◌≤◌, List, [], ◌++◌, length, take, drop, Option, Some, None, Ok, Err, refl, sym, ap, ◌∙◌, subst, arith, length-append}
use Rattle.std.proofs.KnownBytes.{Appends-nil, Consumes-nil, Consumes-trans}
use Rattle.std.specs.Io.KnownBytes.{Appends, Consumes, IsAtEnd}
use Rattle.std.specs.List.{position}
use Rattle.lard_base.specs.declared.limits.TheConstants.{MAX_INPUT_BYTES}
use Rattle.lard_base.specs.Outside.{TakesIn, WrotePrefix}
use Rattle.lard_lab.specs.declared.policy.Policy.{Policy}
use Rattle.lard_lines.specs.Lines.{Held, is_feed}
use Rattle.lard_lab_run.specs.Run.{LabReads}
use Rattle.lard_lab_run.specs.Trial.{Finishes, PassesInLab, LabProgress, lab_begin, end_gain, lab_ending, lab_gain, lab_passed, lab_whole}
use Rattle.lard_lab_run.specs.declared.end.LabEnd.{LabEnd}
use Rattle.lard_lab_run.specs.declared.end.LabEnd.TheVariants.{ReadFault, NoMemory}
use Rattle.lard_lab_run.proofs.Going.{EndsSo, Going, going_end, going_failed, going_first, going_more, going_on, going_starved, going_stop}

-- what was read of a source and written to a sink: the text, and what of it is held
pub record Reading (policy : Policy) (left left_now : Option (List ℕ)) (held : Held) (s : LabProgress) (old now : Option (List ℕ)) : Type 0 where
  pub text : List ℕ
  pub consumed : Consumes left left_now text
  pub count : length text ≡ held.read
  pub bound : held.read ≤ MAX_INPUT_BYTES + 1
  pub most : held.most ≡ MAX_INPUT_BYTES
  pub going : Going policy text held.rest s old now

pub reading_first : (policy : Policy) (left old : Option (List ℕ)) (held : Held) (s : LabProgress) → held ≡ record { rest = []; read = 0; most = MAX_INPUT_BYTES } → s ≡ lab_begin policy → Reading policy left left held s old old
reading_first policy left old held s h e =
    subst (λ (k : Held). Reading policy left left k s old old) (sym h) (record { text = []; consumed = Consumes-nil left; count = refl; bound = omega arith; most = refl; going = going_first policy s old e })

module _ (policy : Policy) (left mid now old new : Option (List ℕ)) (held more : Held) (s : LabProgress) where
  -- more is read
  pub reading_more : Reading policy left mid held s old new → TakesIn mid now held.rest more.rest → more.read + length held.rest ≡ held.read + length more.rest → more.read ≤ held.most + 1 → more.most ≡ held.most
      → Reading policy left now more s old new
  reading_more r t count bound most = record {
    text = r.text ++ t.taken;
    consumed = Consumes-trans left mid now r.text t.taken r.consumed t.consumed;
    count = let grown : length more.rest ≡ length held.rest + length t.taken = ap length t.text ∙ length-append held.rest t.taken in omega (arith, grown, count, r.count, length-append r.text t.taken);
    bound = subst (λ n. more.read ≤ n + 1) r.most bound;
    most = most ∙ r.most;
    going = subst (λ (rest : List ℕ). Going policy (r.text ++ t.taken) rest s old new) (sym t.text) (going_more policy r.text held.rest t.taken s old new r.going);
  }

module _ (policy : Policy) (left left_now old now : Option (List ℕ)) (held : Held) (s : LabProgress) (r : Reading policy left left_now held s old now) where
  -- a line is passed
  pub reading_on : (at : ℕ) (next : Held) (t : LabProgress) (new : Option (List ℕ)) → position is_feed held.rest ≡ Some at → next ≡ record { rest = drop (at + 1) held.rest; read = held.read; most = held.most }
      → (lab_passed s (take at held.rest) ≡ Ok t) × Appends now new (lab_gain s (take at held.rest)) → Reading policy left left_now next t old new
  reading_on at next t new is e h = subst (λ (k : Held). Reading policy left left_now k t old new) (sym e) (record {
    text = r.text;
    consumed = r.consumed;
    count = r.count;
    bound = r.bound;
    most = r.most;
    going = going_on policy r.text held.rest s old now r.going at is t new h;
  })

  ended_as : (end : LabEnd) (new : Option (List ℕ)) → EndsSo policy end r.text left_now old new → LabReads policy end left left_now old new
  ended_as end new e = record { read = r.text; consumed = r.consumed; bounded = subst (λ n. n ≤ MAX_INPUT_BYTES + 1) (sym r.count) r.bound; text = e.text; told = e.told; wrote = e.wrote; ended = e.ended }

  -- a line ends the lab
  pub reading_stop : (at : ℕ) (end : LabEnd) (t : LabProgress) (new : Option (List ℕ)) → position is_feed held.rest ≡ Some at → PassesInLab (lab_passed s (take at held.rest)) (lab_gain s (take at held.rest)) now new t (Err end)
      → LabReads policy end left left_now old new
  reading_stop at end t new is h = ended_as end new (going_stop policy r.text held.rest s old now r.going at is end t left_now new h)

  -- memory runs out
  pub reading_starved : LabReads policy NoMemory left left_now old now
  reading_starved = ended_as NoMemory now (going_starved policy r.text held.rest s old now r.going left_now)

  module _ (none : position is_feed held.rest ≡ None) where
    -- the input ends
    pub reading_end : (end : LabEnd) (new : Option (List ℕ)) → IsAtEnd left_now ⊎ (held.read ≡ held.most + 1) → Finishes (lab_ending s held.rest) (end_gain s held.rest) now new end → LabReads policy end left left_now old new
    reading_end end new how e = ended_as end new (going_end policy r.text held.rest s old now r.going none left_now new (full how) end e) where
      full : IsAtEnd left_now ⊎ (held.read ≡ held.most + 1) → IsAtEnd left_now ⊎ (length r.text ≡ MAX_INPUT_BYTES + 1)
      full (inl end) = inl end
      full (inr most) = inr (r.count ∙ most ∙ ap (λ n. n + 1) r.most)

    -- the source fails
    pub reading_failed : held.read ≤ held.most → LabReads policy ReadFault left left_now old now
    reading_failed small = ended_as ReadFault now (going_failed policy r.text held.rest s old now r.going none left_now (omega (arith, small, r.count, r.most)))

none-wrote : (policy : Policy) (old : Option (List ℕ)) → WrotePrefix old old (lab_whole policy []).1
unfolding lab_whole
none-wrote policy old = record { front = []; rest = []; is = refl; written = Appends-nil old }

-- memory ran out before anything was read
pub reads-nothing : (policy : Policy) (left old : Option (List ℕ)) → LabReads policy NoMemory left left old old
reads-nothing policy left old = record {
  read = [];
  consumed = Consumes-nil left;
  bounded = omega arith;
  text = [];
  told = ([], refl);
  wrote = none-wrote policy old;
  ended = inr (inl (record { lines = []; last = []; are = refl; state = lab_begin policy; told = []; leads = (refl, refl); written = Appends-nil old }));
}
