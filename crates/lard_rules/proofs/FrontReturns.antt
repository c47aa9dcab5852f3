-- A connection that comes back reads on behind the notes of its return, as if the turn had begun with them.
use Rattle.std.proofs.Common.{◌≡◌, ℕ, zero, suc, ◌+◌, Bool, true, false, cond, nat_lt, List, [], ◌∷◌, ◌++◌, length, Option, Some, None, refl, sym, ap, ◌∙◌, subst}
use Rattle.std.proofs.lemmas.Bool.{cond_both}
use Rattle.std.proofs.lemmas.List.{append_assoc}
use Rattle.lard_answers.specs.Answers.{answer, good_path}
use Rattle.lard_base.specs.declared.place.Place.{Place}
use Rattle.lard_base.specs.declared.place.Via.{Via}
use Rattle.lard_base.specs.declared.place.Via.TheVariants.{Own}
use Rattle.lard_block.specs.Blocks.{cut_of}
use Rattle.lard_block.specs.declared.block.Found.{Found}
use Rattle.lard_block.specs.declared.block.Found.TheVariants.{Block, More, TooLong}
use Rattle.lard_dispatch.specs.declared.dispatch.First.{First}
use Rattle.lard_dispatch.specs.declared.dispatch.First.TheVariants as first
use Rattle.lard_endpoint.specs.Moving.{may_freeze}
use Rattle.lard_endpoint.specs.Control.{finishing}
use Rattle.lard_handoff_front.specs.declared.row.FrontRow.{FrontRow}
use Rattle.lard_journal.specs.declared.rec.Rec.{Rec}
use Rattle.lard_request.specs.declared.verdict.Code.TheVariants as code
use Rattle.lard_request.specs.declared.verdict.Verdict.{Verdict}
use Rattle.lard_request.specs.declared.verdict.Verdict.TheVariants.{Fault}
use Rattle.lard_rules.specs.declared.front.FrontRest.{FrontRest}
use Rattle.lard_rules.specs.Front.{FrontDeed, Does, FrontEnv, FrontPart, does_first, front_read_by, holds, placed, settled_by}
use Rattle.lard_rules.specs.FrontReading.{Reading, block_at, front_reads, reading_left, reading_turn, reads_block, reads_found, targeted}
use Rattle.lard_rules.specs.Loop.{Step, runs_on}
use Rattle.lard_rules.specs.Loop as loop
use Rattle.lard_rules.specs.Serving.{ServeEnv, Service, answered, ended_at_fin, may_read, passed_over, queued, replied, serving_consumed, serving_settled}
use Rattle.lard_rules.proofs.Runs.{runs-suc, then}

module _ (notes : List Rec) where
  -- the same turn, with these notes before its own
  abbrev pub noted : Service → Service
  noted w = record w { notes = notes ++ w.notes }

  abbrev pub noted_reading : Reading → Reading
  noted_reading x = record x { service = noted x.service }

  abbrev noted_step : Step Reading → Step Reading
  noted_step (loop.More x) = loop.More (noted_reading x)
  noted_step (loop.Done x) = loop.Done (noted_reading x)

  -- ---- a turn of reading

  queued-noted : (env : ServeEnv) (via : Via) (v : Verdict) (bytes : List ℕ) (w : Service) → queued env via v bytes (noted w) ≡ noted (queued env via v bytes w)
  queued-noted env via v bytes w = ap (λ (ns : List Rec). record (queued env via v bytes w) { notes = ns }) (append_assoc notes w.notes _)

  over-noted : (env : ServeEnv) (total : ℕ) (w : Service) → passed_over env total (noted w) ≡ noted (passed_over env total w)
  over-noted env total w = ap (λ (ns : List Rec). record (passed_over env total w) { notes = ns }) (append_assoc notes w.notes _)

  replied-noted : (env : ServeEnv) (via : Via) (v : Verdict) (bytes : List ℕ) (w : Service) → replied env via v bytes (noted w) ≡ noted (replied env via v bytes w)
  replied-noted env via v bytes w = go (nat_lt env.stream (w.block.send.total + length bytes)) where
    go : (b : Bool) → cond b (passed_over env (w.block.send.total + length bytes) (noted w)) (queued env via v bytes (noted w))
        ≡ noted (cond b (passed_over env (w.block.send.total + length bytes) w) (queued env via v bytes w))
    go true = over-noted env (w.block.send.total + length bytes) w
    go false = queued-noted env via v bytes w

  answered-noted : (env : ServeEnv) (v : Verdict) (w : Service) → answered env Own v (noted w) ≡ noted (answered env Own v w)
  answered-noted env v w = replied-noted env Own v (answer env.files v) w

  targeted-noted : (path : List ℕ) (x : Reading) → targeted path (noted_reading x) ≡ noted_reading (targeted path x)
  targeted-noted path x = go (may_freeze x.service.block) where
    go : (b : Bool) → cond b (record (noted_reading x) { target = Some path }) (noted_reading x) ≡ noted_reading (cond b (record x { target = Some path }) x)
    go true = refl
    go false = refl

  block-noted : (env : ServeEnv) (x : Reading) (n : ℕ) (v : Verdict) (o : Option (List ℕ)) → reads_block env (noted_reading x) n v o ≡ noted_step (reads_block env x n v o)
  block-noted env x n v None = ap (λ (w : Service). loop.More (record x { service = w })) (answered-noted env v (serving_consumed n x.service))
  block-noted env x n v (Some path) = ap loop.Done (targeted-noted path x)

  fin-noted : (w : Service) → ended_at_fin (noted w) ≡ noted (ended_at_fin w)
  fin-noted w = go w.block.recv.fin where
    go : (b : Bool) → cond b (record (noted w) { block = finishing w.block }) (noted w) ≡ noted (cond b (record w { block = finishing w.block }) w)
    go true = refl
    go false = refl

  found-noted : (env : ServeEnv) (x : Reading) (f : Found) → reads_found env (noted_reading x) f ≡ noted_step (reads_found env x f)
  found-noted env x (More skip) = ap (λ (w : Service). loop.Done (record x { service = w })) (fin-noted (serving_consumed skip x.service))
  found-noted env x (Block skip len) = block-noted env x (skip + len) (block_at x skip len) (good_path env.files (block_at x skip len))
  found-noted env x (TooLong skip) = ap (λ (w : Service). loop.More (record x { service = w })) (answered-noted env (Fault code.FieldsTooLarge) (serving_consumed (length x.service.block.recv.unread) x.service))

  turn-noted : (env : ServeEnv) (x : Reading) → reading_turn env (noted_reading x) ≡ noted_step (reading_turn env x)
  turn-noted env x = go (may_read x.service) where
    go : (b : Bool) → cond b (reads_found env (noted_reading x) (cut_of x.service.block.recv.unread)) (loop.Done (noted_reading x))
        ≡ noted_step (cond b (reads_found env x (cut_of x.service.block.recv.unread)) (loop.Done x))
    go true = found-noted env x (cut_of x.service.block.recv.unread)
    go false = refl

  -- ---- all turns

  then-noted : (f : Reading → Reading) → ((x : Reading) → f (noted_reading x) ≡ noted_reading (f x)) → (s : Step Reading) → then f (noted_step s) ≡ noted_reading (then f s)
  then-noted f same (loop.More x) = same x
  then-noted f same (loop.Done x) = refl

  runs-noted : (env : ServeEnv) (n : ℕ) (x : Reading) → runs_on n (reading_turn env) (noted_reading x) ≡ noted_reading (runs_on n (reading_turn env) x)
  unfolding runs_on
  runs-noted env zero x = refl
  runs-noted env (suc n) x =
      runs-suc (reading_turn env) n (noted_reading x) ∙ ap (then (runs_on n (reading_turn env))) (turn-noted env x)
      ∙ then-noted (runs_on n (reading_turn env)) (runs-noted env n) (reading_turn env x) ∙ sym (ap noted_reading (runs-suc (reading_turn env) n x))

  reads-noted : (env : ServeEnv) (x : Reading) → front_reads env (noted_reading x) ≡ noted_reading (front_reads env x)
  reads-noted env x = runs-noted env (reading_left x + 1) x

  -- ---- what it comes to

  module _ (env : FrontEnv) (p : FrontPart) (row : FrontRow) (rest : FrontRest) (said : List (Place × List ℕ)) where
    placed-noted : (w : Service) (path : List ℕ) (f : First) → does_first notes said (Does (placed env p row rest w path f)) ≡ does_first [] said (Does (placed env p row rest (noted w) path f))
    placed-noted w path (first.Go choice) = ap (λ (ns : List Rec). does_first [] said (Does (record (placed env p row rest w path (first.Go choice)) { turn = record (placed env p row rest w path (first.Go choice)).turn { notes = ns } })))
        (sym (append_assoc notes w.notes _))
    placed-noted w path first.Waits = ap (λ (ns : List Rec). does_first [] said (Does (record (placed env p row rest w path first.Waits) { turn = record (placed env p row rest w path first.Waits).turn { notes = ns } })))
        (sym (append_assoc notes w.notes _))

    settled-noted : (w : Service) (o : Option (List ℕ)) → does_first notes said (settled_by env p row rest w o) ≡ does_first [] said (settled_by env p row rest (noted w) o)
    settled-noted w None = go w.over where
      go : (o : Option ℕ) → does_first notes said (holds p row rest (serving_settled env.serve (record w { over = o })))
          ≡ does_first [] said (holds p row rest (serving_settled env.serve (record (noted w) { over = o })))
      go None = refl
      go (Some total) = refl
    settled-noted w (Some path) = placed-noted w path (env.first path)

    -- what stands before a reading may stand in its notes
    pub read-noted : (x : Reading) → does_first notes said (front_read_by env p row rest (front_reads env.serve x)) ≡ does_first [] said (front_read_by env p row rest (front_reads env.serve (noted_reading x)))
    read-noted x =
        settled-noted (front_reads env.serve x).service (front_reads env.serve x).target
        ∙ ap (λ (y : Reading). does_first [] said (front_read_by env p row rest y)) (sym (reads-noted env.serve x))
