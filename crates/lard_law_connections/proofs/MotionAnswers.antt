-- What the front end notes while it reads: responses, and a reset.
use Rattle.std.proofs.Common.{◌+◌, nat_lt, ℕ, List, [], ◌∷◌, length, Option, Some, None, subst}
use Rattle.std.proofs.lemmas.Bool.{cond_both}
use Rattle.lard_law_view.specs.Prelude.{Done, Found, More, Reading, Rec, ServeEnv, Service, Step, Verdict, answer, answer_code, answered, block_at, cut_of, ended_at_fin, finishing, front_reads, good_path, may_freeze, may_read, passed_over, queued, reading_left, reading_turn, reads_block, reads_found, serving_consumed, targeted}
use Rattle.lard_base.specs.declared.place.Via.TheVariants.{Own}
use Rattle.lard_block.specs.declared.block.Found.TheVariants as found
use Rattle.lard_history.proofs.Each.{Each, Each-append}
use Rattle.lard_journal.specs.declared.rec.Rec.TheVariants as rec
use Rattle.lard_request.specs.declared.verdict.Code.TheVariants as code
use Rattle.lard_request.specs.declared.verdict.Verdict.TheVariants.{Fault}
use Rattle.lard_rules.proofs.Runs.{runs_keep}

abbrev pub IsAnswer : Rec → Type 0
IsAnswer (rec.Served place c r code size via) = Unit {0}
IsAnswer (rec.Reset place c total) = Unit {0}
IsAnswer _ = ⊥

module _ (env : ServeEnv) where
  abbrev Notes : Service → Type 0
  Notes s = Each IsAnswer s.notes

  answered-notes : (v : Verdict) (s : Service) → Notes s → Notes (answered env Own v s)
  answered-notes v s h =
      let bytes : List ℕ = answer env.files v in
      let total : ℕ = s.block.send.total + length bytes in
      cond_both (nat_lt env.stream total) (passed_over env total s) (queued env Own v bytes s) Notes
      (λ t. Each-append IsAnswer s.notes (rec.Reset env.place env.c total ∷ []) h (tt, tt))
      (λ t. Each-append IsAnswer s.notes (rec.Served env.place env.c (s.count + 1) (answer_code env.files v) (length bytes) Own ∷ []) h (tt, tt))

  ended-notes : (s : Service) → Notes s → Notes (ended_at_fin s)
  ended-notes s h = cond_both s.block.recv.fin (record s { block = finishing s.block }) s Notes (λ t. h) (λ t. h)

  abbrev ReadsSo : Step Reading → Type 0
  ReadsSo (More y) = Notes y.service
  ReadsSo (Done y) = Notes y.service

  targeted-notes : (path : List ℕ) (x : Reading) → Notes x.service → Notes (targeted path x).service
  targeted-notes path x h = cond_both (may_freeze x.service.block) (record x { target = Some path }) x (λ (y : Reading). Notes y.service) (λ t. h) (λ t. h)

  block-notes : (x : Reading) (n : ℕ) (v : Verdict) (o : Option (List ℕ)) → Notes x.service → ReadsSo (reads_block env x n v o)
  block-notes x n v None h = answered-notes v (serving_consumed n x.service) h
  block-notes x n v (Some path) h = targeted-notes path x h

  found-notes : (x : Reading) (f : Found) → Notes x.service → ReadsSo (reads_found env x f)
  found-notes x (found.More skip) h = ended-notes (serving_consumed skip x.service) h
  found-notes x (found.Block skip len) h = block-notes x (skip + len) (block_at x skip len) (good_path env.files (block_at x skip len)) h
  found-notes x (found.TooLong skip) h = answered-notes (Fault code.FieldsTooLarge) (serving_consumed (length x.service.block.recv.unread) x.service) h

  turn-notes : (x : Reading) → Notes x.service → ReadsSo (reading_turn env x)
  turn-notes x h = cond_both (may_read x.service) (reads_found env x (cut_of x.service.block.recv.unread)) (Done x) ReadsSo (λ t. found-notes x (cut_of x.service.block.recv.unread) h) (λ t. h)

  pub reads-answers : (x : Reading) → Each IsAnswer x.service.notes → Each IsAnswer (front_reads env x).service.notes
  reads-answers x h = runs_keep (reading_turn env) reading_left (λ (y : Reading). Notes y.service) (record {
    more = λ y z e p. subst ReadsSo e (turn-notes y p);
    done = λ y z e p. subst ReadsSo e (turn-notes y p);
  }) x h
