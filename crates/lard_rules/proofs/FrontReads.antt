-- The one walk over the front end's reading: block by block, until no whole block is left or one is to be placed. A law says what an answer
-- keeps, and what is so where reading stops.
use Rattle.std.proofs.Common.{◌≡◌, ◌≤◌, ◌+◌, ℕ, zero, suc, true, List, length, Option, Some, None, refl, sym, subst, arith}
use Rattle.std.proofs.lemmas.Bool.{cond_both}
use Rattle.lard_base.specs.declared.place.Via.TheVariants.{Own}
use Rattle.lard_block.specs.declared.block.Found.TheVariants.{Block, More, TooLong}
use Rattle.lard_block.proofs.Cutting.{cut-within}
use Rattle.lard_answers.specs.Answers.{good_path}
use Rattle.lard_block.specs.Blocks.{IsWithin, cut_of}
use Rattle.lard_block.specs.declared.block.Found.{Found}
use Rattle.lard_endpoint.specs.Moving.{may_freeze}
use Rattle.lard_request.specs.declared.verdict.Verdict.{Verdict}
use Rattle.lard_rules.specs.FrontReading.{Reading, block_at, front_reads, reading_left, reading_turn, reads_block, reads_found}
use Rattle.lard_rules.specs.Loop.{Step, runs_on}
use Rattle.lard_rules.specs.Serving.{ServeEnv, Service, answered, ended_at_fin, may_read, serving_consumed}
use Rattle.lard_request.specs.declared.verdict.Code.TheVariants as code
use Rattle.lard_request.specs.declared.verdict.Verdict.TheVariants.{Fault}
use Rattle.lard_rules.specs.Loop as loop

-- P is kept by each answer, which takes unread bytes. Where no whole block is left, D is so with nothing to place; where a request is to be placed
-- the endpoint may move; and D is so where no more may be read.
pub record KeptByReading (env : ServeEnv) (P : Service → Type 0) (D : Service → Option (List ℕ) → Type 0) : Type 0 where
  pub answers : (v : Verdict) (n : ℕ) (w : Service) → may_read w ≡ true → 1 ≤ n → n ≤ length w.block.recv.unread → P w → P (answered env Own v (serving_consumed n w))
  pub ends : (n : ℕ) (w : Service) → may_read w ≡ true → P w → D (ended_at_fin (serving_consumed n w)) None
  pub places : (path : List ℕ) (w : Service) → may_freeze w.block ≡ true → P w → D w (Some path)
  pub stops : (w : Service) → P w → D w None

module _ (env : ServeEnv) (P : Service → Type 0) (D : Service → Option (List ℕ) → Type 0) (kept : KeptByReading env P D) where
  abbrev Stops : Reading → Type 0
  Stops x = D x.service x.target

  abbrev StepReads : Step Reading → Type 0
  StepReads (loop.More x) = P x.service × (x.target ≡ None)
  StepReads (loop.Done x) = Stops x

  still : (x : Reading) → x.target ≡ None → P x.service → Stops x
  still x free h = subst (D x.service) (sym free) (kept.stops x.service h)

  block-reads : (x : Reading) (n : ℕ) (v : Verdict) (o : Option (List ℕ)) → may_read x.service ≡ true → 1 ≤ n → n ≤ reading_left x → x.target ≡ None → P x.service → StepReads (reads_block env x n v o)
  block-reads x n v None may some within free h = (kept.answers v n x.service may some within h, free)
  block-reads x n v (Some path) may some within free h = cond_both (may_freeze x.service.block) (record x { target = Some path }) x Stops (λ t. kept.places path x.service t h) (λ t. still x free h)

  found-reads : (x : Reading) (f : Found) → IsWithin f (reading_left x) → may_read x.service ≡ true → x.target ≡ None → P x.service → StepReads (reads_found env x f)
  found-reads x (More skip) w may free h = subst (D (ended_at_fin (serving_consumed skip x.service))) (sym free) (kept.ends skip x.service may h)
  found-reads x (Block skip len) w may free h = block-reads x (skip + len) (block_at x skip len) (good_path env.files (block_at x skip len)) may (omega (arith, w.0)) w.2 free h
  found-reads x (TooLong skip) w may free h = (kept.answers (Fault code.FieldsTooLarge) (reading_left x) x.service may (omega (arith, w)) (omega arith) h, free)

  turn-reads : (x : Reading) → x.target ≡ None → P x.service → StepReads (reading_turn env x)
  turn-reads x free h = cond_both (may_read x.service) (reads_found env x (cut_of x.service.block.recv.unread)) (loop.Done x) StepReads
      (λ t. found-reads x (cut_of x.service.block.recv.unread) (cut-within x.service.block.recv.unread) t free h) (λ t. still x free h)

  turns-read : (n : ℕ) (x : Reading) → x.target ≡ None → P x.service → Stops (runs_on n (reading_turn env) x)
  unfolding runs_on
  turns-read zero x free h = still x free h
  turns-read (suc n) x free h = go (reading_turn env x) (turn-reads x free h) (turns-read n) where
    go : (s : Step Reading) → StepReads s → ((y : Reading) → y.target ≡ None → P y.service → Stops (runs_on n (reading_turn env) y)) → Stops (elim s as (λ s. Reading) [ loop.More y ↦ runs_on n (reading_turn env) y | loop.Done y ↦ y ])
    go (loop.More y) k later = later y k.1 k.0
    go (loop.Done y) k later = k

  pub reading-keeps : (w : Service) → P w → let r = front_reads env (record { service = w; target = None }) in D r.service r.target
  reading-keeps w h = turns-read (length w.block.recv.unread + 1) (record { service = w; target = None }) refl h
