-- What reading leaves as it was, at the front end and at a node: what was taken, what is acknowledged, and whether the peer reset the
-- connection.
use Rattle.std.proofs.Common.{◌≡◌, ◌≤◌, ◌+◌, ◌^◌, ℕ, zero, suc, Bool, true, List, [], length, Option, Some, None, sym, ap, ◌∙◌, arith}
use Rattle.std.proofs.lemmas.Bool.{cond_both}
use Rattle.lard_law_view.specs.Prelude.{ControlBlock, Done, Ending, Found, IsStream, More, Place, Reading, ServeEnv, Service, Step, Stream, Verdict, answered, block_at, cut_of, emits_left, end_reason, ended_at_fin, finishing, front_reads, good_path, may_freeze, may_read, one_if, reading_left, reading_turn, reads_block, reads_found, runs_on, serving_consumed, serving_settled, speaks, speaks_symbols, spoken}
use Rattle.lard_base.specs.declared.place.Reason.TheVariants as reason
use Rattle.lard_base.specs.declared.place.Via.TheVariants.{Own}
use Rattle.lard_block.specs.declared.block.Found.TheVariants as found
use Rattle.lard_law_connections.proofs.LimitsWorking.{KeptByServing}
use Rattle.lard_law_view.proofs.EndpointStreams.{IsBetween, between-consumed, onward-finished}
use Rattle.lard_law_view.proofs.Stopping.{unfinished-there}
use Rattle.lard_law_view.proofs.Acked.{heard_at, heard_by}
use Rattle.lard_law_view.proofs.EndpointActs.{ended-heard}
use Rattle.lard_law_view.proofs.EndpointArriving.{Holds}
use Rattle.lard_law_view.proofs.EndpointReading.{Reads, Stays, answered-reads}
use Rattle.lard_law_view.proofs.EndpointSaying.{Spoke, emits-spoke, emits_symbols-spoke}
use Rattle.lard_request.specs.declared.verdict.Code.TheVariants as code
use Rattle.lard_request.specs.declared.verdict.Verdict.TheVariants.{Fault}
use Rattle.lard_rules.proofs.Endings.{rested-keeps, settled-keeps}

-- as much was taken before it as after it
pub stays-heard : (b d : ControlBlock) → Stays b d → heard_by d.recv ≡ heard_by b.recv
stays-heard b d l = ap (λ n. 1 + n + one_if d.recv.fin) l.0 ∙ ap (λ f. 1 + b.recv.got + one_if f) l.1

pub stays-holds : (b d : ControlBlock) (most : ℕ) (aborted : Bool) → Stays b d → Holds most aborted b → Holds most aborted d
stays-holds b d most aborted l h = (let same = l.2 in let le = h.0 in omega arith, λ t. h.1 (sym l.3 ∙ t))

module _ (w : Stream) (first : ℕ) (b : ControlBlock) (env : ServeEnv) (most : env.stream ≤ 2 ^ 30) where
  -- what began as the endpoint b
  abbrev pub Serves : Service → Type 0
  Serves s = Reads w first b s.block

  consumed-serves : (n : ℕ) (s : Service) → Serves s → Serves (serving_consumed n s)
  consumed-serves n s h = (h.0, (h.1.0, h.1.1, between-consumed w h.1.0 s.block h.1.2 n))

  ended-here : (s : Service) → Serves s → Serves (ended_at_fin s)
  ended-here s h = cond_both s.block.recv.fin (record s { block = finishing s.block }) s Serves
      (λ t. let on = onward-finished w h.1.0 s.block h.1.2 in (h.0, (on.next, on.longer.first ∙ h.1.1, on.between))) (λ t. h)

  ended-serves : (n : ℕ) (s : Service) → Serves s → Serves (ended_at_fin (serving_consumed n s))
  ended-serves n s h = ended-here (serving_consumed n s) (consumed-serves n s h)

  -- ---- a stay at a node

  pub stay-keeps : KeptByServing env Serves
  stay-keeps = record {
    notes = λ s rs starts h. h;
    reads = λ s n h. consumed-serves n s h;
    ends = ended-here;
    answers = λ s way v may h. answered-reads w first b env most way v s (unfinished-there s may) h;
  }

  -- ---- the front end

  answers-serves : (v : Verdict) (n : ℕ) (s : Service) → may_read s ≡ true → Serves s → Serves (answered env Own v (serving_consumed n s))
  answers-serves v n s may h = answered-reads w first b env most Own v (serving_consumed n s) (unfinished-there s may) (consumed-serves n s h)

  abbrev StepServes : Step Reading → Type 0
  StepServes (More y) = Serves y.service
  StepServes (Done y) = Serves y.service

  found-serves : (x : Reading) → Serves x.service → may_read x.service ≡ true → (f : Found) → StepServes (reads_found env x f)
  found-serves x h may (found.More skip) = ended-serves skip x.service h
  found-serves x h may (found.Block skip len) = by_path (good_path env.files (block_at x skip len)) where
    by_path : (o : Option (List ℕ)) → StepServes (reads_block env x (skip + len) (block_at x skip len) o)
    by_path None = answers-serves (block_at x skip len) (skip + len) x.service may h
    by_path (Some path) = cond_both (may_freeze x.service.block) (record x { target = Some path }) x (λ (y : Reading). Serves y.service) (λ t. h) (λ t. h)
  found-serves x h may (found.TooLong skip) = answers-serves (Fault code.FieldsTooLarge) (length x.service.block.recv.unread) x.service may h

  turn-serves : (x : Reading) → Serves x.service → StepServes (reading_turn env x)
  turn-serves x h = cond_both (may_read x.service) (reads_found env x (cut_of x.service.block.recv.unread)) (Done x) StepServes
      (λ may. found-serves x h may (cut_of x.service.block.recv.unread)) (λ may. h)

  -- so many turns
  stops-on : (n : ℕ) (x : Reading) → Serves x.service → Serves (runs_on n (reading_turn env) x).service
  unfolding runs_on
  stops-on zero x h = h
  stops-on (suc n) x h = go (reading_turn env x) (turn-serves x h) (stops-on n) where
    go : (s : Step Reading) → StepServes s → ((y : Reading) → Serves y.service → Serves (runs_on n (reading_turn env) y).service) → Serves (elim s as (λ s. Reading) [ More y ↦ runs_on n (reading_turn env) y | Done y ↦ y ]).service
    go (More y) k later = later y k
    go (Done y) k later = k

  pub reads-serves : (s : Service) → Serves s → Serves (front_reads env (record { service = s; target = None })).service
  reads-serves s h = stops-on (reading_left (record { service = s; target = None }) + 1) (record { service = s; target = None }) h

-- ---- the end of a turn

module _ (env : ServeEnv) (w out : Stream) (is : IsStream w) where
  -- it takes nothing
  pub spoken-heard : (s : Service) (before : List (Place × List ℕ)) → IsBetween w out s.block → heard_at w.first (spoken env s before).0 ≡ heard_by s.block.recv
  spoken-heard s before h =
      let said = speaks env.c s.block in
      let talk : Spoke env.c w out s.block said = emits-spoke env.c w out (emits_left s.block) s.block h in
      let recv : heard_by said.1.recv ≡ heard_by s.block.recv = ap heard_by talk.left.0 in
      rested-keeps (λ (e : Ending). heard_at w.first e ≡ heard_by s.block.recv) said.1 s.count
      (λ t. ended-heard w out said.1 (end_reason said.1) is talk.between ∙ recv) (λ t. recv)

  pub settled-heard : (s : Service) → IsBetween w out s.block → heard_at w.first (serving_settled env s).0 ≡ heard_by s.block.recv
  settled-heard s h =
      let said = speaks_symbols env.c s.block in
      let talk : Spoke env.c w out s.block said = emits_symbols-spoke env.c w out (emits_left s.block) s.block h in
      settled-keeps (λ given. heard_at w.first given.0 ≡ heard_by s.block.recv) env s (λ e. spoken-heard s [] h)
      (λ total e. ended-heard w out said.1 reason.Limit is talk.between ∙ ap heard_by talk.left.0)
