-- The turns of reading: each but the last takes unread bytes, and a request that is to be placed finds an endpoint that may move.
use Rattle.std.proofs.Common.{◌≡◌, ℕ, zero, suc, ◌+◌, ◌≤◌, ◌<◌, true, false, List, length, cond, Option, Some, None, refl, sym, ap, subst, ◌∙◌, arith, length-drop}
use Rattle.std.proofs.lemmas.Bool.{cond_both}
use Rattle.lard_answers.specs.Answers.{answer, good_path}
use Rattle.lard_base.specs.declared.place.Via.{Via}
use Rattle.lard_base.specs.declared.place.Via.TheVariants.{Own}
use Rattle.lard_block.specs.declared.block.Found.{Found}
use Rattle.lard_block.specs.declared.block.Found.TheVariants.{Block, More, TooLong}
use Rattle.lard_block.specs.Blocks.{cut_of, IsWithin}
use Rattle.lard_block.proofs.Cutting.{cut-within}
use Rattle.lard_endpoint.specs.Control.{ControlBlock, discarding_on, finishing, queueing}
use Rattle.lard_endpoint.specs.Moving.{may_freeze}
use Rattle.lard_request.specs.declared.verdict.Code.TheVariants as code
use Rattle.lard_request.specs.declared.verdict.Verdict.{Verdict}
use Rattle.lard_request.specs.declared.verdict.Verdict.TheVariants.{Fault}
use Rattle.lard_request.specs.Verdict.{closes}
use Rattle.lard_rules.proofs.Endings.{answered-keeps, at-fin-keeps}
use Rattle.lard_rules.proofs.FrontBlocks.{ServesAs, one-few}
use Rattle.lard_rules.proofs.Reading.{answered-unread}
use Rattle.lard_rules.proofs.Runs.{Falls, goes_done, goes_more}
use Rattle.lard_rules.specs.Loop.{Step, runs_on}
use Rattle.lard_rules.specs.Loop as loop
use Rattle.lard_rules.specs.Serving.{ServeEnv, Service, answered, closed_behind, serving_consumed, ended_at_fin, may_read}
use Rattle.lard_rules.specs.FrontReading.{MayMove, Reading, block_at, reading_left, front_reads, reads_block, reads_found, targeted, reading_turn, with_service}

-- ---- each turn but the last takes unread bytes

abbrev FallsFrom : ℕ → Step Reading → Type 0
FallsFrom n (loop.More y) = reading_left y < n
FallsFrom n (loop.Done y) = Unit {0}

block-falls : (env : ServeEnv) (x : Reading) (n : ℕ) (v : Verdict) (o : Option (List ℕ)) → 1 ≤ n → n ≤ reading_left x → FallsFrom (reading_left x) (reads_block env x n v o)
block-falls env x n v None some within = omega (arith, answered-unread env Own v (serving_consumed n x.service), length-drop n x.service.block.recv.unread, some, within)
block-falls env x n v (Some path) some within = tt

found-falls : (env : ServeEnv) (x : Reading) (f : Found) → IsWithin f (reading_left x) → FallsFrom (reading_left x) (reads_found env x f)
found-falls env x (More skip) h = tt
found-falls env x (Block skip len) h = block-falls env x (skip + len) (block_at x skip len) (good_path env.files (block_at x skip len)) (omega (arith, h.0)) h.2
found-falls env x (TooLong skip) h =
    omega (arith, answered-unread env Own (Fault code.FieldsTooLarge) (serving_consumed (reading_left x) x.service), length-drop (reading_left x) x.service.block.recv.unread, h)

pub falls : (env : ServeEnv) → Falls (reading_turn env) reading_left
falls env x y e = subst (FallsFrom (reading_left x)) e (cond_both (may_read x.service) (reads_found env x (cut_of x.service.block.recv.unread)) (loop.Done x) (FallsFrom (reading_left x))
    (λ t. found-falls env x (cut_of x.service.block.recv.unread) (cut-within x.service.block.recv.unread)) (λ t. tt))

-- ---- as the code takes turns

turn-reads : (env : ServeEnv) (x : Reading) → may_read x.service ≡ true → reading_turn env x ≡ reads_found env x (cut_of x.service.block.recv.unread)
turn-reads env x may = ap (λ b. cond {A = Step Reading} b (reads_found env x (cut_of x.service.block.recv.unread)) (loop.Done x)) may

-- a turn after which it goes on
pub reads-on : (env : ServeEnv) (x y : Reading) → may_read x.service ≡ true → loop.More y ≡ reads_found env x (cut_of x.service.block.recv.unread) → front_reads env y ≡ front_reads env x
reads-on env x y may e = sym (goes_more (reading_turn env) reading_left (falls env) x y (turn-reads env x may ∙ sym e))

-- the turn after which it stops
pub reads-last : (env : ServeEnv) (x y : Reading) → may_read x.service ≡ true → loop.Done y ≡ reads_found env x (cut_of x.service.block.recv.unread) → y ≡ front_reads env x
reads-last env x y may e = sym (goes_done (reading_turn env) reading_left x y (turn-reads env x may ∙ sym e))

-- no more may be read
pub reads-none : (env : ServeEnv) (x : Reading) → may_read x.service ≡ false → x ≡ front_reads env x
reads-none env x may = sym (goes_done (reading_turn env) reading_left x x (ap (λ b. cond {A = Step Reading} b (reads_found env x (cut_of x.service.block.recv.unread)) (loop.Done x)) may))

-- what falls, where it goes on
pub less-left : (env : ServeEnv) (x y : Reading) → loop.More y ≡ reads_found env x (cut_of x.service.block.recv.unread) → reading_left y < reading_left x
less-left env x y e = subst (FallsFrom (reading_left x)) (sym e) (found-falls env x (cut_of x.service.block.recv.unread) (cut-within x.service.block.recv.unread))

-- ---- what a turn leaves serves on, and what is to be placed may move

closed-serves : (v : Verdict) (n : ℕ) (b : ControlBlock) → ServesAs n b → ServesAs n (closed_behind v b)
closed-serves v n b h = cond_both (closes v) (finishing (discarding_on b)) b (ServesAs n)
    (λ t. record { asked = omega (arith, h.asked); most = h.most; sent = omega (arith, h.sent, one-few b.send.finished) }) (λ t. h)

abbrev pub IsServed : Service → Type 0
IsServed w = ServesAs w.count w.block

consumed-serves : (n : ℕ) (w : Service) → IsServed w → IsServed (serving_consumed n w)
consumed-serves n w h = record { asked = omega (arith, h.asked, length-drop n w.block.recv.unread); most = h.most; sent = h.sent }

-- an answer is of a request that was read
pub answered-serves : (env : ServeEnv) (via : Via) (v : Verdict) (w : Service) → w.count + 1 + length w.block.recv.unread ≤ w.block.recv.got → IsServed w → IsServed (answered env via v w)
answered-serves env via v w le h =
    answered-keeps IsServed env via v w (λ t. h)
    (λ t. closed-serves v (w.count + 1) (queueing w.block (answer env.files v)) (record { asked = le; most = h.most; sent = omega (arith, h.sent) }))

ended-serves : (w : Service) → IsServed w → IsServed (ended_at_fin w)
ended-serves w h = at-fin-keeps IsServed w (λ t. record { asked = h.asked; most = h.most; sent = omega (arith, h.sent, one-few w.block.send.finished) }) (λ t. h)

-- while it goes on nothing is to be placed
abbrev pub IsReading : Reading → Type 0
IsReading x = IsServed x.service × (x.target ≡ None)

abbrev pub HasStopped : Reading → Type 0
HasStopped x = IsServed x.service × MayMove x.service.block x.target

abbrev ReadOn : Step Reading → Type 0
ReadOn (loop.More y) = IsReading y
ReadOn (loop.Done y) = HasStopped y

still : (x : Reading) (w : Service) → IsServed w → x.target ≡ None → HasStopped (with_service x w)
still x w h none = (h, subst (MayMove w.block) (sym none) tt)

targeted-stops : (path : List ℕ) (x : Reading) → IsReading x → HasStopped (targeted path x)
targeted-stops path x h = cond_both (may_freeze x.service.block) (record x { target = Some path }) x HasStopped (λ t. (h.0, t)) (λ t. still x x.service h.0 h.1)

block-reads : (env : ServeEnv) (x : Reading) (n : ℕ) (v : Verdict) (o : Option (List ℕ)) → 1 ≤ n → n ≤ reading_left x → IsReading x → ReadOn (reads_block env x n v o)
block-reads env x n v None some within h =
    (answered-serves env Own v (serving_consumed n x.service) (omega (arith, h.0.asked, length-drop n x.service.block.recv.unread, some, within)) (consumed-serves n x.service h.0), h.1)
block-reads env x n v (Some path) some within h = targeted-stops path x h

found-reads : (env : ServeEnv) (x : Reading) (f : Found) → IsWithin f (reading_left x) → IsReading x → ReadOn (reads_found env x f)
found-reads env x (More skip) w h = still x (ended_at_fin (serving_consumed skip x.service)) (ended-serves (serving_consumed skip x.service) (consumed-serves skip x.service h.0)) h.1
found-reads env x (Block skip len) w h = block-reads env x (skip + len) (block_at x skip len) (good_path env.files (block_at x skip len)) (omega (arith, w.0)) w.2 h
found-reads env x (TooLong skip) w h =
    (answered-serves env Own (Fault code.FieldsTooLarge) (serving_consumed (reading_left x) x.service) (omega (arith, h.0.asked, length-drop (reading_left x) x.service.block.recv.unread, w)) (consumed-serves (reading_left x) x.service h.0), h.1)

turn-reads-on : (env : ServeEnv) (x : Reading) → IsReading x → ReadOn (reading_turn env x)
turn-reads-on env x h = cond_both (may_read x.service) (reads_found env x (cut_of x.service.block.recv.unread)) (loop.Done x) ReadOn
    (λ t. found-reads env x (cut_of x.service.block.recv.unread) (cut-within x.service.block.recv.unread) h) (λ t. still x x.service h.0 h.1)

-- so many turns
stops-on : (env : ServeEnv) (n : ℕ) (x : Reading) → IsReading x → HasStopped (runs_on n (reading_turn env) x)
unfolding runs_on
stops-on env zero x h = still x x.service h.0 h.1
stops-on env (suc n) x h = go (reading_turn env x) (turn-reads-on env x h) (stops-on env n) where
  go : (s : Step Reading) → ReadOn s → ((y : Reading) → IsReading y → HasStopped (runs_on n (reading_turn env) y)) → HasStopped (elim s as (λ s. Reading) [ loop.More y ↦ runs_on n (reading_turn env) y | loop.Done y ↦ y ])
  go (loop.More y) k later = later y k
  go (loop.Done y) k later = k

pub reads-stop : (env : ServeEnv) (w : Service) → IsServed w → HasStopped (front_reads env (record { service = w; target = None }))
reads-stop env w h = stops-on env (reading_left (record { service = w; target = None }) + 1) (record { service = w; target = None }) (h, refl)
