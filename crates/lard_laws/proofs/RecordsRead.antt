-- Each request that a node served, or has in hand, was read of a byte that came.
use Rattle.std.proofs.Common.{◌≡◌, ℕ, ◌+◌, ◌-◌, ◌≤◌, nat_lt, Bool, false, List, [], ◌∷◌, ◌++◌, length, sym, ap, subst, arith, length-drop}
use Rattle.std.proofs.lemmas.Bool.{cond_both}
use Rattle.std.proofs.lemmas.List.{length_push}
use Rattle.lard_law_view.specs.Prelude.{ControlBlock, Ending, Entry, IsControlBlock, NodeEnv, Place, Progress, Received, Said, ServeEnv, Service, Verdict, Via, Work, after_timer, answer, answered, batch_of, bytes_used, came_for, closed_behind, closes, come_on, discarding_on, finishing, goes_on, on_segment, queueing, read_entry, reads_batch, serving_consumed, serving_settled, speaks, spoken, state_of, tagged}
use Rattle.lard_base.specs.declared.place.Via.TheVariants as via
use Rattle.lard_endpoint.proofs.Windows.{emit-recv, timer-recv}
use Rattle.lard_laws.proofs.RecordsCounted.{come-length}
use Rattle.lard_reader.proofs.Used.{batch-used}
use Rattle.lard_rules.proofs.Endings.{StaysWith, answered-keeps, at-fin-keeps, settled-stays, spoken-stays}
use Rattle.lard_rules.proofs.FrontBlocks.{segment-serves}
use Rattle.lard_rules.proofs.Loops.{speaks_keep}
use Rattle.lard_rules.proofs.StayWalking.{KeptByReads, KeptByStarts, StepIn, goes-in, state-in, tagged-in, these-in}
use Rattle.lard_rules.specs.Stay.{serves_with}
use Rattle.lard_rules.specs.declared.stay.Progress.TheVariants.{Awaited, Reading, Ready}

-- so many bytes that came, at least, are not among the unread ones
abbrev pub HasRead : ℕ → Received → Type 0
HasRead n r = n + length r.unread ≤ r.got

-- ---- an endpoint

pub segment-read : (n : ℕ) (b : ControlBlock) (s : Said) → IsControlBlock b → HasRead n b.recv → HasRead n (on_segment b s).1.recv
segment-read n b s sound h = (segment-serves n b s (record { asked = h; most = sound.received.received; sent = sound.sending.queued })).asked

pub timer-read : (n : ℕ) (b : ControlBlock) → HasRead n b.recv → HasRead n (after_timer b).recv
timer-read n b h = subst (HasRead n) (sym (timer-recv b)) h

speaks-read : (n c : ℕ) (b : ControlBlock) → HasRead n b.recv → HasRead n (speaks c b).1.recv
speaks-read n c b = speaks_keep c (λ b ss d. HasRead n b.recv → HasRead n d.recv) (record {
  rests = λ b h. h;
  says = λ b r ss d e later h. later (subst (HasRead n) (sym (emit-recv b)) h);
}) b

-- where its turn ends, with so many requests that were not served
abbrev pub EndsRead : ℕ → Ending → Type 0
EndsRead more = StaysWith (λ b count. HasRead (count + more) b.recv)

module _ (env : ServeEnv) (more : ℕ) (w : Service) (h : HasRead (w.count + more) w.block.recv) where
  pub spoken-read : (before : List (Place × List ℕ)) → EndsRead more (spoken env w before).0
  spoken-read before = spoken-stays (λ b count. HasRead (count + more) b.recv) env w before (λ stays. speaks-read (w.count + more) env.c w.block h)

  pub settled-read : EndsRead more (serving_settled env w).0
  settled-read = settled-stays (λ b count. HasRead (count + more) b.recv) env w (λ none stays. speaks-read (w.count + more) env.c w.block h)

-- ---- what is in hand

abbrev pub IsRead : Work → Type 0
IsRead w = HasRead (w.service.count + length w.batch) w.service.block.recv

closed-read : (n : ℕ) (v : Verdict) (b : ControlBlock) → HasRead n b.recv → HasRead n (closed_behind v b).recv
closed-read n v b h = cond_both (closes v) (finishing (discarding_on b)) b (λ (d : ControlBlock). HasRead n d.recv) (λ t. omega (arith, h)) (λ t. h)

module _ (env : NodeEnv) where
  -- ---- a batch is read

  -- with those that are still to be entered
  abbrev Entering : List Verdict → Work → Type 0
  Entering vs w = HasRead (w.service.count + length w.batch + length vs) w.service.block.recv

  by_reads : (size : ℕ) → KeptByReads env size (λ here. Entering) IsRead
  by_reads size = record {
    hits = λ r path v vs w good is t h. let more = length_push w.batch (record { verdict = v; progress = Ready via.Cache }) in omega (arith, h, more);
    queues = λ r path v vs w good is f h. let more = length_push w.batch (record { verdict = v; progress = Reading }) in omega (arith, h, more);
    enters = λ here v vs w only h. let more = length_push w.batch (read_entry env.serve.files v) in omega (arith, h, more);
    plain = λ here w none h. omega (arith, h);
    asks = λ here path paths w named h. omega (arith, h);
  }

  batch-in : (here : Bool) (w : Work) → w.batch ≡ [] → IsRead w → StepIn IsRead IsRead (reads_batch env here w)
  batch-in here w none h =
      let unread : List ℕ = w.service.block.recv.unread in
      let used : ℕ = bytes_used 8 unread in
      let vs : List Verdict = batch_of 8 unread in
      let some = (batch-used 8 unread).0 in
      let within = (batch-used 8 unread).1 in
      let left = length-drop used unread in
      these-in env (λ here. Entering) IsRead IsRead here used w vs (by_reads (length vs)) none
      (λ e. at-fin-keeps (λ (s : Service). HasRead (s.count + length w.batch) s.block.recv) (serving_consumed used w.service)
      (λ t. omega (arith, h, left)) (λ t. omega (arith, h, left)))
      (λ v us e. omega (arith, h, some, within, left))

  pub batch-read : (here : Bool) (w : Work) → w.batch ≡ [] → IsRead w → IsRead (state_of (reads_batch env here w))
  batch-read here w none h = state-in IsRead (reads_batch env here w) (batch-in here w none h)

  -- ---- turn by turn

  -- one of them is served, or stays where its response would pass the stream limit
  served-read : (way : Via) (e : Entry) (rest : List Entry) (w : Work) → w.batch ≡ e ∷ rest → IsRead w
      → IsRead (serves_with (answered env.serve way e.verdict w.service) e rest w)
  served-read way e rest w first h =
      let as_many : length w.batch ≡ length (e ∷ rest) = ap (λ (es : List Entry). length es) first in
      answered-keeps (λ (s : Service). IsRead (serves_with s e rest w)) env.serve way e.verdict w.service (λ t. omega (arith, h, as_many))
      (λ t. closed-read ((w.service.count + 1) + length rest) e.verdict (queueing w.service.block (answer env.serve.files e.verdict))
      (omega (arith, h, as_many)))

  pub goes-read : (w : Work) → IsRead w → IsRead (goes_on env w)
  goes-read w h = goes-in env IsRead IsRead (record {
    reads = λ w none may h. batch-in false w none h;
    serves = λ way e rest w may first is h. served-read way e rest w first h;
    stops = λ w may h. h;
    holds = λ w leaves none may h. h;
  }) w h

  -- ---- what came

  -- with those of the batch that are left
  abbrev Starting : List Entry → Work → Type 0
  Starting es w = HasRead (w.service.count + length w.batch + length es) w.service.block.recv

  starts-on : (x e : Entry) (es : List Entry) (w : Work) → Starting (e ∷ es) w
      → HasRead (w.service.count + length (w.batch ++ x ∷ []) + length es) w.service.block.recv
  starts-on x e es w h = let more = length_push w.batch x in omega (arith, h, more)

  by_starts : (nodes : List ℕ) → KeptByStarts env nodes (λ at. Starting)
  by_starts nodes = record {
    stays = λ at r e es w is named h. starts-on e e es w h;
    short = λ at r path e es w is named none h. starts-on e e es w h;
    hits = λ at node r path e es w is named there t c h. starts-on (record { verdict = e.verdict; progress = Ready via.Cache }) e es w h;
    queues = λ at node r path e es w is named there t c h. starts-on (record { verdict = e.verdict; progress = Reading }) e es w h;
    wants = λ at node r path e es w is named there f h. starts-on (record { verdict = e.verdict; progress = Awaited node }) e es w h;
  }

  pub tagged-read : (nodes : List ℕ) (w : Work) → IsRead w → IsRead (tagged env nodes w)
  tagged-read nodes w h = let all = (tagged-in env nodes (λ at. Starting) (by_starts nodes) w (omega (arith, h))).1 in omega (arith, all)

  pub came-read : (f : Progress → Progress) (r : ℕ) (w : Work) → IsRead w → IsRead (came_for f r w)
  came-read f r w h =
      let i : ℕ = r - (w.service.count + 1) in
      let same = come-length f i w.batch in
      cond_both (nat_lt w.service.count r) (record w { batch = come_on f i w.batch }) w IsRead (λ t. omega (arith, h, same)) (λ t. h)
