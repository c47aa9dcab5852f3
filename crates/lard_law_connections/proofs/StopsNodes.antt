-- A node reads and serves until the first request is not ready, or no request is left.
use Rattle.std.proofs.Common.{◌≡◌, ◌⊎◌, ◌&&◌, ◌-◌, ◌+◌, nat_lt, ℕ, Bool, true, false, cond, List, [], ◌∷◌, ◌++◌, length, take, drop, Option, Some, None, inl, inr, ⊎_elim, refl, sym, ap, ◌∙◌, subst, append-nil}
use Rattle.std.proofs.lemmas.Bool.{both_ways, cond_both}
use Rattle.lard_law_view.specs.Prelude.{BackRow, Conn, ControlBlock, Ending, EndpointParts, Entry, FilesAt, Found, HasStopped, NodeDeed, NodeEnv, NodeGets, NodePart, Place, Progress, Received, Said, Seen, Service, Stay, Verdict, Via, Work, after_timer, answered, awaited, batch_of, begins_after, blocks, bytes_taken, bytes_used, came_for, closes, come_on, come_progress, cut_of, ended_at_fin, ends, fresh_bytes, goes_on, gone, grown, is_to_read, kept_after, may_freeze, may_give_back, may_read, next_in, next_of, node_begins, node_does, node_fired, node_rule, on_segment, read_progress, reads_batch, serves_with, serving, serving_consumed, serving_ready_of, serving_settled, speaks, spoken, state_of, tagged, taken_sent, timed, verdict, with_work, without, work_of}
use Rattle.lard_base.specs.declared.place.TimerKind.TheVariants as timer
use Rattle.lard_base.specs.declared.place.Via.TheVariants as via
use Rattle.lard_block.specs.declared.block.Found.TheVariants as found
use Rattle.lard_law_connections.specs.Stops.{FirstIsAwaited, NodeRests, ReadingStopsBy, ReadsNone, RowRests, StayStopsBy}
use Rattle.lard_law_connections.proofs.StopsSame.{Same, Stays, answered-closes, closed-there, ended-stopped, none-behind, same-freeze, same-stopped, segment-closes, speaks-same, spoken-calm, timer-same}
use Rattle.lard_law_view.proofs.Parts.{put-each}
use Rattle.lard_law_view.proofs.EndpointStreams.{segment-takes}
use Rattle.lard_law_view.proofs.Stopping.{stopped-arrived, stopped-discarding, unfinished-there}
use Rattle.lard_rules.specs.declared.stay.Next.TheVariants as next
use Rattle.lard_rules.specs.declared.stay.Progress.TheVariants as progress
use Rattle.lard_rules.proofs.NodeCases.{IsHereWith, IsOfItsEpoch, KeptByNode, Turned, node-keeps, of-here}
use Rattle.lard_rules.specs.Node.{Drops, Says, Does}
use Rattle.lard_reader.proofs.Going.{batch-closed, batch-long, batch-open, used-suc}
use Rattle.lard_request.specs.declared.verdict.Code.TheVariants.{FieldsTooLarge}
use Rattle.lard_request.specs.declared.verdict.Verdict.TheVariants.{Fault}
use Rattle.lard_rules.specs.declared.places.Ending.TheVariants as ending
use Rattle.lard_rules.proofs.StayWalking.{KeptByStarts, KeptByReads, StepIn, goes-in, state-in, tagged-in, these-in}
use Rattle.lard_rules.proofs.Endings.{settled-keeps}

-- ---- an empty batch

-- where nothing is read no whole block is left
none-read : (q : List ℕ) → batch_of 8 q ≡ [] → blocks (drop (bytes_used 8 q) q) ≡ []
none-read q none = go (cut_of q) refl where
  some : (v : Verdict) (vs us : List Verdict) → us ≡ v ∷ vs → us ≡ [] → ⊥
  some v vs us e f = let no : v ∷ vs ≡ [] = sym e ∙ f in cc

  by_close : (s l : ℕ) → cut_of q ≡ found.Block s l → (t : Bool) → closes (verdict (take l (drop s q))) ≡ t → ⊥
  by_close s l e true c = some (verdict (take l (drop s q))) [] (batch_of 8 q) (batch-closed 7 q s l e c) none
  by_close s l e false c = some (verdict (take l (drop s q))) (batch_of 7 (drop (s + l) q)) (batch_of 8 q) (batch-open 7 q s l e c) none

  go : (f : Found) → cut_of q ≡ f → blocks (drop (bytes_used 8 q) q) ≡ []
  go (found.More s) e = ap (λ k. blocks (drop k q)) (used-suc 7 q (found.More s) e) ∙ none-behind q s e
  go (found.Block s l) e = absurd (by_close s l e (closes (verdict (take l (drop s q)))) refl)
  go (found.TooLong s) e = absurd (some (Fault FieldsTooLarge) [] (batch_of 8 q) (batch-long 7 q s e) none)

awaited-batch : (es : List Entry) → next_in es ≡ next.Stop → FirstIsAwaited es
awaited-batch [] h = let no : next.Read ≡ next.Stop = h in absurd cc
awaited-batch (e ∷ es) h = h

-- a segment leaves it discarding what comes, or not
pub segment-keeps : (b : ControlBlock) (s : Said) → (on_segment b s).1.recv.discarding ≡ false → b.recv.discarding ≡ false
segment-keeps b s e = sym same ∙ e where
  r : Received
  r = b.recv

  grown_by : Received
  grown_by = bytes_taken r (fresh_bytes r s.seq s.payload) (ends r s.seq s.payload s.flags.fin)

  same : (on_segment b s).1.recv.discarding ≡ b.recv.discarding
  same = segment-takes (λ z. z.discarding ≡ r.discarding) s b refl
      (cond_both (begins_after s.seq (awaited r)) r (cond r.fin r grown_by) (λ z. z.discarding ≡ r.discarding) (λ _. refl) (λ _. cond_both r.fin r grown_by (λ z. z.discarding ≡ r.discarding) (λ _. refl) (λ _. refl)))

-- ---- an endpoint and a batch

-- behind its FIN it has stopped, and there is no batch unless what comes is discarded
abbrev pub Closes : ControlBlock → List Entry → Type 0
Closes b batch = b.send.finished ≡ true → HasStopped b × (b.recv.discarding ≡ false → batch ≡ [])

-- and while it goes on, the first is awaited, or nothing is left for a node that leaves, or stays
abbrev pub IsAt : Bool → ControlBlock → List Entry → Type 0
IsAt leaving b batch = (b.send.finished ≡ false → FirstIsAwaited batch ⊎ (ReadsNone leaving b × (batch ≡ []))) × Closes b batch

open-closes : (b : ControlBlock) (batch : List Entry) → b.send.finished ≡ false → Closes b batch
open-closes b batch open_ closed = absurd (both_ways b.send.finished open_ closed)

same-none : (leaving : Bool) (b d : ControlBlock) → Same b d → ReadsNone leaving b → ReadsNone leaving d
same-none false b d same h = same-stopped b d same h
same-none true b d same h = same-freeze b d same ∙ h

pub same-at : (leaving : Bool) (b d : ControlBlock) (batch : List Entry) → Same b d → IsAt leaving b batch → IsAt leaving d batch
same-at leaving b d batch same h = (
  (λ open_. ⊎_elim (λ (a : FirstIsAwaited batch). inl a) (λ (t : ReadsNone leaving b × (batch ≡ [])). inr (same-none leaving b d same t.0, t.1)) (h.0 (sym same.3 ∙ open_))),
  (λ closed. let t = h.1 (sym same.3 ∙ closed) in (same-stopped b d same t.0, λ e. t.1 (sym (ap (λ r. r.discarding) same.0) ∙ e))),
)

module _ (env : NodeEnv) where
  -- ---- turn by turn

  abbrev pub MayRest : Work → Type 0
  MayRest k = Closes k.service.block k.batch

  -- a node that leaves may hold it where nothing is left of the batch
  abbrev MayHold : ControlBlock → Type 0
  MayHold b = HasStopped b ⊎ (env.leaving ≡ true)

  abbrev pub Rests : Work → Type 0
  Rests k = k.service.over ≡ None → k.service.block.reset ≡ false
      → (k.service.block.send.finished ≡ false → FirstIsAwaited k.batch ⊎ (MayHold k.service.block × (k.batch ≡ []))) × Closes k.service.block k.batch

  -- what is entered leaves the endpoint as it was
  abbrev IsOpen : Work → Type 0
  IsOpen k = k.service.block.send.finished ≡ false

  by_reads : (size : ℕ) → KeptByReads env size (λ here vs. IsOpen) MayRest
  by_reads size = record {
    hits = λ r path v vs k good is t h. h;
    queues = λ r path v vs k good is f h. h;
    enters = λ here v vs k only h. h;
    plain = λ here k none h. open-closes k.service.block k.batch h;
    asks = λ here path paths k e h. open-closes k.service.block k.batch h;
  }

  -- a batch is read
  module _ (here : Bool) (k : Work) (open_ : IsOpen k) (none : k.batch ≡ []) where
    abbrev used : ℕ
    used = bytes_used 8 k.service.block.recv.unread

    fin-stops : batch_of 8 k.service.block.recv.unread ≡ [] → HasStopped (ended_at_fin (serving_consumed used k.service)).block
    fin-stops e = ended-stopped (serving_consumed used k.service) open_ (none-read k.service.block.recv.unread e)

    batch-in : (D : Work → Type 0) → (batch_of 8 k.service.block.recv.unread ≡ [] → D (record k { service = ended_at_fin (serving_consumed used k.service) })) → StepIn MayRest D (reads_batch env here k)
    batch-in D end = these-in env (λ here vs. IsOpen) MayRest D here used k (batch_of 8 k.service.block.recv.unread) (by_reads (length (batch_of 8 k.service.block.recv.unread))) none end (λ v us e. open_)

    pub batch-at : StepIn MayRest Rests (reads_batch env here k) × MayRest (state_of (reads_batch env here k))
    batch-at = (
      batch-in Rests (λ e over calm. ((λ o. inr (inl (fin-stops e), none)), (λ closed. (fin-stops e, λ d. none)))),
      state-in MayRest (reads_batch env here k) (batch-in MayRest (λ e closed. (fin-stops e, λ d. none))),
    )

  -- the first is served
  serves-at : (way : Via) (e : Entry) (rest : List Entry) (k : Work) → may_read k.service ≡ true → MayRest (serves_with (answered env.serve way e.verdict k.service) e rest k)
  serves-at way e rest k may closed =
      let d = answered-closes env.serve way e.verdict k.service (unfinished-there k.service may) closed in
      (stopped-discarding (answered env.serve way e.verdict k.service).block d, λ keeps. absurd (both_ways (answered env.serve way e.verdict k.service).block.recv.discarding keeps d))

  stops-at : (k : Work) → (may_read k.service ≡ true → next_in k.batch ≡ next.Stop) → MayRest k → Rests k
  stops-at k stop h over calm = (λ open_. go open_ (may_read k.service) refl, h) where
    go : k.service.block.send.finished ≡ false → (b : Bool) → may_read k.service ≡ b → FirstIsAwaited k.batch ⊎ (MayHold k.service.block × (k.batch ≡ []))
    go open_ true may = inl (awaited-batch k.batch (stop may))
    go open_ false may = absurd (both_ways k.service.block.send.finished open_ (closed-there k.service over calm may))

  pub goes-rest : (k : Work) → MayRest k → Rests (goes_on env k)
  goes-rest k h = goes-in env MayRest Rests (record {
    reads = λ w none may g. (batch-at false w (unfinished-there w.service may) none).0;
    serves = λ way e rest w may first is g. serves-at way e rest w may;
    stops = λ w may g. stops-at w may g;
    holds = λ w leaves none may g over calm. ((λ open_. inr (inr leaves, none)), g);
  }) k h

  -- ---- a Tag comes: those that are left stand behind those that started

  abbrev Left : ℕ → List Entry → Work → Type 0
  Left at es k = Closes k.service.block (k.batch ++ es)

  never-none : (xs ys : List Entry) (e : Entry) → xs ++ e ∷ ys ≡ [] → ⊥
  never-none [] ys e h = cc
  never-none (x ∷ xs) ys e h = cc

  left-on : (e x : Entry) (es : List Entry) (k : Work) → Left 0 (e ∷ es) k → Closes k.service.block ((k.batch ++ x ∷ []) ++ es)
  left-on e x es k h closed = let t = h closed in (t.0, λ keeps. absurd (never-none k.batch es e (t.1 keeps)))

  by_starts : (nodes : List ℕ) → KeptByStarts env nodes Left
  by_starts nodes = record {
    stays = λ at r e es k is named h. left-on e e es k h;
    short = λ at r path e es k is named none h. left-on e e es k h;
    hits = λ at node r path e es k is named there t c h. left-on e (record { verdict = e.verdict; progress = progress.Ready via.Cache }) es k h;
    queues = λ at node r path e es k is named there t c h. left-on e (record { verdict = e.verdict; progress = progress.Reading }) es k h;
    wants = λ at node r path e es k is named there f h. left-on e (record { verdict = e.verdict; progress = progress.Awaited node }) es k h;
  }

  -- ---- the end of a turn

  -- where a batch would be read and the connection does not go back, it may not
  holds-back : (k : Work) → env.leaving ≡ true → k.service.over ≡ None → k.service.block.reset ≡ false → k.service.block.send.finished ≡ false → k.batch ≡ [] → may_give_back env k ≡ false
      → may_freeze k.service.block ≡ false
  holds-back k leaves over calm open_ none rests = go (may_read k.service) refl where
    b : ControlBlock
    b = k.service.block

    go : (t : Bool) → may_read k.service ≡ t → may_freeze k.service.block ≡ false
    go true may = sym (
        ap (λ (l : Bool). l && (is_to_read (next_of k) && may_freeze b)) leaves
        ∙ ap (λ (t : Bool). is_to_read (cond t (next_in k.batch) next.Stop) && may_freeze b) may
        ∙ ap (λ (es : List Entry). is_to_read (next_in es) && may_freeze b) none
        ) ∙ rests
    go false may = absurd (both_ways b.send.finished open_ (closed-there k.service over calm may))

  none-left : (k : Work) (leaving : Bool) → env.leaving ≡ leaving → (leaving ≡ true → may_freeze k.service.block ≡ false) → MayHold k.service.block → ReadsNone leaving k.service.block
  none-left k true is held may = held refl
  none-left k false is held may = ⊎_elim (λ (t : HasStopped k.service.block). t) (λ (leaves : env.leaving ≡ true). absurd (both_ways env.leaving is leaves)) may

  rests-at : (k : Work) → Rests k → may_give_back env k ≡ false → k.service.over ≡ None → k.service.block.reset ≡ false → IsAt env.leaving k.service.block k.batch
  rests-at k h rests over calm =
      let at = h over calm in (
        (λ open_. ⊎_elim (λ (a : FirstIsAwaited k.batch). inl a)
            (λ (t : MayHold k.service.block × (k.batch ≡ [])). inr (none-left k env.leaving refl (λ leaves. holds-back k leaves over calm open_ t.1 rests) t.0, t.1))
            (at.0 open_)),
        at.1,
      )

  after-stops : (p : NodePart) (k : Work) (e : Ending) → Stays (λ b. StayStopsBy env.leaving b k.batch) e → NodeRests env.leaving (kept_after env p k e)
  after-stops p k (ending.Here b count) h = h
  after-stops p k (ending.Over last) h = tt

  spoken-at : (s : Service) (before : List (Place × List ℕ)) (batch : List Entry) → (s.block.reset ≡ false → IsAt env.leaving s.block batch) → Stays (λ b. StayStopsBy env.leaving b batch) (spoken env.serve s before).0
  spoken-at s before batch h =
      let b : ControlBlock = (speaks env.serve.c s.block).1 in
      let same : Same s.block b = speaks-same env.serve.c s.block in
      spoken-calm (λ d. StayStopsBy env.leaving d batch) env.serve s before (λ calm. let at : IsAt env.leaving b batch = same-at env.leaving s.block b batch same (h (sym same.4 ∙ calm)) in record { not_reset = calm; open_ = at.0; closed = at.1 })

  settled-at : (k : Work) → Rests k → may_give_back env k ≡ false → Stays (λ b. StayStopsBy env.leaving b k.batch) (serving_settled env.serve k.service).0
  settled-at k h rests = settled-keeps (λ given. Stays (λ b. StayStopsBy env.leaving b k.batch) given.0) env.serve k.service (λ e. spoken-at k.service [] k.batch (rests-at k h rests e)) (λ total e. tt)

  -- ---- the rules

  abbrev pub DeedStops : NodeDeed → Type 0
  DeedStops Drops = Unit {0}
  DeedStops (Says ms) = Unit {0}
  DeedStops (Does given) = NodeRests env.leaving given.0

  goes-stop : (p : NodePart) (before : List (Place × List ℕ)) (k : Work) → MayRest k → may_give_back env (goes_on env k) ≡ false → DeedStops (with_work env p before (goes_on env k))
  goes-stop p before k h rests = after-stops p (goes_on env k) (serving_settled env.serve (goes_on env k).service).0 (settled-at (goes_on env k) (goes-rest k h) rests)

  turns-stop : (p : NodePart) (before : List (Place × List ℕ)) (k : Work) → MayRest k → Turned DeedStops env p before (goes_on env k)
  turns-stop p before k h = (λ rests. goes-stop p before k h rests, λ back. tt)

  -- what comes for it, and a Tag, leave it stopped behind its FIN
  pub came-closes : (f : Progress → Progress) (r : ℕ) (b : ControlBlock) (s : Stay) → Closes b s.batch → MayRest (came_for f r (work_of b s))
  came-closes f r b s closes =
      let k : Work = work_of b s in
      cond_both (nat_lt k.service.count r) (record k { batch = come_on f (r - (k.service.count + 1)) k.batch }) k MayRest
      (λ t closed. let c = closes closed in (c.0, λ keeps. ap (come_on f (r - (k.service.count + 1))) (c.1 keeps))) (λ t. closes)

  pub tagged-closes : (nodes : List ℕ) (b : ControlBlock) (s : Stay) → Closes b s.batch → MayRest (tagged env nodes (work_of b s))
  tagged-closes nodes b s closes =
      let all = tagged-in env nodes Left (by_starts nodes) (work_of b s) closes in
      subst (Closes (tagged env nodes (work_of b s)).service.block) (append-nil (tagged env nodes (work_of b s)).batch) all.1

  module _ (p : NodePart) (h : NodeRests env.leaving p) where
    stays : (b : ControlBlock) (s : Stay) → IsHereWith env.epoch p b s → StayStopsBy env.leaving b s.batch
    stays b s at = of-here (RowRests env.leaving) env.epoch p b s at h

    segment-may : (said : Said) (b : ControlBlock) (s : Stay) → StayStopsBy env.leaving b s.batch → MayRest (work_of (on_segment b said).1 s)
    segment-may said b s stops closed =
        let same = segment-closes b said in
        let t = stops.closed (sym same ∙ closed) in
        (stopped-arrived b said same t.0 closed, λ keeps. t.1 (segment-keeps b said keeps))

    timer-stops : (b : ControlBlock) (s : Stay) → StayStopsBy env.leaving b s.batch
        → DeedStops (Does (node_fired env p (b, s) (spoken env.serve (serving (after_timer b) s.served []) (serving_ready_of env.serve (after_timer b) (timed b)))))
    timer-stops b s stops =
        let w : Service = serving (after_timer b) s.served [] in
        let before : List (Place × List ℕ) = serving_ready_of env.serve (after_timer b) (timed b) in
        after-stops p (work_of (after_timer b) s) (spoken env.serve w before).0
        (spoken-at w before s.batch (λ calm. same-at env.leaving b (after_timer b) s.batch (timer-same b) (stops.open_, stops.closed)))

    gone-stops : (q : Option BackRow) → RowRests env.leaving (gone q) p.stay
    gone-stops None = tt
    gone-stops (Some row) = tt

    begins-stop : (parts : EndpointParts) → env.leaving ≡ false → DeedStops (with_work env p (taken_sent env) (goes_on env (state_of (reads_batch env true (node_begins env parts)))))
    begins-stop parts stays =
        let first : Work = state_of (reads_batch env true (node_begins env parts)) in
        goes-stop p (taken_sent env) first (batch-at true (node_begins env parts) refl refl).1 (ap (λ (l : Bool). l && (is_to_read (next_of (goes_on env first)) && may_freeze (goes_on env first).service.block)) stays)

    rules_stop : KeptByNode env p (λ g. Unit {0}) DeedStops
    rules_stop = record {
      drops = tt;
      hears = λ said b s m at. turns-stop p [] (work_of (on_segment b said).1 s) (segment-may said b s (stays b s at));
      tags = λ number nodes b s m at asked same count. turns-stop (record p { kept = without timer.Ask 0 p.kept }) [] (tagged env nodes (work_of b s)) (tagged-closes nodes b s (stays b s at).closed);
      comes = λ from r b s m at wanted. turns-stop (record p { fetches = without timer.Fetch r p.fetches }) [] (came_for (come_progress from) r (work_of b s)) (came-closes (come_progress from) r b s (stays b s at).closed);
      reads = λ r path b s m at. turns-stop p [] (came_for read_progress r (work_of b s)) (came-closes read_progress r b s (stays b s at).closed);
      begins = λ parts m new may. begins-stop parts may.0;
      takes_again = λ parts m again. tt;
      refuses = λ parts m is. h;
      fires = λ b s m at. timer-stops b s (stays b s at);
      resends = λ m none. tt;
      ends = λ back m told was. gone-stops p.row;
      leaves = λ b s m at back. tt;
    }

    pub rule-stops : (g : NodeGets) → IsOfItsEpoch env p g → DeedStops (node_rule env p g)
    rule-stops g at = node-keeps env p (λ g. Unit {0}) DeedStops rules_stop g at tt

-- ---- its move

-- where these nodes leave
pub node-move : (leaving : ℕ → Bool) (n : ℕ) (env : NodeEnv) → env.leaving ≡ leaving n → (x : Conn) (heads : List Seen) (d : NodeDeed) → (NodeRests env.leaving (x.part.nodes n) → DeedStops env d)
    → (files : FilesAt) → ReadingStopsBy leaving files x → ReadingStopsBy leaving files (grown x (node_does x n heads d))
node-move leaving n env is x heads Drops k files h = h
node-move leaving n env is x heads (Says ms) k files h = h
node-move leaving n env is x heads (Does given) k files h = (
  h.0,
  put-each x.part.nodes n given.0 (λ m p. NodeRests (leaving m) p)
      (subst (λ (l : Bool). NodeRests l given.0) is (k (subst (λ (l : Bool). NodeRests l (x.part.nodes n)) (sym is) (h.1 n)))) (λ m other. h.1 m),
)
