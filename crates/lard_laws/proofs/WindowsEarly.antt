-- An endpoint that took its client's SYN alone goes on so while nothing but the SYN comes.
use Rattle.std.proofs.Common.{◌≡◌, ◌≤◌, ◌<◌, ◌+◌, ◌^◌, ◌==◌, ◌&&◌, ◌||◌, zero, suc, ℕ, Bool, true, false, cond, List, [], ◌∷◌, ◌++◌, length, take, drop, Option, Some, None, refl, sym, ap, ◌∙◌, subst, arith}
use Rattle.std.proofs.lemmas.Bool.{both_ways, cond_both, eqb-true}
use Rattle.lard_law_view.specs.Prelude.{ControlBlock, Done, Ending, Found, FrontDeed, FrontEnv, FrontPart, FrontRest, FrontRow, More, Place, Reading, Ready, Received, Said, Service, Step, after_emit, after_timer, arrived, awaited, begins_after, bytes_taken, cut_of, ends, filled, fresh_bytes, front_fired, front_reads, front_rest, head_end, holds, may_end, may_read, on_segment, one_if, rcv_nxt, reading_left, reading_turn, reads_found, rested, seg_len, seq_add, seq_offset, serving_consumed, serving_ready_of, skipped, speaks, spoken, stage_after, timed}
use Rattle.lard_block.specs.declared.block.Found.TheVariants as found
use Rattle.lard_law_connections.proofs.SilenceTurns.{AreTold, Told}
use Rattle.lard_laws.specs.WindowsEarly.{IsFresh, RowIsFresh, StageIsFresh}
use Rattle.lard_endpoint.proofs.Windows.{emit-recv, emitted-tells, timed-tells, timer-recv}
use Rattle.lard_rules.specs.Front.{Drops, Says, Does}
use Rattle.lard_handoff_front.specs.declared.row.FrontConn.TheVariants as stage
use Rattle.lard_history.proofs.Each.{Each-append}
use Rattle.lard_law_view.proofs.EndpointStreams.{segment-takes}
use Rattle.lard_rules.proofs.Loops.{speaks_keep}
use Rattle.lard_rules.proofs.Runs.{runs_keep}
use Rattle.lard_rules.proofs.Hearing.{emit-keeps, segment-keeps, timer-keeps}
use Rattle.lard_rules.proofs.Endings.{rested-keeps}
use Rattle.lard_rules.proofs.FrontCases.{fired_before, fired_service}

-- ---- what is taken

-- of the client's SYN alone
abbrev HalfIsFresh : ℕ → Received → Type 0
HalfIsFresh isn r = (r.irs ≡ isn) × (r.got ≡ 0) × (r.fin ≡ false) × (r.unread ≡ [])

awaits-next : (isn : ℕ) (r : Received) → HalfIsFresh isn r → awaited r ≡ seq_add isn 1
awaits-next isn r h =
    let none : one_if r.fin ≡ 0 = ap one_if h.2 in
    let one : 1 + r.got + one_if r.fin ≡ 1 = omega (arith, h.1, none) in
    ap (λ i. seq_add i (1 + r.got + one_if r.fin)) h.0 ∙ ap (λ n. seq_add isn n) one

few-drop : (data_ : List ℕ) → length data_ ≤ 1 → drop 1 data_ ≡ []
few-drop [] few = refl
few-drop (a ∷ []) few = refl
few-drop (a ∷ b ∷ more) few = absurd (omega (arith, few))

no-data : (data_ : List ℕ) → length data_ ≤ 0 → data_ ≡ []
no-data [] few = refl
no-data (a ∷ more) few = absurd (omega (arith, few))

abbrev nothing : List ℕ
nothing = []

take-nothing : (n : ℕ) → take n nothing ≡ []
take-nothing zero = refl
take-nothing (suc n) = refl

drop-nothing : (n : ℕ) → drop n nothing ≡ []
drop-nothing zero = refl
drop-nothing (suc n) = refl

take-none : (n : ℕ) (data_ : List ℕ) → data_ ≡ [] → take n data_ ≡ []
take-none n data_ e = ap (take n) e ∙ take-nothing n

-- a segment that ends with the SYN's number, or before
module _ (isn : ℕ) (small : isn < 2 ^ 32) (s : Said) (seq_small : s.seq < 2 ^ 32) (within : seq_offset s.seq isn + seg_len s ≤ 1) where
  len-few : length s.payload ≤ seg_len s
  len-few = omega arith

  module _ (r : Received) (h : HalfIsFresh isn r) where
    -- brings no byte
    none-fresh : fresh_bytes r s.seq s.payload ≡ []
    none-fresh = by-length (length s.payload) refl where
      by-length : (n : ℕ) → length s.payload ≡ n → fresh_bytes r s.seq s.payload ≡ []
      by-length zero e = take-none _ _ (ap (drop (seq_offset (awaited r) s.seq)) (no-data s.payload (omega (arith, e))) ∙ drop-nothing (seq_offset (awaited r) s.seq))
      by-length (suc n) e =
          let first : seq_offset s.seq isn ≡ 0 = let l = len-few in omega (arith, within, l, e) in
          let same : s.seq ≡ isn = omega (arith, first, small, seq_small) in
          let one : seq_offset (awaited r) s.seq ≡ 1 = ap (λ a. seq_offset a s.seq) (awaits-next isn r h) ∙ (let m = same in omega (arith, m, small)) in
          take-none _ _ (ap (λ n. drop n s.payload) one ∙ few-drop s.payload (let l = len-few in omega (arith, within, l)))

    -- and no FIN
    no-fin : ends r s.seq s.payload s.flags.fin ≡ false
    no-fin = go s.flags.fin refl where
      never : (a b : ℕ) → b < a → (a == b) ≡ false
      never a b less = by (a == b) refl where
        by : (t : Bool) → (a == b) ≡ t → (a == b) ≡ false
        by false e = e
        by true e = absurd (let z : a ≡ b = eqb-true a b e in omega (arith, z, less))

      go : (f : Bool) → s.flags.fin ≡ f → (f && (seq_offset (awaited r) s.seq + length (fresh_bytes r s.seq s.payload) == length s.payload)) ≡ false
      go false e = refl
      go true e =
          let fin : ◌≡◌ {A = ℕ} (cond {A = ℕ} s.flags.fin 1 0) 1 = ap (λ b. cond {A = ℕ} b 1 0) e in
          let first : seq_offset s.seq isn ≡ 0 = omega (arith, within, fin) in
          let same : s.seq ≡ isn = omega (arith, first, small, seq_small) in
          let one : seq_offset (awaited r) s.seq ≡ 1 = ap (λ a. seq_offset a s.seq) (awaits-next isn r h) ∙ (let m = same in omega (arith, m, small)) in
          let none : length s.payload ≡ 0 = omega (arith, within, fin) in
          never (seq_offset (awaited r) s.seq + length (fresh_bytes r s.seq s.payload)) (length s.payload) (omega (arith, one, none))

    arrived-fresh : HalfIsFresh isn (arrived r s.seq s.payload s.flags.fin)
    arrived-fresh = cond_both (begins_after s.seq (awaited r)) r (cond r.fin r more) (HalfIsFresh isn) (λ t. h) (λ t. cond_both r.fin r more (HalfIsFresh isn) (λ u. h) (λ u. so)) where
      more : Received
      more = bytes_taken r (fresh_bytes r s.seq s.payload) (ends r s.seq s.payload s.flags.fin)

      so : HalfIsFresh isn (bytes_taken r (fresh_bytes r s.seq s.payload) (ends r s.seq s.payload s.flags.fin))
      so = (
        h.0,
        (let n = ap length none-fresh in omega (arith, n, h.1)),
        no-fin,
        cond_both r.discarding r.unread (r.unread ++ fresh_bytes r s.seq s.payload) (λ l. l ≡ []) (λ t. h.3) (λ t. ap (λ l. l ++ fresh_bytes r s.seq s.payload) h.3 ∙ none-fresh),
      )

  -- ---- the endpoint

  module _ (plain : s.flags.rst ≡ false) where
    segment-unreset : (b : ControlBlock) → b.reset ≡ false → (on_segment b s).1.reset ≡ false
    segment-unreset b h = segment-keeps b s (λ d. d.reset ≡ false) (record {
      rests = λ owed. h;
      resets = λ t. absurd (both_ways s.flags.rst plain t);
      acks = λ owed c. h;
      comes = λ c some. h;
    })

    pub segment-fresh : (b : ControlBlock) → IsFresh isn b → IsFresh isn (on_segment b s).1
    segment-fresh b h =
        let half : HalfIsFresh isn b.recv = (h.irs_is, h.got, h.fin, h.unread) in
        let r : HalfIsFresh isn (on_segment b s).1.recv = segment-takes (HalfIsFresh isn) s b half (arrived-fresh b.recv half) in
        record { irs_is = r.0; got = r.1; fin = r.2; unread = r.3; reset = segment-unreset b h.reset }

-- ---- what it says

-- the number that it acknowledges
abbrev pub AcksFirst : ℕ → Said → Type 0
AcksFirst isn s = s.flags.ack ≡ true → s.ack ≡ seq_add isn 1

module _ (isn : ℕ) where
  next-number : (b : ControlBlock) → IsFresh isn b → rcv_nxt b ≡ seq_add isn 1
  next-number b h = awaits-next isn b.recv (h.irs_is, h.got, h.fin, h.unread)

  of-recv : (b d : ControlBlock) → d.recv ≡ b.recv → d.reset ≡ b.reset → IsFresh isn b → IsFresh isn d
  of-recv b d recv reset h = record {
    irs_is = ap (λ (r : Received). r.irs) recv ∙ h.irs_is;
    got = ap (λ (r : Received). r.got) recv ∙ h.got;
    fin = ap (λ (r : Received). r.fin) recv ∙ h.fin;
    unread = ap (λ (r : Received). r.unread) recv ∙ h.unread;
    reset = reset ∙ h.reset;
  }

  emit-reset : (b : ControlBlock) → (after_emit b).reset ≡ b.reset
  emit-reset b = emit-keeps (λ d. d.reset ≡ b.reset) b refl refl refl

  timer-reset : (b : ControlBlock) → (after_timer b).reset ≡ b.reset
  timer-reset b = timer-keeps (λ d. d.reset ≡ b.reset) b refl refl refl

  emit-fresh : (b : ControlBlock) → IsFresh isn b → IsFresh isn (after_emit b)
  emit-fresh b h = of-recv b (after_emit b) (emit-recv b) (emit-reset b) h

  timer-fresh : (b : ControlBlock) → IsFresh isn b → IsFresh isn (after_timer b)
  timer-fresh b h = of-recv b (after_timer b) (timer-recv b) (timer-reset b) h

  -- in a turn
  speaks-fresh : (c : ℕ) (b : ControlBlock) → IsFresh isn b → IsFresh isn (speaks c b).1 × AreTold c (AcksFirst isn) (speaks c b).0
  speaks-fresh c b = speaks_keep c (λ (b : ControlBlock) ss d. IsFresh isn b → IsFresh isn d × AreTold c (AcksFirst isn) ss) (record {
    rests = λ b h. (h, tt);
    says = λ b r ss d e later h.
        let l = later (emit-fresh b h) in
        (l.0, ((refl, (filled (after_emit b) r, refl, λ a. (emitted-tells b r e).ack ∙ next-number b h)), l.1));
  }) b

  may-not : (b : ControlBlock) → IsFresh isn b → may_end b ≡ false
  may-not b h = go b.reset b.recv.fin (b.send.finished && _) h.reset h.fin where
    go : (t f a : Bool) → t ≡ false → f ≡ false → (t || (a && f)) ≡ false
    go true f a e g = absurd (let bad : true ≡ false = e in cc)
    go false true a e g = absurd (let bad : true ≡ false = g in cc)
    go false false true e g = refl
    go false false false e g = refl

  -- ---- the front end's deeds

  abbrev pub DeedIsEarly : ℕ → FrontDeed → Type 0
  DeedIsEarly c Drops = Unit {0}
  DeedIsEarly c (Says turn) = ⊥
  DeedIsEarly c (Does did) = RowIsFresh isn did.part.row × AreTold c (AcksFirst isn) did.turn.segments × (did.turn.messages ≡ [])

  module _ (env : FrontEnv) (p : FrontPart) where
    abbrev c : ℕ
    c = env.serve.c

    stays : (b : ControlBlock) (count : ℕ) → IsFresh isn b → StageIsFresh isn (stage_after stage.Held (rested b count))
    stays b count h = rested-keeps (λ (e : Ending). StageIsFresh isn (stage_after stage.Held e)) b count (λ t. absurd (both_ways (may_end b) (may-not b h) t)) (λ t. h)

    pub holds-early : (row : FrontRow) (rest : FrontRest) (w : Service) (before : List (Place × List ℕ)) → IsFresh isn w.block → AreTold c (AcksFirst isn) before → DeedIsEarly c (holds p row rest (spoken env.serve w before))
    holds-early row rest w before h sent =
        let l = speaks-fresh c w.block h in
        (stays (speaks c w.block).1 w.count l.0, Each-append (Told c (AcksFirst isn)) before (speaks c w.block).0 sent l.1, refl)

    -- it has nothing to read
    abbrev pub ReadsNothing : Reading → Type 0
    ReadsNothing x = IsFresh isn x.service.block × (x.service.over ≡ None) × (x.target ≡ None)

    abbrev StepReads : Step Reading → Type 0
    StepReads (More x) = ReadsNothing x
    StepReads (Done x) = ReadsNothing x

    cut-none : cut_of [] ≡ found.More 0
    unfolding cut_of skipped head_end
    cut-none = refl

    turn-reads : (x : Reading) → ReadsNothing x → StepReads (reading_turn env.serve x)
    turn-reads x h = cond_both (may_read x.service) (reads_found env.serve x (cut_of x.service.block.recv.unread)) (Done x) StepReads
        (λ may. subst (λ (f : Found). StepReads (reads_found env.serve x f)) (sym (ap cut_of h.0.unread ∙ cut-none))
        (cond_both x.service.block.recv.fin _ (serving_consumed 0 x.service) (λ (w : Service). IsFresh isn w.block × (w.over ≡ None) × (x.target ≡ None)) (λ t. absurd (both_ways x.service.block.recv.fin h.0.fin t))
        (λ t. (record { irs_is = h.0.irs_is; got = h.0.got; fin = h.0.fin; unread = h.0.unread; reset = h.0.reset }, h.1, h.2))))
        (λ t. h)

    pub reads-nothing : (x : Reading) → ReadsNothing x → ReadsNothing (front_reads env.serve x)
    reads-nothing x h = runs_keep (reading_turn env.serve) reading_left ReadsNothing (record {
      more = λ y z e q. subst StepReads e (turn-reads y q);
      done = λ y z e q. subst StepReads e (turn-reads y q);
    }) x h

    pub fired-early : (row : FrontRow) (b : ControlBlock) → IsFresh isn b → DeedIsEarly c (holds p row (front_rest p.rest) (front_fired env (front_rest p.rest) b))
    fired-early row b h = holds-early row (front_rest p.rest) (fired_service p b) (fired_before env b) (timer-fresh b h) (go (timed b) refl) where
      go : (o : Option Ready) → timed b ≡ o → AreTold c (AcksFirst isn) (serving_ready_of env.serve (after_timer b) o)
      go None e = tt
      go (Some r) e = ((refl, (filled (after_timer b) r, refl, λ a. (timed-tells b r e).ack ∙ next-number b h)), tt)
