-- What the client of a connection is told in a turn of its node: the last segment acknowledges all that came.
use Rattle.std.proofs.Common.{◌≡◌, ◌⊎◌, ◌≤◌, ℕ, Bool, true, false, List, [], ◌∷◌, ◌++◌, Option, Some, inl, inr, ⊎_elim, refl, sym, ap, ◌∙◌, arith}
use Rattle.std.proofs.lemmas.Bool.{cond_both}
use Rattle.std.proofs.lemmas.List.{length-drop}
use Rattle.lard_law_view.specs.Prelude.{ControlBlock, Ending, NodeEnv, Place, Said, ServeEnv, Service, Stream, ToClient, Verdict, Via, Work, after_timer, answer, answered, awaited, closed_behind, closes, consuming, cut_off, decoded, discarding_on, emits_left, ended_at_fin, final_of, finishing, goes_on, limit_said, on_segment, queueing, rcv_nxt, rcv_wnd, reads_batch, receive_room, serving, serving_ready_of, serving_settled, serving_told, speaks, speaks_symbols, spoken, state_of, timed}
use Rattle.lard_base.specs.declared.place.Reason.TheVariants.{Limit}
use Rattle.lard_law_connections.specs.Line.{said_of}
use Rattle.lard_law_connections.proofs.LineHearing.{Hears, is_reset, segment-hears}
use Rattle.lard_law_connections.proofs.LineHolding.{EndsHeld, IsReady, held-ends, ready-quiet, settled-ends}
use Rattle.lard_law_connections.proofs.LineSpeaking.{HasSpoken, IsSound, IsTold, heard_by, speaks-spoken, timer-spoken, told-on}
use Rattle.lard_law_view.proofs.EndpointStreams.{IsBetween, between-sound}
use Rattle.lard_law_view.proofs.EndpointSpeaking.{Spoke, emits-spoke, emits_symbols-spoke}
use Rattle.lard_rules.specs.declared.places.Ending.TheVariants as ending
use Rattle.lard_segment.proofs.Again.{again}
use Rattle.lard_rules.proofs.StayKeeping.{KeptByStay, batch-keeps, goes-keep}
use Rattle.lard_rules.proofs.Endings.{answered-keeps, at-fin-keeps, rested-keeps, settled-keeps}

-- ---- what answering leaves of an endpoint

-- It awaits the same, has no less room, and owes what it owed.
pub record IsWider (b d : ControlBlock) : Type 0 where
  pub next : rcv_nxt d ≡ rcv_nxt b
  pub wide : rcv_wnd b ≤ rcv_wnd d
  pub last : d.last_window ≡ b.last_window
  pub owed : d.owed ≡ b.owed
  pub reset : d.reset ≡ b.reset

wider-same : (b : ControlBlock) → IsWider b b
wider-same b = record { next = refl; wide = omega arith; last = refl; owed = refl; reset = refl }

wider-then : (b c d : ControlBlock) → IsWider b c → IsWider c d → IsWider b d
wider-then b c d g h = let x = g.wide in let y = h.wide in record { next = h.next ∙ g.next; wide = omega (arith, x, y); last = h.last ∙ g.last; owed = h.owed ∙ g.owed; reset = h.reset ∙ g.reset }

consuming-wider : (b : ControlBlock) (n : ℕ) → IsWider b (consuming b n)
consuming-wider b n = let size = length-drop n b.recv.unread in record { next = refl; wide = omega arith; last = refl; owed = refl; reset = refl }

discarding-wider : (b : ControlBlock) → IsWider b (discarding_on b)
discarding-wider b = record { next = refl; wide = omega arith; last = refl; owed = refl; reset = refl }

-- the sending half is no part of it
sending-wider : (b d : ControlBlock) → d.recv ≡ b.recv → d.last_window ≡ b.last_window → d.owed ≡ b.owed → d.reset ≡ b.reset → IsWider b d
sending-wider b d e l o r = record { next = ap awaited e; wide = let same : rcv_wnd d ≡ rcv_wnd b = ap receive_room e in omega (arith, same); last = l; owed = o; reset = r }

closed-wider : (v : Verdict) (b : ControlBlock) → IsWider b (closed_behind v b)
closed-wider v b = cond_both (closes v) (finishing (discarding_on b)) b (IsWider b)
    (λ t. wider-then b (discarding_on b) (finishing (discarding_on b)) (discarding-wider b) (sending-wider (discarding_on b) (finishing (discarding_on b)) refl refl refl refl)) (λ t. wider-same b)

-- an ACK is owed, or the client was told what is so, unless it reset the connection
abbrev pub IsQuiet : Option Said → ControlBlock → Type 0
IsQuiet o b = b.reset ≡ false → (b.owed ≡ true) ⊎ IsTold o b

told-wider : (o : Option Said) (b d : ControlBlock) → IsWider b d → IsTold o b → IsTold o d
told-wider o b d g t = let more = g.wide in record { said = t.said; is = t.is; ack = t.ack ∙ sym g.next; window = t.window ∙ sym g.last; shut = λ z. g.last ∙ t.shut (omega (arith, more, z)) }

pub wider-quiet : (o : Option Said) (b d : ControlBlock) → IsWider b d → IsQuiet o b → IsQuiet o d
wider-quiet o b d g q r = ⊎_elim (λ (owed : b.owed ≡ true). inl (g.owed ∙ owed)) (λ (t : IsTold o b). inr (told-wider o b d g t)) (q (sym g.reset ∙ r))

-- a segment that came is owed an ACK, where anything of it was taken
pub heard-quiet : (o : Option Said) (b : ControlBlock) (s : Said) → b.reset ≡ false → IsTold o b → IsQuiet o (on_segment b s).1
heard-quiet o b s calm t open_ =
    let h : Hears b (is_reset b s) (on_segment b s).1 = segment-hears b s calm in
    ⊎_elim (λ e. inr (told-on o b (on_segment b s).1 e h.last t)) (λ e. inl e) h.taken_in

-- ---- turn by turn

module _ (env : NodeEnv) where
  abbrev Wider : Work → Work → Type 0
  Wider k u = IsWider k.service.block u.service.block

  answered-wider : (s : ServeEnv) (way : Via) (v : Verdict) (w : Service) → IsWider w.block (answered s way v w).block
  answered-wider s way v w =
      let bytes : List ℕ = answer s.files v in
      answered-keeps (λ (t : Service). IsWider w.block t.block) s way v w
      (λ t. wider-same w.block)
      (λ t. wider-then w.block (queueing w.block bytes) (closed_behind v (queueing w.block bytes)) (sending-wider w.block (queueing w.block bytes) refl refl refl refl) (closed-wider v (queueing w.block bytes)))

  fin-wider : (w : Service) → IsWider w.block (ended_at_fin w).block
  fin-wider w = at-fin-keeps (λ (t : Service). IsWider w.block t.block) w (λ t. sending-wider w.block (finishing w.block) refl refl refl refl) (λ t. wider-same w.block)

  -- more behind that
  on-wider : (k y : Work) (d : ControlBlock) → Wider k y → IsWider y.service.block d → IsWider k.service.block d
  on-wider k y d g h = wider-then k.service.block y.service.block d g h

  by_wider : (k : Work) → KeptByStay env (Wider k)
  by_wider k = record {
    hits = λ r path v w good is t h. h;
    queues = λ r path v w good is f h. h;
    wants = λ node r path v w good is f h. h;
    enters = λ v w h. h;
    asks = λ size path paths w e h. h;
    takes = λ used w none h. on-wider k w (consuming w.service.block used) h (consuming-wider w.service.block used);
    ends = λ w none h. on-wider k w (ended_at_fin w.service).block h (fin-wider w.service);
    serves = λ way e rest w may first is h. on-wider k w (answered env.serve way e.verdict w.service).block h (answered-wider env.serve way e.verdict w.service);
  }

  pub batch-state : (here : Bool) (k : Work) → k.batch ≡ [] → Wider k (state_of (reads_batch env here k))
  batch-state here k none = batch-keeps env (Wider k) (by_wider k) here k none (wider-same k.service.block)

  pub goes-wider : (k : Work) → Wider k (goes_on env k)
  goes-wider k = goes-keep env (Wider k) (by_wider k) k (wider-same k.service.block)

-- ---- the end of a turn

-- the last segment
heard-last : (c : ℕ) (o : Option Said) (ss : List (Place × List ℕ)) (s : Place × List ℕ) → heard_by c o (ss ++ s ∷ []) ≡ said_of (decoded s.1 c ToClient)
heard-last c o [] s = refl
heard-last c o (x ∷ ss) s = heard-last c (said_of (decoded x.1 c ToClient)) ss s

-- The last segment acknowledges so much.
pub record Acknowledges (o : Option Said) (next : ℕ) : Type 0 where
  pub said : Said
  pub is : o ≡ Some said
  pub ack : said.ack ≡ next

-- an endpoint that stays has what it received
abbrev pub SameRecv : ControlBlock → Ending → Type 0
SameRecv b (ending.Here d count) = d.recv ≡ b.recv
SameRecv b (ending.Over last) = Unit {0}

module _ (env : ServeEnv) (o : Option Said) (w out : Stream) (s : Service) (between : IsBetween w out s.block) (quiet : IsQuiet o s.block) where
  pub sound : IsSound s.block
  sound = record { block = between-sound w out s.block between; number = λ e. between.speaks.number }

  pub ready : IsReady o s.block
  ready = record { sound = sound; quiet = quiet }

  limit-told : s.block.reset ≡ false → Acknowledges (heard_by env.c o (cut_off env s).1.segments) (rcv_nxt s.block)
  limit-told calm =
      let said = speaks_symbols env.c s.block in
      let last = final_of said.1 Limit in
      let talk : Spoke env.c w out true s.block said = emits_symbols-spoke env.c w out true (emits_left s.block) s.block between in
      record {
        said = limit_said last;
        is = heard-last env.c o said.0 (serving_told env (limit_said last))
            ∙ ap said_of (again env.c ToClient (limit_said last) (record { seq_fits = omega arith; ack_fits = omega arith; wnd_fits = omega arith; some_mss = tt; small_mss = tt; small_payload = omega arith; no_ack = λ f. absurd cc }));
        ack = ap awaited talk.recv;
      }

  spoken-told : s.block.reset ≡ false → Acknowledges (heard_by env.c o (spoken env s []).1.segments) (rcv_nxt s.block)
  spoken-told calm =
      let spoke : HasSpoken env.c o s.block (speaks env.c s.block) = speaks-spoken env.c o s.block sound (ready-quiet o s.block ready calm) in
      record { said = spoke.told_is.said; is = spoke.told_is.is; ack = spoke.told_is.ack ∙ ap awaited spoke.left.recv }

  -- wherever the turn ends, unless the client reset the connection
  pub settled-told : s.block.reset ≡ false → Acknowledges (heard_by env.c o (serving_settled env s).1.segments) (rcv_nxt s.block)
  settled-told calm = settled-keeps (λ given. Acknowledges (heard_by env.c o given.1.segments) (rcv_nxt s.block)) env s (λ e. spoken-told calm) (λ total e. limit-told calm)

  -- where it stays, it received what it had
  spoken-recv : SameRecv s.block (spoken env s []).0
  spoken-recv =
      let said = speaks env.c s.block in
      let talk : Spoke env.c w out true s.block said = emits-spoke env.c w out true (emits_left s.block) s.block between in
      rested-keeps (SameRecv s.block) said.1 s.count (λ t. tt) (λ t. talk.recv)

  pub settled-recv : SameRecv s.block (serving_settled env s).0
  settled-recv = settled-keeps (λ given. SameRecv s.block given.0) env s (λ e. spoken-recv) (λ total e. tt)

  pub settled-held : EndsHeld env.c o s.notes (serving_settled env s)
  settled-held = settled-ends env o s ready

-- what the timer sends
module _ (env : ServeEnv) (o : Option Said) (b : ControlBlock) (sound : IsSound b) (calm : b.reset ≡ false) (t : IsTold o b) (count : ℕ) where
  pub fired-held : EndsHeld env.c o [] (spoken env (serving (after_timer b) count []) (serving_ready_of env (after_timer b) (timed b)))
  fired-held = held-ends env.c o (serving (after_timer b) count []) b (serving_ready_of env (after_timer b) (timed b) ++ (speaks env.c (after_timer b)).0, (speaks env.c (after_timer b)).1) calm (timer-spoken env o b sound t)
