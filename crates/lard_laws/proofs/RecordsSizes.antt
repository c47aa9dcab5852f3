-- What a client sends is short: the size of a segment that it has learnt is in its range, so each segment of its own fits a message.
use Rattle.std.proofs.Common.{ℕ, ◌+◌, ◌-◌, ◌≤◌, ◌==◌, not, ◌&&◌, ◌||◌, max, min, cond, nat_lt, true, false, List, [], ◌∷◌, ◌++◌, length, drop, Option, Some, None, IfSome, Ok, Err, Result, refl, arith}
use Rattle.std.proofs.lemmas.Bool.{cond_both}
use Rattle.std.proofs.lemmas.List.{length-take}
use Rattle.lard_law_view.specs.Prelude.{ClientBlock, Heard, MAX_SEGMENT_BYTES, MAX_SEGMENT_DATA, Phase, Place, Ready, Rec, Said, SegFault, Sending, ToCluster, Turn, abort_ready, aborted, accepted_note, acknowledged_bytes, after_ack, after_next, after_resend, again_fin, again_len, byte_piece, client_aborts, client_after_emit, client_after_timer, client_arrived, client_ends, client_filled, client_gets, client_holds, client_injects, client_opened, client_opens, client_piece_ready, client_refusal, client_shuts, client_speaks, client_taken, client_takes, client_timed, client_timer, client_writes, client_written, data_ready, eof_note, heard_in, heard_open, held_on, introduced, is_client_open, is_established, is_newer, is_writing, may_send, moved_up, next_fin, next_len, one_if, peer_mss, queued_too, resent_piece, reset_ready, send_closed, seq_offset, shut_down, silent, speaking, station_ready_of, symbols, syn_piece, syn_ready, to_front, unsent_bytes, windowed}
use Rattle.lard_client.specs.declared.phase.Phase.TheVariants.{Open, Aborted, Reset}
use Rattle.lard_client.specs.Leaving as leaving
use Rattle.lard_client.proofs.Accepted.{no_reply}
use Rattle.lard_client.proofs.Windows.{emitted-allowed}
use Rattle.lard_history.proofs.Each.{Each, Each-append}
use Rattle.lard_journal.specs.declared.rec.Rec.TheVariants as rec
use Rattle.lard_rules.proofs.Loops.{KeptByTelling, client_keeps}
use Rattle.lard_segment.proofs.Written.{length-spelled-most}
use Rattle.lard_send.specs.declared.piece.Piece.{Piece}
use Rattle.lard_rules.proofs.Hearing.{acked, arrived-keeps, client-emit-keeps, client-timer-keeps}

-- the size of a segment that the peer takes
abbrev pub HasSize : Sending → Type 0
HasSize s = s.mss ≤ MAX_SEGMENT_DATA

abbrev pub IsSized : ClientBlock → Type 0
IsSized x = HasSize x.send

-- a packet that fits a Forward
abbrev pub IsShort : Place × List ℕ → Type 0
IsShort s = length s.1 ≤ MAX_SEGMENT_BYTES

-- ---- the sending half

ack-size : (s : Sending) (ack seq wnd : ℕ) → HasSize s → HasSize (after_ack s ack seq wnd)
ack-size s ack seq wnd h =
    let offset : ℕ = seq_offset ack s.iss in
    let moved : Sending = moved_up s offset in
    let last : Sending = windowed moved (s.una == 0) seq ack wnd in
    let up : HasSize moved = cond_both (nat_lt s.una offset) (record s { una = offset; rest = drop ((offset - 1) - (s.una - 1)) s.rest }) s HasSize (λ t. h) (λ t. h) in
    cond_both (nat_lt s.nxt offset) s (cond ((s.una == 0) && (offset == 0)) s last) HasSize (λ t. h)
    (λ t. cond_both ((s.una == 0) && (offset == 0)) s last HasSize (λ u. h)
    (λ u. cond_both ((s.una == 0) || is_newer moved seq ack) (record moved { wnd = wnd; wl1 = seq; wl2 = ack }) moved HasSize (λ v. up) (λ v. up)))

next-size : (s : Sending) → HasSize s → HasSize (after_next s)
next-size s h =
    let more : Sending = record s { nxt = s.nxt + next_len s + one_if (next_fin s) } in
    cond_both (s.nxt == 0) (record s { nxt = 1 }) (cond (may_send s) more s) HasSize (λ t. h) (λ t. cond_both (may_send s) more s HasSize (λ u. h) (λ u. h))

resend-size : (s : Sending) → HasSize s → HasSize (after_resend s)
resend-size s h =
    let last : Sending = cond (nat_lt s.nxt (symbols s)) (record s { nxt = s.nxt + 1 }) s in
    cond_both (s.una == 0) (record s { nxt = max s.nxt 1 }) (cond (nat_lt s.una s.nxt) s last) HasSize (λ t. h)
    (λ t. cond_both (nat_lt s.una s.nxt) s last HasSize (λ u. h)
    (λ u. cond_both (nat_lt s.nxt (symbols s)) (record s { nxt = s.nxt + 1 }) s HasSize (λ v. h) (λ v. h)))

-- what is sent again is no longer than a segment, or one symbol
resent-size : (s : Sending) → HasSize s → IfSome (resent_piece s) (λ p. p.len ≤ MAX_SEGMENT_DATA)
resent-size s h =
    let P : Option Piece → Type 0 = λ o. IfSome o (λ p. p.len ≤ MAX_SEGMENT_DATA) in
    let again : Option Piece = Some (byte_piece s (s.una - 1) (again_len s) (again_fin s)) in
    let probe : Option Piece = Some (byte_piece s (s.nxt - 1) (min (unsent_bytes s) 1) (unsent_bytes s == 0)) in
    cond_both (s.una == 0) (Some syn_piece) (cond (nat_lt s.una s.nxt) again (cond (nat_lt s.nxt (symbols s)) probe None)) P (λ t. omega arith)
    (λ t. cond_both (nat_lt s.una s.nxt) again (cond (nat_lt s.nxt (symbols s)) probe None) P (λ u. omega (arith, h))
    (λ u. cond_both (nat_lt s.nxt (symbols s)) probe None P (λ v. omega arith) (λ v. tt)))

-- ---- what it says

emit-size : (x : ClientBlock) → IsSized x → IsSized (client_after_emit x)
emit-size x h = client-emit-keeps IsSized x h h (next-size x.send h)

timer-size : (x : ClientBlock) → IsSized x → IsSized (client_after_timer x)
timer-size x h = client-timer-keeps IsSized x h (resend-size x.send h)

-- a segment with so little data
short-front : (x : ClientBlock) (r : Ready) → r.len ≤ MAX_SEGMENT_DATA → IsShort (to_front x r)
short-front x r few =
    let s : Said = client_filled x r in
    let data_few = length-take r.len (drop (r.at - acknowledged_bytes x.send) x.send.rest) in
    let most = length-spelled-most x.c ToCluster s (omega (arith, data_few, few)) in
    omega (arith, most)

short-ready : (x : ClientBlock) (o : Option Ready) → IfSome o (λ r. r.len ≤ MAX_SEGMENT_DATA) → Each IsShort (station_ready_of x o)
short-ready x None h = tt
short-ready x (Some r) h = (short-front x r h, tt)

abbrev Tells : ClientBlock → List (Place × List ℕ) → ClientBlock → Type 0
Tells x ss y = IsSized x → IsSized y × Each IsShort ss

telling : KeptByTelling Tells
telling = record {
  rests = λ x h. (h, tt);
  says = λ x r ss y e later h.
      let few = (emitted-allowed x r e).0 in
      let rest : IsSized y × Each IsShort ss = later (emit-size x h) in
      (rest.0, (short-front (client_after_emit x) r (omega (arith, few, h)), rest.1));
}

-- what a rule gives: the client has a size, and its segments are short
abbrev pub SizeFits : ClientBlock × Turn → Type 0
SizeFits given = IsSized given.0 × Each IsShort given.1.segments

speaking-size : (notes : List Rec) (segments : List (Place × List ℕ)) (x : ClientBlock) → Each IsShort segments → IsSized x → SizeFits (speaking notes segments x)
speaking-size notes segments x sent h =
    let says : IsSized (client_speaks x).1 × Each IsShort (client_speaks x).0 = client_keeps Tells telling x h in
    (says.0, Each-append IsShort segments (client_speaks x).0 sent says.1)

-- ---- a segment comes

arrived-size : (x : ClientBlock) (s : Said) → IsSized x → IsSized (client_arrived x s).1
arrived-size x s h = arrived-keeps x s (λ r. IsSized r.1) (record {
  refuses = λ e. h;
  ignores = λ e. h;
  -- the size that the cluster's SYN names is clamped
  learns = λ e t plain. ack-size (introduced x.send s.seq (peer_mss s.mss)) s.ack s.seq s.wnd (omega arith);
  takes = λ e. record {
    rests = λ owed. h;
    resets = λ t. h;
    acks = λ owed c. k;
    accepts = λ c in_order going. let y : ClientBlock = acked x s true in cond_both (client_ends y s) (send_closed y.send) y.send HasSize (λ u. k) (λ u. k);
  };
}) where
  k : HasSize (after_ack x.send s.ack s.seq s.wnd)
  k = ack-size x.send s.ack s.seq s.wnd h

-- what is answered at once has no data
reply-none : (p : Phase) (x : ClientBlock) (s : Said) → IfSome (heard_in p x s).0.reply (λ r. r.len ≤ MAX_SEGMENT_DATA)
reply-none Open x s = no_reply x s (heard_open x s).0 (heard_open x s).1 (λ r. r.len ≤ MAX_SEGMENT_DATA) refl
reply-none Aborted x s = cond_both (s.flags.ack && not s.flags.rst) (Some (client_refusal x s.ack)) None (λ (o : Option Ready). IfSome o (λ r. r.len ≤ MAX_SEGMENT_DATA)) (λ t. omega arith) (λ t. tt)
reply-none Reset x s = tt

arrived-none : (x : ClientBlock) (s : Said) → IfSome (client_arrived x s).0.reply (λ r. r.len ≤ MAX_SEGMENT_DATA)
unfolding client_arrived
arrived-none x s = reply-none x.phase x s

-- ---- rule by rule

-- a client that opens
pub opens-sized : (c isn wnd mss : ℕ) → SizeFits (client_opens c isn wnd mss)
opens-sized c isn wnd mss = speaking-size [] [] (client_opened c isn wnd mss) tt (omega arith)

module _ (x : ClientBlock) (h : IsSized x) where
  pub writes-sized : (bytes : List ℕ) → SizeFits (client_writes x bytes)
  writes-sized bytes = cond_both {A = ClientBlock × Turn} (is_writing x) (speaking (rec.Wrote x.c bytes ∷ []) [] (client_written x bytes)) (x, silent) SizeFits
      (λ t. speaking-size (rec.Wrote x.c bytes ∷ []) [] (client_written x bytes) tt (cond_both (is_writing x) (record x { send = queued_too x.send bytes }) x IsSized (λ u. h) (λ u. h))) (λ t. (h, tt))

  pub shuts-sized : SizeFits (client_shuts x)
  shuts-sized = speaking-size [] [] (shut_down x) tt (cond_both (is_client_open x) (record x { send = send_closed x.send }) x IsSized (λ t. h) (λ t. h))

  pub holds-sized : SizeFits (client_holds x)
  holds-sized = speaking-size [] [] (held_on x) tt (cond_both (is_client_open x) (record x { holding = true }) x IsSized (λ t. h) (λ t. h))

  pub takes-sized : SizeFits (client_takes x)
  takes-sized = speaking-size [] [] (client_taken x) tt (cond_both (is_client_open x) (record x { holding = false; held = 0; owed = x.owed || is_established x }) x IsSized (λ t. h) (λ t. h))

  timed-size : IfSome (client_timed x) (λ r. r.len ≤ MAX_SEGMENT_DATA)
  timed-size = cond_both (not (is_client_open x)) None (leaving.client_ready_of x (resent_piece x.send) None) (λ (o : Option Ready). IfSome o (λ r. r.len ≤ MAX_SEGMENT_DATA)) (λ t. tt) (λ t. go (resent_piece x.send) (resent-size x.send h)) where
    of-piece : (p : Piece) → p.len ≤ MAX_SEGMENT_DATA → (client_piece_ready x p).len ≤ MAX_SEGMENT_DATA
    of-piece p few = cond_both p.syn (syn_ready x) (data_ready x p) (λ r. r.len ≤ MAX_SEGMENT_DATA) (λ t. omega arith) (λ t. few)

    go : (o : Option Piece) → IfSome o (λ p. p.len ≤ MAX_SEGMENT_DATA) → IfSome (leaving.client_ready_of x o None) (λ r. r.len ≤ MAX_SEGMENT_DATA)
    go None k = tt
    go (Some p) k = of-piece p k

  pub fires-sized : SizeFits (client_timer x)
  fires-sized = speaking-size [] (station_ready_of (client_after_timer x) (client_timed x)) (client_after_timer x) (short-ready (client_after_timer x) (client_timed x) timed-size) (timer-size x h)

  pub aborts-sized : SizeFits (client_aborts x)
  aborts-sized = (
    cond_both (is_client_open x) (record x { phase = Aborted }) x IsSized (λ t. h) (λ t. h),
    short-ready (aborted x) (abort_ready x) (cond_both (is_client_open x && is_established x) (Some (reset_ready x)) None (λ (o : Option Ready). IfSome o (λ r. r.len ≤ MAX_SEGMENT_DATA)) (λ t. omega arith) (λ t. tt)),
  )

  -- a packet that the schedule puts on the way
  pub injects-sized : (bytes : List ℕ) → length bytes ≤ MAX_SEGMENT_BYTES → SizeFits (client_injects x bytes)
  injects-sized bytes few = (h, (few, tt))

  -- whatever comes
  pub gets-sized : (r : Result Said SegFault) → SizeFits (client_gets x r)
  gets-sized (Err fault) = (h, tt)
  gets-sized (Ok s) =
      let after : Heard × ClientBlock = client_arrived x s in
      speaking-size (accepted_note after.1.c after.0 s.payload ++ eof_note after.1.c after.0) (station_ready_of after.1 after.0.reply) after.1 (short-ready after.1 after.0.reply (arrived-none x s)) (arrived-size x s h)
