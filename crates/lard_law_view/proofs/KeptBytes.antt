-- What is kept to be sent, and what came and was not read, are bytes.
use Rattle.std.proofs.Common.{ℕ, ◌+◌, ◌-◌, ◌≤◌, ◌<◌, ◌^◌, ◌==◌, ◌&&◌, ◌||◌, Bool, true, false, cond, max, nat_lt, List, ◌++◌, drop, arith, sym, subst}
use Rattle.std.proofs.lemmas.Bool.{cond_both}
use Rattle.lard_law_view.specs.Prelude.{ControlBlock, Received, Said, Sending, after_ack, after_emit, after_next, after_resend, after_timer, arrived, awaited, begins_after, bytes_taken, ends, fresh_bytes, is_newer, may_send, moved_up, next_fin, next_len, on_segment, one_if, receive_room, seq_offset, symbols, windowed}
use Rattle.lard_endpoint.proofs.Windows.{emit-recv, segment-recv, timer-recv}
use Rattle.lard_law_view.proofs.ByteLists.{AreBytes, bytes-append, each-drop, each-take}
use Rattle.lard_rules.proofs.Halves.{KeptBySending, endpoint-emit, endpoint-fires, endpoint-segment}

-- ---- a sending half

-- It keeps bytes, and of these at least so many were queued, and no more than one direction carries.
abbrev pub IsKept : ℕ → Sending → Type 0
IsKept least s = AreBytes s.rest × (least ≤ s.total) × (s.total ≤ 2 ^ 30)

module _ (least : ℕ) where
  acks-keep : (s : Sending) (ack seq wnd : ℕ) → IsKept least s → IsKept least (after_ack s ack seq wnd)
  acks-keep s ack seq wnd h =
      let offset : ℕ = seq_offset ack s.iss in
      let moved : Sending = moved_up s offset in
      let last : Sending = windowed moved (s.una == 0) seq ack wnd in
      let up : IsKept least moved = cond_both (nat_lt s.una offset) (record s { una = offset; rest = drop ((offset - 1) - (s.una - 1)) s.rest }) s (IsKept least)
      (λ t. (each-drop (λ b. b < 256) ((offset - 1) - (s.una - 1)) s.rest h.0, h.1, h.2)) (λ t. h) in
      cond_both (nat_lt s.nxt offset) s (cond ((s.una == 0) && (offset == 0)) s last) (IsKept least) (λ t. h)
      (λ t. cond_both ((s.una == 0) && (offset == 0)) s last (IsKept least) (λ u. h)
      (λ u. cond_both ((s.una == 0) || is_newer moved seq ack) (record moved { wnd = wnd; wl1 = seq; wl2 = ack }) moved (IsKept least) (λ v. up) (λ v. up)))

  nexts-keep : (s : Sending) → IsKept least s → IsKept least (after_next s)
  nexts-keep s h =
      let more : Sending = record s { nxt = s.nxt + next_len s + one_if (next_fin s) } in
      cond_both (s.nxt == 0) (record s { nxt = 1 }) (cond (may_send s) more s) (IsKept least) (λ t. h) (λ t. cond_both (may_send s) more s (IsKept least) (λ u. h) (λ u. h))

  resends-keep : (s : Sending) → IsKept least s → IsKept least (after_resend s)
  resends-keep s h =
      let last : Sending = cond (nat_lt s.nxt (symbols s)) (record s { nxt = s.nxt + 1 }) s in
      cond_both (s.una == 0) (record s { nxt = max s.nxt 1 }) (cond (nat_lt s.una s.nxt) s last) (IsKept least) (λ t. h)
      (λ t. cond_both (nat_lt s.una s.nxt) s last (IsKept least) (λ u. h)
      (λ u. cond_both (nat_lt s.nxt (symbols s)) (record s { nxt = s.nxt + 1 }) s (IsKept least) (λ v. h) (λ v. h)))

  pub kept-sending : KeptBySending (IsKept least)
  kept-sending = record { acks = acks-keep; nexts = nexts-keep; resends = resends-keep; closes = λ s h. h; learns = λ s irs mss h. h }

-- one symbol or none
one-most : (b : Bool) → one_if b ≤ 1
one-most true = omega arith
one-most false = omega arith

-- no more segments are left than symbols, and an ACK
pub left-few : (s : Sending) (owed : Bool) → s.total ≤ 2 ^ 30 → (symbols s - s.nxt) + one_if owed ≤ 2 ^ 30 + 3
left-few s owed most = let f = one-most s.finished in let o = one-most owed in omega (arith, f, o, most)

-- ---- an endpoint

arrived-keeps : (r : Received) (seq : ℕ) (data_ : List ℕ) (fin : Bool) → AreBytes r.unread → AreBytes data_ → AreBytes (arrived r seq data_ fin).unread
arrived-keeps r seq data_ fin h k =
    let more : List ℕ = fresh_bytes r seq data_ in
    let new : Received = bytes_taken r more (ends r seq data_ fin) in
    let bytes : AreBytes more = each-take (λ b. b < 256) (receive_room r) (drop (seq_offset (awaited r) seq) data_) (each-drop (λ b. b < 256) (seq_offset (awaited r) seq) data_ k) in
    let Unread : Received → Type 0 = λ q. AreBytes q.unread in
    cond_both (begins_after seq (awaited r)) r (cond r.fin r new) Unread (λ t. h)
    (λ t. cond_both r.fin r new Unread (λ u. h)
    (λ u. cond_both r.discarding r.unread (r.unread ++ more) AreBytes (λ v. h) (λ v. bytes-append r.unread more h bytes)))

-- all that it keeps are bytes, and at least so many were queued
abbrev pub BlockKeeps : ℕ → ControlBlock → Type 0
BlockKeeps least b = IsKept least b.send × AreBytes b.recv.unread

module _ (least : ℕ) where
  pub segment-keeps : (b : ControlBlock) (s : Said) → AreBytes s.payload → BlockKeeps least b → BlockKeeps least (on_segment b s).1
  segment-keeps b s data_ h = (
    endpoint-segment (IsKept least) (kept-sending least) b s h.0,
    segment-recv (λ r. AreBytes r.unread) b s h.1 (arrived-keeps b.recv s.seq s.payload s.flags.fin h.1 data_),
  )

  pub emit-keeps : (b : ControlBlock) → BlockKeeps least b → BlockKeeps least (after_emit b)
  emit-keeps b h = (endpoint-emit (IsKept least) (kept-sending least) b h.0, subst (λ (r : Received). AreBytes r.unread) (sym (emit-recv b)) h.1)

  pub timer-keeps : (b : ControlBlock) → BlockKeeps least b → BlockKeeps least (after_timer b)
  timer-keeps b h = (endpoint-fires (IsKept least) (kept-sending least) b h.0, subst (λ (r : Received). AreBytes r.unread) (sym (timer-recv b)) h.1)
