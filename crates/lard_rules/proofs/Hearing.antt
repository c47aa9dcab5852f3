-- What a segment may come to, and what is said next and sent again, once for an endpoint and once for a client: a law says what
-- each outcome is to it, and opens no step of what comes and goes.
use Rattle.std.proofs.Common.{◌≡◌, ℕ, Bool, true, false, cond, nat_lt, ◌==◌, not, ◌&&◌, ◌||◌, length, Option, Some, None, refl}
use Rattle.std.proofs.lemmas.Bool.{and_parts, cond_both, not-false, not-true, or_parts}
use Rattle.lard_arrival.specs.Arrival.{bare, is_acceptable, is_allowed}
use Rattle.lard_client.specs.Arriving as arriving
use Rattle.lard_client.specs.Arriving.{accepting, answers_syn, client_arrived, client_begins_after, client_ends, client_on_segment, client_owing, client_part_of, established, fresh_len, heard_in, heard_nothing, on_fresh, on_greeting, reply_to, reset_by_peer}
use Rattle.lard_client.specs.Control.{ClientBlock, client_rcv_nxt, client_rcv_wnd, is_client_open}
use Rattle.lard_client.specs.Leaving as leaving
use Rattle.lard_client.specs.declared.heard.Heard.{Heard}
use Rattle.lard_client.specs.declared.phase.Phase.{Phase}
use Rattle.lard_client.specs.declared.phase.Phase.TheVariants.{Open, Aborted, Reset}
use Rattle.lard_endpoint.specs.declared.control.arriving.Arrival.{Arrival}
use Rattle.lard_endpoint.specs.declared.control.arriving.Arrival.TheVariants as arrival
use Rattle.lard_endpoint.specs.Arriving.{on_ack, on_acked, on_rst, on_segment, on_syn, on_text, on_unacceptable, owing}
use Rattle.lard_endpoint.specs.Control.{ControlBlock, rcv_nxt, rcv_wnd}
use Rattle.lard_endpoint.specs.Leaving.{advanced, after_emit, after_owed, after_piece, after_timer, owes, retried, told}
use Rattle.lard_recv.specs.Recv.{arrived}
use Rattle.lard_segment.specs.Segment.{Said}
use Rattle.lard_send.specs.declared.piece.Piece.{Piece}
use Rattle.lard_send.specs.Send.{Sending, after_ack, after_next, after_resend, next_piece, resent_piece}
use Rattle.lard_seq.specs.Seq.{seq_offset}

-- ---- a segment

-- its ACK counts: it is no reset, and acknowledges nothing that was not sent
pub record Counts (s : Said) (send : Sending) : Type 0 where
  pub plain : s.flags.rst ≡ false
  pub ack : s.flags.ack ≡ true
  pub sent : nat_lt send.nxt (seq_offset s.ack send.iss) ≡ false

-- an allowed segment is no reset
allowed-plain : (nxt wnd : ℕ) (s : Said) → is_allowed nxt wnd s ≡ true → s.flags.rst ≡ false
allowed-plain nxt wnd s t = not-true s.flags.rst (and_parts _ _ (and_parts _ _ t).1).0

-- ---- an endpoint

-- It is as it was but for what it owes, it is reset, what it acknowledges is known, or its data and its FIN come beside that.
pub record KeptByHearing (b : ControlBlock) (s : Said) (P : ControlBlock → Type 0) : Type 0 where
  pub rests : (owed : Bool) → P (record b { owed = owed })
  pub resets : s.flags.rst ≡ true → P (record b { reset = true })
  pub acks : (owed : Bool) → Counts s b.send → P (record b { send = after_ack b.send s.ack s.seq s.wnd; owed = owed })
  pub comes : Counts s b.send → (length s.payload == 0 && not s.flags.fin) ≡ false
      → P (record b { send = after_ack b.send s.ack s.seq s.wnd; recv = arrived b.recv s.seq s.payload s.flags.fin; owed = true })

module _ (b : ControlBlock) (s : Said) (P : ControlBlock → Type 0) (kept : KeptByHearing b s P) where
  abbrev Takes : Arrival × ControlBlock → Type 0
  Takes r = P r.1

  abbrev knows : Bool → ControlBlock
  knows owed = record b { send = after_ack b.send s.ack s.seq s.wnd; owed = owed }

  bare-keeps : s.flags.rst ≡ false → Takes (on_ack (owing b) (bare s))
  bare-keeps plain =
      let beyond : Bool = nat_lt b.send.nxt (seq_offset s.ack b.send.iss) in
      cond_both {A = Arrival × ControlBlock} (not s.flags.ack) (arrival.Fine, owing b) (cond beyond (arrival.AckOwed, owing b) (on_acked (knows true) (bare s))) Takes (λ t. kept.rests true)
      (λ t. cond_both {A = Arrival × ControlBlock} beyond (arrival.AckOwed, owing b) (on_acked (knows true) (bare s)) Takes (λ u. kept.rests true)
      (λ u.
      let k : P (knows true) = kept.acks true (record { plain = plain; ack = not-false s.flags.ack t; sent = u }) in
      cond_both {A = Arrival × ControlBlock} ((knows true).send.una == 0) (arrival.Fine, knows true) (arrival.Fine, knows true) Takes (λ v. k) (λ v. k)))

  ack-keeps : s.flags.rst ≡ false → Takes (on_ack b s)
  ack-keeps plain =
      let beyond : Bool = nat_lt b.send.nxt (seq_offset s.ack b.send.iss) in
      let now : ControlBlock = knows b.owed in
      let text : Arrival × ControlBlock = (arrival.AckOwed, record now { recv = arrived b.recv s.seq s.payload s.flags.fin; owed = true }) in
      cond_both {A = Arrival × ControlBlock} (not s.flags.ack) (arrival.Fine, b) (cond beyond (arrival.AckOwed, owing b) (on_acked now s)) Takes (λ t. kept.rests b.owed)
      (λ t. cond_both {A = Arrival × ControlBlock} beyond (arrival.AckOwed, owing b) (on_acked now s) Takes (λ u. kept.rests true)
      (λ u.
      let counts : Counts s b.send = record { plain = plain; ack = not-false s.flags.ack t; sent = u } in
      cond_both {A = Arrival × ControlBlock} (now.send.una == 0) (arrival.Fine, now) (on_text now s) Takes (λ v. kept.acks b.owed counts)
      (λ v. cond_both {A = Arrival × ControlBlock} (length s.payload == 0 && not s.flags.fin) (arrival.Fine, now) text Takes (λ w. kept.acks b.owed counts) (λ w. kept.comes counts w))))

  pub segment-keeps : P (on_segment b s).1
  segment-keeps =
      let owed : Arrival × ControlBlock = (arrival.AckOwed, owing b) in
      let reset : Arrival × ControlBlock = (arrival.Reset, record b { reset = true }) in
      let next : Bool = s.seq == rcv_nxt b in
      cond_both (is_acceptable (rcv_nxt b) (rcv_wnd b) s) (on_rst b s) (on_unacceptable b s) Takes
      (λ t. cond_both (not s.flags.rst) (on_syn b s) (cond next reset owed) Takes
      (λ u. cond_both s.flags.syn owed (on_ack b s) Takes (λ v. kept.rests true) (λ v. ack-keeps (not-true s.flags.rst u)))
      (λ u. cond_both next reset owed Takes (λ v. kept.resets (not-false s.flags.rst u)) (λ v. kept.rests true)))
      (λ t. cond_both {A = Arrival × ControlBlock} (is_allowed (rcv_nxt b) (rcv_wnd b) s) (arrival.AckOwed, (on_ack (owing b) (bare s)).1) (cond s.flags.rst (arrival.Fine, b) owed) Takes
      (λ u. bare-keeps (allowed-plain (rcv_nxt b) (rcv_wnd b) s u))
      (λ u. cond_both {A = Arrival × ControlBlock} s.flags.rst (arrival.Fine, b) owed Takes (λ v. kept.rests b.owed) (λ v. kept.rests true)))

-- what it says next, and what its timer sends again: it says nothing, or the symbols count as sent, with the window told or not
piece-keeps : (P : ControlBlock → Type 0) (b d : ControlBlock) (p : Option Piece) → P (told b) → P d → P (after_piece b p d)
piece-keeps P b d None h k = k
piece-keeps P b d (Some p) h k = h

pub emit-keeps : (P : ControlBlock → Type 0) (b : ControlBlock) → P b → P (advanced b) → P (told (advanced b)) → P (after_emit b)
emit-keeps P b rests goes tells =
    let next : ControlBlock = advanced b in
    cond_both b.reset b (after_piece next (next_piece b.send) (after_owed next)) P (λ t. rests)
    (λ t. piece-keeps P next (after_owed next) (next_piece b.send) tells (cond_both (owes next) (told next) next P (λ u. tells) (λ u. goes)))

pub timer-keeps : (P : ControlBlock → Type 0) (b : ControlBlock) → P b → P (retried b) → P (told (retried b)) → P (after_timer b)
timer-keeps P b rests goes tells =
    cond_both b.reset b (after_piece (retried b) (resent_piece b.send) (retried b)) P (λ t. rests) (λ t. piece-keeps P (retried b) (retried b) (resent_piece b.send) tells goes)

-- ---- a client

-- it knows what was acknowledged
abbrev pub acked : ClientBlock → Said → Bool → ClientBlock
acked x s owed = record x { send = after_ack x.send s.ack s.seq s.wnd; owed = owed }

-- the same of a client that is established, with what it hears; of its data a part is accepted
pub record KeptByTaking (x : ClientBlock) (s : Said) (D : Heard × ClientBlock → Type 0) : Type 0 where
  pub rests : (owed : Bool) → D (heard_nothing, record x { owed = owed })
  pub resets : s.flags.rst ≡ true → D (heard_nothing, reset_by_peer x)
  pub acks : (owed : Bool) → Counts s x.send → D (heard_nothing, acked x s owed)
  pub accepts : Counts s x.send → client_begins_after (acked x s true) s ≡ false → x.eof ≡ false
      → D (client_part_of (acked x s true) s, accepting (acked x s true) (fresh_len (acked x s true) s) (client_ends (acked x s true) s))

module _ (x : ClientBlock) (s : Said) (D : Heard × ClientBlock → Type 0) (kept : KeptByTaking x s D) where
  client-bare : s.flags.rst ≡ false → D (arriving.client_on_ack (client_owing x) (bare s))
  client-bare plain =
      let beyond : Bool = nat_lt x.send.nxt (seq_offset s.ack x.send.iss) in
      cond_both {A = Heard × ClientBlock} (not s.flags.ack) (heard_nothing, client_owing x) (cond beyond (heard_nothing, client_owing x) (heard_nothing, acked x s true)) D (λ t. kept.rests true)
      (λ t. cond_both {A = Heard × ClientBlock} beyond (heard_nothing, client_owing x) (heard_nothing, acked x s true) D (λ u. kept.rests true)
      (λ u. kept.acks true (record { plain = plain; ack = not-false s.flags.ack t; sent = u })))

  client-ack : s.flags.rst ≡ false → D (arriving.client_on_ack x s)
  client-ack plain =
      let beyond : Bool = nat_lt x.send.nxt (seq_offset s.ack x.send.iss) in
      let y : ClientBlock = acked x s true in
      cond_both {A = Heard × ClientBlock} (not s.flags.ack) (heard_nothing, x) (cond beyond (heard_nothing, client_owing x) (arriving.client_on_text (acked x s x.owed) s)) D (λ t. kept.rests x.owed)
      (λ t. cond_both {A = Heard × ClientBlock} beyond (heard_nothing, client_owing x) (arriving.client_on_text (acked x s x.owed) s) D (λ u. kept.rests true)
      (λ u.
      let counts : Counts s x.send = record { plain = plain; ack = not-false s.flags.ack t; sent = u } in
      cond_both {A = Heard × ClientBlock} ((length s.payload == 0) && not s.flags.fin) (heard_nothing, acked x s x.owed) (on_fresh y s) D (λ v. kept.acks x.owed counts)
      (λ v. cond_both {A = Heard × ClientBlock} (client_begins_after y s || y.eof) (heard_nothing, y) (client_part_of y s, accepting y (fresh_len y s) (client_ends y s)) D
      (λ w. kept.acks true counts) (λ w. let apart = or_parts (client_begins_after y s) y.eof w in kept.accepts counts apart.0 apart.1))))

  pub client-segment-keeps : D (client_on_segment x s)
  client-segment-keeps =
      let owed : Heard × ClientBlock = (heard_nothing, client_owing x) in
      let next : Bool = s.seq == client_rcv_nxt x in
      cond_both (is_acceptable (client_rcv_nxt x) (client_rcv_wnd x) s) (arriving.client_on_rst x s) (arriving.client_on_unacceptable x s) D
      (λ t. cond_both (not s.flags.rst) (arriving.client_on_syn x s) (cond next (heard_nothing, reset_by_peer x) owed) D
      (λ u. cond_both s.flags.syn owed (arriving.client_on_ack x s) D (λ v. kept.rests true) (λ v. client-ack (not-true s.flags.rst u)))
      (λ u. cond_both {A = Heard × ClientBlock} next (heard_nothing, reset_by_peer x) owed D (λ v. kept.resets (not-false s.flags.rst u)) (λ v. kept.rests true)))
      (λ t. cond_both (is_allowed (client_rcv_nxt x) (client_rcv_wnd x) s) (arriving.client_on_ack (client_owing x) (bare s)) (cond s.flags.rst (heard_nothing, x) owed) D
      (λ u. client-bare (allowed-plain (client_rcv_nxt x) (client_rcv_wnd x) s u))
      (λ u. cond_both {A = Heard × ClientBlock} s.flags.rst (heard_nothing, x) owed D (λ v. kept.rests x.owed) (λ v. kept.rests true)))

-- Whatever its phase is: a client that waits for the cluster's SYN learns it, and one that was aborted answers by a RST.
pub record KeptByArriving (x : ClientBlock) (s : Said) (D : Heard × ClientBlock → Type 0) : Type 0 where
  pub refuses : x.phase ≡ Aborted → D (arriving.reply_to x s, x)
  pub ignores : x.phase ≡ Reset → D (heard_nothing, x)
  pub learns : x.phase ≡ Open → answers_syn x s ≡ true → s.flags.rst ≡ false → D (heard_nothing, established x s)
  pub takes : x.phase ≡ Open → KeptByTaking x s D

module _ (x : ClientBlock) (s : Said) (D : Heard × ClientBlock → Type 0) (kept : KeptByArriving x s D) where
  greeting-keeps : x.phase ≡ Open → D (on_greeting x s)
  greeting-keeps open_ =
      let k : KeptByTaking x s D = kept.takes open_ in
      let synced : Heard × ClientBlock = cond s.flags.syn (heard_nothing, established x s) (heard_nothing, x) in
      cond_both {A = Heard × ClientBlock} (not (answers_syn x s)) (heard_nothing, x) (cond s.flags.rst (heard_nothing, reset_by_peer x) synced) D (λ t. k.rests x.owed)
      (λ t. cond_both {A = Heard × ClientBlock} s.flags.rst (heard_nothing, reset_by_peer x) synced D (λ u. k.resets u)
      (λ u. cond_both {A = Heard × ClientBlock} s.flags.syn (heard_nothing, established x s) (heard_nothing, x) D
      (λ v. kept.learns open_ (not-false (answers_syn x s) t) u) (λ v. k.rests x.owed)))

  phase-keeps : (p : Phase) → x.phase ≡ p → D (heard_in p x s)
  phase-keeps Open is = cond_both (x.send.una == 0) (on_greeting x s) (client_on_segment x s) D (λ t. greeting-keeps is) (λ t. client-segment-keeps x s D (kept.takes is))
  phase-keeps Aborted is = kept.refuses is
  phase-keeps Reset is = kept.ignores is

  pub arrived-keeps : D (client_arrived x s)
  unfolding client_arrived
  arrived-keeps = phase-keeps x.phase refl

-- what it says next, and what its timer sends again
client-piece-keeps : (P : ClientBlock → Type 0) (x y : ClientBlock) (p : Option Piece) → P (leaving.client_told x) → P y → P (leaving.client_after_piece x p y)
client-piece-keeps P x y None h k = k
client-piece-keeps P x y (Some p) h k = h

pub client-emit-keeps : (P : ClientBlock → Type 0) (x : ClientBlock) → P x → P (leaving.client_told x) → P (leaving.client_told (record x { send = after_next x.send })) → P (leaving.client_after_emit x)
client-emit-keeps P x rests tells goes =
    let next : ClientBlock = record x { send = after_next x.send } in
    cond_both (not (is_client_open x)) x (leaving.client_after_piece next (next_piece x.send) (leaving.client_after_owed x)) P (λ t. rests)
    (λ t. client-piece-keeps P next (leaving.client_after_owed x) (next_piece x.send) goes (cond_both (leaving.client_owes x) (leaving.client_told x) x P (λ u. tells) (λ u. rests)))

pub client-timer-keeps : (P : ClientBlock → Type 0) (x : ClientBlock) → P x → P (leaving.client_told (record x { send = after_resend x.send })) → P (leaving.client_after_timer x)
client-timer-keeps P x rests goes =
    let next : ClientBlock = record x { send = after_resend x.send } in
    cond_both (not (is_client_open x)) x (leaving.client_after_piece next (resent_piece x.send) x) P (λ t. rests) (λ t. client-piece-keeps P next x (resent_piece x.send) goes rests)
