-- What a segment may make of an open client: nothing that counts, or a part of it is accepted.
use Rattle.std.proofs.Common.{◌≡◌, ◌≤◌, ◌-◌, ◌+◌, ℕ, Bool, true, false, cond, nat_lt, ◌==◌, not, ◌&&◌, ◌||◌, ◌⊎◌, length, arith, refl, ap, subst, ◌∙◌, inl, inr, ⊎_elim}
use Rattle.std.specs.Prelude.{if◌then◌else◌}
use Rattle.std.proofs.lemmas.Bool.{cond_both, or_parts}
use Rattle.lard_client.specs.declared.heard.Heard.{Heard}
use Rattle.lard_client.specs.Control.{ClientBlock, client_rcv_nxt, client_rcv_wnd}
use Rattle.lard_arrival.specs.Arrival.{bare, is_acceptable, is_allowed}
use Rattle.lard_client.specs.Arriving.{heard_nothing, client_owing, client_begins_after, fresh_len, client_ends, accepting, client_part_of, on_fresh, client_on_text, client_on_ack, client_on_syn, client_on_rst, client_on_unacceptable, client_on_segment, reset_by_peer, answers_syn, established, on_greeting}
use Rattle.lard_segment.specs.Segment.{Said}
use Rattle.lard_send.proofs.Sent.{after_ack-irs}
use Rattle.lard_send.specs.Send.{Sending, after_ack, send_closed}
use Rattle.lard_seq.specs.Seq.{seq_offset}

-- nothing was accepted
abbrev pub Quiet : ClientBlock → Heard × ClientBlock → Type 0
Quiet x r = (r.0 ≡ heard_nothing) × (r.1.accepted ≡ x.accepted) × (r.1.eof ≡ x.eof) × (r.1.send.irs ≡ x.send.irs) × (client_rcv_wnd r.1 ≡ client_rcv_wnd x)

-- a part was accepted, before any FIN
abbrev pub Took : ClientBlock → Said → Heard × ClientBlock → Type 0
Took x s r =
    (x.eof ≡ false) × (r.0 ≡ client_part_of x s) × (r.1.accepted ≡ x.accepted + fresh_len x s) × (r.1.eof ≡ client_ends x s) × (r.1.send.irs ≡ x.send.irs)
    × (client_ends x s ≡ true → r.1.send.finished ≡ true) × (client_rcv_wnd x ≤ fresh_len x s + client_rcv_wnd r.1)

abbrev pub Outcome : ClientBlock → Said → Heard × ClientBlock → Type 0
Outcome x s r = Quiet x r ⊎ Took x s r

quiet : (x : ClientBlock) (s : Said) → Outcome x s (heard_nothing, x)
quiet x s = inl (refl, refl, refl, refl, refl)

-- ---- the peer's first number stays
either : (b : Bool) (p q : Sending) (i : ℕ) → p.irs ≡ i → q.irs ≡ i → (cond b p q).irs ≡ i
either true p q i h k = h
either false p q i h k = k

finished-closed : (b : Bool) (s : Sending) → b ≡ true → (cond b (send_closed s) s).finished ≡ true
finished-closed true s e = refl
finished-closed false s e = cc

irs-closed : (b : Bool) (s : Sending) → (cond b (send_closed s) s).irs ≡ s.irs
irs-closed b s = either b (send_closed s) s s.irs refl refl

-- what it accepts fills its window, or leaves it as it was
window-left : (x : ClientBlock) (n : ℕ) (b : Bool) → client_rcv_wnd x ≤ n + (x.wnd - (x.held + (if b then n else 0)))
window-left x n true = omega arith
window-left x n false = omega arith

-- ---- step by step
fresh-outcome : (x : ClientBlock) (s : Said) → Outcome x s (on_fresh x s)
fresh-outcome x s =
    cond_both (client_begins_after x s || x.eof) (heard_nothing, x) (client_part_of x s, accepting x (fresh_len x s) (client_ends x s)) (Outcome x s)
    (λ t. quiet x s)
    (λ f. inr ((or_parts (client_begins_after x s) x.eof f).1, refl, refl, refl, irs-closed (client_ends x s) x.send, finished-closed (client_ends x s) x.send, window-left x (fresh_len x s) x.holding))

text-outcome : (x : ClientBlock) (s : Said) → Outcome x s (client_on_text x s)
text-outcome x s =
    cond_both ((length s.payload == 0) && not s.flags.fin) (heard_nothing, x) (on_fresh (client_owing x) s) (Outcome x s)
    (λ t. quiet x s) (λ f. fresh-outcome (client_owing x) s)

-- what is heard depends on the peer's first number, and on no other number of the sending half
renumbered : (x : ClientBlock) (s : Said) (send : Sending) (r : Heard × ClientBlock) → send.irs ≡ x.send.irs
    → Outcome (record x { send = send }) s r → Outcome x s r
renumbered x s send r e =
    ⊎_elim (λ q. inl (q.0, q.1, q.2, q.3 ∙ e, q.4))
    (λ t. inr (
      t.0,
      t.1 ∙ ap (λ i. client_part_of (record x { send = record x.send { irs = i } }) s) e,
      t.2 ∙ ap (λ i. x.accepted + fresh_len (record x { send = record x.send { irs = i } }) s) e,
      t.3 ∙ ap (λ i. client_ends (record x { send = record x.send { irs = i } }) s) e,
      t.4 ∙ e,
      (λ h. t.5 (ap (λ i. client_ends (record x { send = record x.send { irs = i } }) s) e ∙ h)),
      subst (λ n. client_rcv_wnd x ≤ n + client_rcv_wnd r.1) (ap (λ i. fresh_len (record x { send = record x.send { irs = i } }) s) e) t.6,
    ))

ack-outcome : (x : ClientBlock) (s : Said) → Outcome x s (client_on_ack x s)
ack-outcome x s =
    let send = after_ack x.send s.ack s.seq s.wnd in
    let known_ack = client_on_text (record x { send = send }) s in
    cond_both (not s.flags.ack) (heard_nothing, x) (cond (nat_lt x.send.nxt (seq_offset s.ack x.send.iss)) (heard_nothing, client_owing x) known_ack) (Outcome x s)
    (λ t. quiet x s)
    (λ f. cond_both (nat_lt x.send.nxt (seq_offset s.ack x.send.iss)) (heard_nothing, client_owing x) known_ack (Outcome x s)
    (λ t. quiet x s)
    (λ g. renumbered x s send known_ack (after_ack-irs x.send s.ack s.seq s.wnd) (text-outcome (record x { send = send }) s)))

-- without data and FIN nothing is accepted
pub bare-outcome : (x : ClientBlock) (s : Said) → Quiet x (client_on_ack x (bare s))
bare-outcome x s =
    let send = after_ack x.send s.ack s.seq s.wnd in
    let known_ack : Heard × ClientBlock = (heard_nothing, record x { send = send }) in
    cond_both (not s.flags.ack) (heard_nothing, x) (cond (nat_lt x.send.nxt (seq_offset s.ack x.send.iss)) (heard_nothing, client_owing x) known_ack) (Quiet x)
    (λ t. (refl, refl, refl, refl, refl))
    (λ f. cond_both (nat_lt x.send.nxt (seq_offset s.ack x.send.iss)) (heard_nothing, client_owing x) known_ack (Quiet x)
    (λ t. (refl, refl, refl, refl, refl))
    (λ g. (refl, refl, refl, after_ack-irs x.send s.ack s.seq s.wnd, refl)))

pub segment-outcome : (x : ClientBlock) (s : Said) → Outcome x s (client_on_segment x s)
segment-outcome x s =
    cond_both (is_acceptable (client_rcv_nxt x) (client_rcv_wnd x) s) (client_on_rst x s) (client_on_unacceptable x s) (Outcome x s)
    (λ t. cond_both (not s.flags.rst) (client_on_syn x s) (cond (s.seq == client_rcv_nxt x) (heard_nothing, reset_by_peer x) (heard_nothing, client_owing x)) (Outcome x s)
    (λ u. cond_both s.flags.syn (heard_nothing, client_owing x) (client_on_ack x s) (Outcome x s) (λ v. quiet x s) (λ v. ack-outcome x s))
    (λ u. cond_both (s.seq == client_rcv_nxt x) (heard_nothing, reset_by_peer x) (heard_nothing, client_owing x) (Outcome x s) (λ v. quiet x s) (λ v. quiet x s)))
    (λ t. cond_both (is_allowed (client_rcv_nxt x) (client_rcv_wnd x) s) (client_on_ack (client_owing x) (bare s)) (cond s.flags.rst (heard_nothing, x) (heard_nothing, client_owing x)) (Outcome x s)
    (λ u. inl (bare-outcome (client_owing x) s))
    (λ u. cond_both s.flags.rst (heard_nothing, x) (heard_nothing, client_owing x) (Outcome x s) (λ v. quiet x s) (λ v. quiet x s)))

-- while its SYN is not acknowledged it accepts nothing
pub greeting-quiet : (x : ClientBlock) (s : Said) (P : Heard × ClientBlock → Type 0)
    → ((y : ClientBlock) → y.accepted ≡ x.accepted → y.eof ≡ x.eof → client_rcv_wnd y ≡ client_rcv_wnd x → P (heard_nothing, y)) → P (on_greeting x s)
greeting-quiet x s P f =
    let synced = cond s.flags.syn (heard_nothing, established x s) (heard_nothing, x) in
    cond_both (not (answers_syn x s)) (heard_nothing, x) (cond s.flags.rst (heard_nothing, reset_by_peer x) synced) P (λ t. f x refl refl refl)
    (λ t. cond_both s.flags.rst (heard_nothing, reset_by_peer x) synced P (λ u. f (reset_by_peer x) refl refl refl)
    (λ u. cond_both s.flags.syn (heard_nothing, established x s) (heard_nothing, x) P (λ v. f (established x s) refl refl refl) (λ v. f x refl refl refl)))
