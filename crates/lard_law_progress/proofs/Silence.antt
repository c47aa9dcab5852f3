-- A place that has said all that it may says nothing to an acknowledgement that tells it nothing new.
use Rattle.std.proofs.Common.{◌≡◌, ◌-◌, ◌==◌, ◌&&◌, ◌||◌, nat_lt, not, ℕ, Bool, true, false, cond, drop, length, Option, Some, None, refl, ap, ◌∙◌, arith}
use Rattle.std.proofs.lemmas.Bool.{cond_both, cond-false, cond-true}
use Rattle.std.proofs.lemmas.Bool.Decides.{nat_tests}
use Rattle.lard_law_view.specs.Prelude.{Arrival, ControlBlock, Ready, Said, Sending, ack_ready, advanced, after_ack, emitted, is_acceptable, is_newer, moved_up, next_piece, on_ack, on_acked, on_rst, on_segment, on_syn, on_text, on_unacceptable, owed_ready, owes, owing, peer_room, rcv_nxt, rcv_wnd, ready_of, seq_offset, windowed}
use Rattle.lard_bound.specs.Chains.{is_plain}
use Rattle.lard_endpoint.specs.declared.control.arriving.Arrival.TheVariants as arrival
use Rattle.lard_endpoint.proofs.Silence.{emit-none}
use Rattle.lard_recv.specs.Recv as recv
use Rattle.lard_send.specs.declared.piece.Piece.{Piece}
use Rattle.lard_rules.proofs.Hearing.{segment-keeps}

-- ---- what is sent next hangs on these numbers alone

pub record IsLike (s t : Sending) : Type 0 where
  pub una : t.una ≡ s.una
  pub nxt : t.nxt ≡ s.nxt
  pub total : t.total ≡ s.total
  pub finished : t.finished ≡ s.finished
  pub wnd : t.wnd ≡ s.wnd
  pub mss : t.mss ≡ s.mss

pub next-same : (s t : Sending) → IsLike s t → next_piece t ≡ next_piece s
unfolding peer_room
next-same s t h = λ i. next_piece (record t { una = h.una i; nxt = h.nxt i; total = h.total i; finished = h.finished i; wnd = h.wnd i; mss = h.mss i })

-- what an acknowledgement keeps of a sending half, a segment does
module _ (P : Sending → Type 0) (acks : (s : Sending) (ack seq wnd : ℕ) → P s → P (after_ack s ack seq wnd)) where
  pub heard-keeps : (b : ControlBlock) (s : Said) → P b.send → P (on_segment b s).1.send
  heard-keeps b s h = let k = acks b.send s.ack s.seq s.wnd h in segment-keeps b s (λ d. P d.send) (record { rests = λ owed. h; resets = λ t. h; acks = λ owed c. k; comes = λ c some. k })

-- what an acknowledgement never changes
pub record IsKept (s t : Sending) : Type 0 where
  pub nxt : t.nxt ≡ s.nxt
  pub mss : t.mss ≡ s.mss
  pub total : t.total ≡ s.total
  pub finished : t.finished ≡ s.finished
  pub iss : t.iss ≡ s.iss

kept-self : (s : Sending) → IsKept s s
kept-self s = record { nxt = refl; mss = refl; total = refl; finished = refl; iss = refl }

pub ack-kept : (s t : Sending) (ack seq wnd : ℕ) → IsKept s t → IsKept s (after_ack t ack seq wnd)
ack-kept s t ack seq wnd h =
    let up = moved_up t (seq_offset ack t.iss) in
    let u : IsKept s up = cond_both (nat_lt t.una (seq_offset ack t.iss)) (record t { una = seq_offset ack t.iss; rest = drop ((seq_offset ack t.iss - 1) - (t.una - 1)) t.rest }) t (IsKept s)
    (λ e. record { nxt = h.nxt; mss = h.mss; total = h.total; finished = h.finished; iss = h.iss }) (λ e. h) in
    cond_both (nat_lt t.nxt (seq_offset ack t.iss)) t (cond ((t.una == 0) && (seq_offset ack t.iss == 0)) t (windowed up (t.una == 0) seq ack wnd)) (IsKept s) (λ e. h)
    (λ e. cond_both ((t.una == 0) && (seq_offset ack t.iss == 0)) t (windowed up (t.una == 0) seq ack wnd) (IsKept s) (λ e. h)
    (λ e. cond_both ((t.una == 0) || is_newer up seq ack) (record up { wnd = wnd; wl1 = seq; wl2 = ack }) up (IsKept s)
    (λ e. record { nxt = u.nxt; mss = u.mss; total = u.total; finished = u.finished; iss = u.iss }) (λ e. u)))

pub heard-kept : (b : ControlBlock) (s : Said) → IsKept b.send (on_segment b s).1.send
heard-kept b s = heard-keeps (IsKept b.send) (λ t ack seq wnd h. ack-kept b.send t ack seq wnd h) b s (kept-self b.send)

-- ---- nothing to say

-- one that has said all that it may, and told its window as an open one
pub record IsSilent (b : ControlBlock) : Type 0 where
  pub open_ : b.reset ≡ false
  pub none : emitted b ≡ None
  pub told : (b.last_window == 0) ≡ false

-- another one that has nothing to send says nothing either
pub none-said : (b d : ControlBlock) → IsSilent b → d.owed ≡ b.owed → d.last_window ≡ b.last_window → d.reset ≡ b.reset → next_piece d.send ≡ None → emitted d ≡ None
none-said b d h owed last reset next =
    let quiet = emit-none b h.open_ h.none in
    let debt : b.owed ≡ false = first b.owed ((b.last_window == 0) && nat_lt 0 (rcv_wnd b)) quiet.0 in
    let free : owes (advanced d) ≡ false = (λ i. (owed ∙ debt) i || (((ap (λ n. n == 0) last ∙ h.told) i) && nat_lt 0 (rcv_wnd d))) in
    let none : owed_ready (advanced d) ≡ None = ap (λ (t : Bool). cond {A = Option Ready} t (Some (ack_ready (advanced d))) None) free in
    let all : ready_of (advanced d) (next_piece d.send) (owed_ready (advanced d)) ≡ None = ap (λ (o : Option Piece). ready_of (advanced d) o (owed_ready (advanced d))) next ∙ none in
    ap (λ (t : Bool). cond {A = Option Ready} t None (ready_of (advanced d) (next_piece d.send) (owed_ready (advanced d)))) (reset ∙ h.open_) ∙ all
  where
    first : (p q : Bool) → (p || q) ≡ false → p ≡ false
    first true q e = e
    first false q e = refl

pub still-silent : (b d : ControlBlock) → IsSilent b → IsLike b.send d.send → d.owed ≡ b.owed → d.last_window ≡ b.last_window → d.reset ≡ b.reset → emitted d ≡ None
still-silent b d h like owed last reset = none-said b d h owed last reset (next-same b.send d.send like ∙ (emit-none b h.open_ h.none).1)

-- ---- an acknowledgement and nothing else

pub plain-parts : (syn fin rst ack : Bool) (n : ℕ) → ((not syn && (not fin && not rst)) && (ack && (n == 0))) ≡ true → (syn ≡ false) × (fin ≡ false) × (rst ≡ false) × (ack ≡ true) × ((n == 0) ≡ true)
plain-parts true fin rst ack n e = absurd (let bad : false ≡ true = e in cc)
plain-parts false true rst ack n e = absurd (let bad : false ≡ true = e in cc)
plain-parts false false true ack n e = absurd (let bad : false ≡ true = e in cc)
plain-parts false false false true n e = (refl, refl, refl, refl, e)
plain-parts false false false false n e = absurd (let bad : false ≡ true = e in cc)

-- it changes what is acknowledged, and the window, and nothing else
pub plain-heard : (b : ControlBlock) (s : Said) → is_plain s ≡ true → is_acceptable (rcv_nxt b) (rcv_wnd b) s ≡ true → nat_lt b.send.nxt (seq_offset s.ack b.send.iss) ≡ false
    → (on_segment b s).1 ≡ record b { send = after_ack b.send s.ack s.seq s.wnd }
plain-heard b s plain fits known =
    let p = plain-parts s.flags.syn s.flags.fin s.flags.rst s.flags.ack (length s.payload) plain in
    let after : ControlBlock = record b { send = after_ack b.send s.ack s.seq s.wnd } in
    let rst : not s.flags.rst ≡ true = ap not p.2 in
    let text : ((length s.payload == 0) && not s.flags.fin) ≡ true = λ i. (p.4 i) && not (p.1 i) in
    let a : on_segment b s ≡ on_rst b s = cond-true (is_acceptable (rcv_nxt b) (rcv_wnd b) s) (on_rst b s) (on_unacceptable b s) fits in
    let c : on_rst b s ≡ on_syn b s = cond-true (not s.flags.rst) (on_syn b s) (cond (s.seq == rcv_nxt b) (arrival.Reset, record b { reset = true }) (arrival.AckOwed, owing b)) rst in
    let d : on_syn b s ≡ on_ack b s = cond-false s.flags.syn (arrival.AckOwed, owing b) (on_ack b s) p.0 in
    let e : on_ack b s ≡ on_acked after s =
    cond-false (not s.flags.ack) (arrival.Fine, b) (cond (nat_lt b.send.nxt (seq_offset s.ack b.send.iss)) (arrival.AckOwed, owing b) (on_acked after s)) (ap not p.3)
    ∙ cond-false (nat_lt b.send.nxt (seq_offset s.ack b.send.iss)) (arrival.AckOwed, owing b) (on_acked after s) known in
    let f : (on_acked after s).1 ≡ after = cond_both {A = Arrival × ControlBlock} (after.send.una == 0) (arrival.Fine, after) (on_text after s) (λ (r : Arrival × ControlBlock). r.1 ≡ after) (λ t. refl)
    (λ t. ap (λ (r : Arrival × ControlBlock). r.1) (cond-true ((length s.payload == 0) && not s.flags.fin) (arrival.Fine, after) (arrival.AckOwed, record after { recv = recv.arrived after.recv s.seq s.payload s.flags.fin; owed = true }) text)) in
    ap (λ (r : Arrival × ControlBlock). r.1) (a ∙ c ∙ d ∙ e) ∙ f

-- So where it acknowledges nothing new and leaves the window as it is, the place that has the endpoint still has nothing to say.
pub plain-silent : (b : ControlBlock) (s : Said) → IsSilent b → is_plain s ≡ true → is_acceptable (rcv_nxt b) (rcv_wnd b) s ≡ true → nat_lt b.send.nxt (seq_offset s.ack b.send.iss) ≡ false
    → (on_segment b s).1.send.una ≡ b.send.una → (on_segment b s).1.send.wnd ≡ b.send.wnd → IsSilent (on_segment b s).1 × ((on_segment b s).1.recv ≡ b.recv)
plain-silent b s h plain fits known una wnd =
    let is = plain-heard b s plain fits known in
    let d = (on_segment b s).1 in
    let k = heard-kept b s in
    let owed : d.owed ≡ b.owed = ap (λ (z : ControlBlock). z.owed) is in
    let last : d.last_window ≡ b.last_window = ap (λ (z : ControlBlock). z.last_window) is in
    let reset : d.reset ≡ b.reset = ap (λ (z : ControlBlock). z.reset) is in
    let none = still-silent b d h (record { una = una; nxt = k.nxt; total = k.total; finished = k.finished; wnd = wnd; mss = k.mss }) owed last reset in
    (record { open_ = reset ∙ h.open_; none = none; told = ap (λ n. n == 0) last ∙ h.told }, ap (λ (z : ControlBlock). z.recv) is)

-- ---- what it acknowledges

-- of a sending half: more than was known, of what was sent
pub ack-una : (t : Sending) (ack seq wnd : ℕ) → nat_lt t.nxt (seq_offset ack t.iss) ≡ false → nat_lt t.una (seq_offset ack t.iss) ≡ true → (after_ack t ack seq wnd).una ≡ seq_offset ack t.iss
ack-una t ack seq wnd known more =
    let offset = seq_offset ack t.iss in
    let up : moved_up t offset ≡ record t { una = offset; rest = drop ((offset - 1) - (t.una - 1)) t.rest } =
    cond-true (nat_lt t.una offset) (record t { una = offset; rest = drop ((offset - 1) - (t.una - 1)) t.rest }) t more in
    let some : ((t.una == 0) && (offset == 0)) ≡ false = both (t.una == 0) (offset == 0) (above t.una offset more) in
    let w : Sending = windowed (moved_up t offset) (t.una == 0) seq ack wnd in
    let acked : after_ack t ack seq wnd ≡ w = cond-false (nat_lt t.nxt offset) t (cond ((t.una == 0) && (offset == 0)) t w) known ∙ cond-false ((t.una == 0) && (offset == 0)) t w some in
    ap (λ (z : Sending). z.una) acked ∙ same (moved_up t offset) ∙ ap (λ (z : Sending). z.una) up
  where
    above : (u o : ℕ) → nat_lt u o ≡ true → (o == 0) ≡ false
    above u o e = grind (arith, nat_tests, e)

    both : (p q : Bool) → q ≡ false → (p && q) ≡ false
    both true q e = e
    both false q e = refl

    same : (up : Sending) → (windowed up (t.una == 0) seq ack wnd).una ≡ up.una
    same up = cond_both ((t.una == 0) || is_newer up seq ack) (record up { wnd = wnd; wl1 = seq; wl2 = ack }) up (λ (z : Sending). z.una ≡ up.una) (λ t. refl) (λ t. refl)

-- then so much is
pub plain-news : (b : ControlBlock) (s : Said) → is_plain s ≡ true → is_acceptable (rcv_nxt b) (rcv_wnd b) s ≡ true → nat_lt b.send.nxt (seq_offset s.ack b.send.iss) ≡ false
    → nat_lt b.send.una (seq_offset s.ack b.send.iss) ≡ true → (on_segment b s).1.send.una ≡ seq_offset s.ack b.send.iss
plain-news b s plain fits known more = ap (λ (z : ControlBlock). z.send.una) (plain-heard b s plain fits known) ∙ ack-una b.send s.ack s.seq s.wnd known more
