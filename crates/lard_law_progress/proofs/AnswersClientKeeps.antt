-- What an open and established client keeps of itself, whatever segment comes.
use Rattle.std.proofs.Common.{◌≡◌, ◌≤◌, ◌+◌, ◌-◌, ◌^◌, min, ℕ, Bool, true, false, cond, length, None, refl, ap, ◌∙◌, arith}
use Rattle.std.proofs.lemmas.Bool.{cond_both}
use Rattle.lard_law_view.specs.Prelude.{ClientBlock, IsSending, MAX_STREAM_BYTES, Said, Sending, accepting, after_ack, client_ends, client_on_segment, client_rcv_wnd, fresh_len, known, one_if, reset_by_peer, send_closed}
use Rattle.lard_endpoint.proofs.Sound.{after_ack-sound}
use Rattle.lard_law_progress.proofs.Silence.{ack-kept}
use Rattle.lard_rules.proofs.Hearing.{acked, client-segment-keeps}
use Rattle.lard_send.proofs.Sent.{after_ack-irs}

-- ---- what each step keeps, a segment does

pub record KeptByHearing (P : ClientBlock → Type 0) : Type 0 where
  pub owes : (y : ClientBlock) (owed : Bool) → P y → P (record y { owed = owed })
  pub resets : (y : ClientBlock) → P y → P (reset_by_peer y)
  pub acks : (y : ClientBlock) (ack seq wnd : ℕ) → P y → P (record y { send = after_ack y.send ack seq wnd })
  pub accepts : (y : ClientBlock) (s : Said) → P y → P (accepting y (fresh_len y s) (client_ends y s))

module _ (P : ClientBlock → Type 0) (k : KeptByHearing P) where
  pub heard-keeps : (x : ClientBlock) (s : Said) → P x → P (client_on_segment x s).1
  heard-keeps x s h = client-segment-keeps x s (λ r. P r.1) (record {
    rests = λ owed. k.owes x owed h;
    resets = λ t. k.resets x h;
    acks = λ owed c. now owed;
    accepts = λ c in_order going. k.accepts (acked x s true) s (now true);
  }) where
    now : (owed : Bool) → P (acked x s owed)
    now owed = k.owes (record x { send = after_ack x.send s.ack s.seq s.wnd }) owed (k.acks x s.ack s.seq s.wnd h)

-- ---- what is kept so

-- All that it is told apart by, but what it owes, took and has acknowledged; a client that holds nothing goes on so.
pub record IsSame (x y : ClientBlock) : Type 0 where
  pub c : y.c ≡ x.c
  pub wnd : y.wnd ≡ x.wnd
  pub held : y.held ≡ x.held
  pub holding : y.holding ≡ x.holding
  pub last : y.last_window ≡ x.last_window
  pub nxt : y.send.nxt ≡ x.send.nxt
  pub iss : y.send.iss ≡ x.send.iss
  pub irs : y.send.irs ≡ x.send.irs
  pub more : x.accepted ≤ y.accepted

pub heard-same : (x : ClientBlock) (s : Said) → x.holding ≡ false → IsSame x (client_on_segment x s).1
heard-same x s free = heard-keeps (IsSame x) (record {
  owes = λ y owed h. record { c = h.c; wnd = h.wnd; held = h.held; holding = h.holding; last = h.last; nxt = h.nxt; iss = h.iss; irs = h.irs; more = h.more };
  resets = λ y h. record { c = h.c; wnd = h.wnd; held = h.held; holding = h.holding; last = h.last; nxt = h.nxt; iss = h.iss; irs = h.irs; more = h.more };
  acks = λ y ack seq wnd h.
      let a = ack-kept y.send y.send ack seq wnd (record { nxt = refl; mss = refl; total = refl; finished = refl; iss = refl }) in
      record { c = h.c; wnd = h.wnd; held = h.held; holding = h.holding; last = h.last; nxt = a.nxt ∙ h.nxt; iss = a.iss ∙ h.iss; irs = after_ack-irs y.send ack seq wnd ∙ h.irs; more = h.more };
  accepts = λ y s h. record {
    c = h.c;
    wnd = h.wnd;
    held = not-held y (fresh_len y s) (h.holding ∙ free) ∙ h.held;
    holding = h.holding;
    last = h.last;
    nxt = closing y (client_ends y s) (λ z. z.nxt) refl ∙ h.nxt;
    iss = closing y (client_ends y s) (λ z. z.iss) refl ∙ h.iss;
    irs = closing y (client_ends y s) (λ z. z.irs) refl ∙ h.irs;
    more = let m : x.accepted ≤ y.accepted = h.more in omega (arith, m);
  };
}) x s (record { c = refl; wnd = refl; held = refl; holding = refl; last = refl; nxt = refl; iss = refl; irs = refl; more = omega arith }) where
  not-held : (y : ClientBlock) (n : ℕ) → y.holding ≡ false → y.held + cond y.holding n 0 ≡ y.held
  not-held y n f = let none : cond y.holding n 0 ≡ 0 = ap (λ t. cond t n 0) f in omega (arith, none)

  closing : (y : ClientBlock) (fin : Bool) (f : Sending → ℕ) → f (send_closed y.send) ≡ f y.send → f (cond fin (send_closed y.send) y.send) ≡ f y.send
  closing y true f e = e
  closing y false f e = refl

-- its sending half stays sound
closed-sound : (s : Sending) → IsSending s → IsSending (send_closed s)
closed-sound s h = record { sent = h.sent; queued = let q = h.queued in let o = most s.finished in omega (arith, q, o); kept = h.kept; most = h.most; some_mss = h.some_mss; small_mss = h.small_mss } where
  most : (t : Bool) → one_if t ≤ 1
  most true = omega arith
  most false = omega arith

pub heard-sound : (x : ClientBlock) (s : Said) → IsSending x.send → IsSending (client_on_segment x s).1.send
heard-sound x s h = heard-keeps (λ y. IsSending y.send) (record {
  owes = λ y owed e. e;
  resets = λ y e. e;
  acks = λ y ack seq wnd e. after_ack-sound y.send ack seq wnd e;
  accepts = λ y s e. cond_both (client_ends y s) (send_closed y.send) y.send IsSending (λ t. closed-sound y.send e) (λ t. e);
}) x s h

-- it takes no more than one direction carries
pub heard-few : (x : ClientBlock) (s : Said) → x.accepted ≤ 2 ^ 31 → (client_on_segment x s).1.accepted ≤ 2 ^ 31
heard-few x s h = heard-keeps (λ y. y.accepted ≤ 2 ^ 31) (record {
  owes = λ y owed e. e;
  resets = λ y e. e;
  acks = λ y ack seq wnd e. e;
  accepts = λ y s e. few y.accepted (length s.payload - known y s) (client_rcv_wnd y) e;
}) x s h where
  few : (a n w : ℕ) → a ≤ 2 ^ 31 → a + min n (min w (MAX_STREAM_BYTES - a)) ≤ 2 ^ 31
  few a n w e = omega (arith, e)

-- ---- at once it answers nothing

pub heard-quiet : (x : ClientBlock) (s : Said) → (client_on_segment x s).0.reply ≡ None
heard-quiet x s = client-segment-keeps x s (λ r. r.0.reply ≡ None) (record { rests = λ owed. refl; resets = λ t. refl; acks = λ owed c. refl; accepts = λ c in_order going. refl })
