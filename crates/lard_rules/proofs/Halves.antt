-- What each operation of a sending half keeps, a client and an endpoint keep, whatever comes and goes.
use Rattle.std.proofs.Common.{ℕ, true}
use Rattle.std.proofs.lemmas.Bool.{cond_both}
use Rattle.lard_arrival.specs.Arrival.{peer_mss}
use Rattle.lard_client.specs.Arriving.{client_arrived, client_ends}
use Rattle.lard_client.specs.Control.{ClientBlock, is_client_open, shut_down}
use Rattle.lard_client.specs.Leaving as leaving
use Rattle.lard_endpoint.specs.Arriving.{on_segment}
use Rattle.lard_endpoint.specs.Control.{ControlBlock}
use Rattle.lard_endpoint.specs.Leaving.{advanced, after_emit, after_timer, retried}
use Rattle.lard_rules.proofs.Hearing.{acked, arrived-keeps, client-emit-keeps, client-timer-keeps, emit-keeps, segment-keeps, timer-keeps}
use Rattle.lard_segment.specs.Segment.{Said}
use Rattle.lard_send.specs.Send.{Sending, after_ack, after_next, after_resend, send_closed, introduced}

-- P is kept by each operation that a segment or a timer brings about
pub record KeptBySending (P : Sending → Type 0) : Type 0 where
  pub acks : (s : Sending) (ack seq wnd : ℕ) → P s → P (after_ack s ack seq wnd)
  pub nexts : (s : Sending) → P s → P (after_next s)
  pub resends : (s : Sending) → P s → P (after_resend s)
  pub closes : (s : Sending) → P s → P (send_closed s)
  pub learns : (s : Sending) (irs mss : ℕ) → P s → P (introduced s irs mss)

module _ (P : Sending → Type 0) (kept : KeptBySending P) where
  -- ---- a client

  abbrev Client : ClientBlock → Type 0
  Client x = P x.send

  pub client-emit : (x : ClientBlock) → Client x → Client (leaving.client_after_emit x)
  client-emit x h = client-emit-keeps Client x h h (kept.nexts x.send h)

  pub client-fires : (x : ClientBlock) → Client x → Client (leaving.client_after_timer x)
  client-fires x h = client-timer-keeps Client x h (kept.resends x.send h)

  pub client-shuts : (x : ClientBlock) → Client x → Client (shut_down x)
  client-shuts x h = cond_both (is_client_open x) (record x { send = send_closed x.send }) x Client (λ t. kept.closes x.send h) (λ t. h)

  pub client-arrived : (x : ClientBlock) (s : Said) → Client x → P (client_arrived x s).1.send
  client-arrived x s h = arrived-keeps x s (λ r. P r.1.send) (record {
    refuses = λ e. h;
    ignores = λ e. h;
    learns = λ e t plain. kept.acks (introduced x.send s.seq (peer_mss s.mss)) s.ack s.seq s.wnd (kept.learns x.send s.seq (peer_mss s.mss) h);
    takes = λ e. record {
      rests = λ owed. h;
      resets = λ t. h;
      acks = λ owed c. k;
      accepts = λ c in_order going. let y : ClientBlock = acked x s true in cond_both (client_ends y s) (send_closed y.send) y.send P (λ u. kept.closes y.send k) (λ u. k);
    };
  }) where
    k : P (after_ack x.send s.ack s.seq s.wnd)
    k = kept.acks x.send s.ack s.seq s.wnd h

  -- ---- an endpoint

  abbrev Endpoint : ControlBlock → Type 0
  Endpoint b = P b.send

  pub endpoint-emit : (b : ControlBlock) → Endpoint b → Endpoint (after_emit b)
  endpoint-emit b h = let next : Endpoint (advanced b) = kept.nexts b.send h in emit-keeps Endpoint b h next next

  pub endpoint-fires : (b : ControlBlock) → Endpoint b → Endpoint (after_timer b)
  endpoint-fires b h = let next : Endpoint (retried b) = kept.resends b.send h in timer-keeps Endpoint b h next next

  pub endpoint-segment : (b : ControlBlock) (s : Said) → Endpoint b → Endpoint (on_segment b s).1
  endpoint-segment b s h = let k = kept.acks b.send s.ack s.seq s.wnd h in segment-keeps b s Endpoint (record { rests = λ owed. h; resets = λ t. h; acks = λ owed c. k; comes = λ c some. k })
