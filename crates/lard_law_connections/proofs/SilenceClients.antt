-- A client has said all that it may at the end of each turn, and holds nothing unless it holds.
use Rattle.std.proofs.Common.{◌≡◌, ◌≤◌, ◌<◌, ◌+◌, ◌||◌, ◌^◌, not, nat_lt, ℕ, zero, suc, Bool, true, false, cond, List, [], ◌∷◌, ◌++◌, length, Option, Some, None, Result, Ok, Err, refl, arith}
use Rattle.std.proofs.lemmas.Bool.{both_ways, cond-false, cond-true, cond_both, ltb-false}
use Rattle.lard_law_view.specs.Prelude.{ClientBlock, ClientFires, ClientGets, ClientReceives, Conn, IsSending, Place, Ready, Said, SegFault, Setting, Speaks, Station, ToAbort, ToClient, ToGet, ToHold, ToShut, ToTake, ToWrite, Turn, after_next, client_ack_ready, client_after_emit, client_after_piece, client_after_timer, client_arrived, client_emits, client_emitted, client_gets, client_opened, client_opens, client_owes, client_ready_of, client_rule, client_speaks, client_taken, client_told, client_writes, client_written, decoded, fresh_len, held_on, is_client_open, is_established, is_writing, next_piece, queued_too, request, send_closed, shut_down, silent, speaking, to_front, unsaid, written_len}
use Rattle.lard_client.specs.declared.phase.Phase.TheVariants.{Aborted}
use Rattle.lard_client.proofs.Emitting.{owed_falls, told_falls}
use Rattle.lard_law_connections.specs.Silence.{ClientHasSpoken}
use Rattle.lard_rules.proofs.Loops.{client_keeps}
use Rattle.lard_journal.specs.declared.rec.Rec.TheVariants as rec
use Rattle.lard_send.specs.declared.piece.Piece.{Piece}
use Rattle.lard_law_view.proofs.EachClient.{ClientComes}
use Rattle.lard_law_view.proofs.Client.{arriving-continues, closing-speaks, written-speaks}
use Rattle.lard_law_view.proofs.Speaking.{speaks-begun, speaks-next, speaks-resend}
use Rattle.lard_rules.proofs.Hearing.{acked, arrived-keeps, client-emit-keeps, client-timer-keeps}

-- ---- what it holds

-- one that does not hold has nothing in its window
abbrev pub IsHolding : ClientBlock → Type 0
IsHolding x = x.holding ≡ false → x.held ≡ 0

arrived-holds : (x : ClientBlock) (s : Said) → IsHolding x → IsHolding (client_arrived x s).1
arrived-holds x s h = arrived-keeps x s (λ r. IsHolding r.1) (record {
  refuses = λ e. h;
  ignores = λ e. h;
  learns = λ e t plain. h;
  takes = λ e. record {
    rests = λ owed. h;
    resets = λ t. h;
    acks = λ owed c. h;
    accepts = λ c in_order going e. let none : cond x.holding (fresh_len (acked x s true) s) 0 ≡ 0 = cond-false x.holding (fresh_len (acked x s true) s) 0 e in omega (arith, h e, none);
  };
})

-- ---- what it keeps of what it was given

-- some bytes that it was given and sends
abbrev pub IsGiven : ClientBlock → Type 0
IsGiven x = (bytes : List ℕ) × Speaks x.send bytes

abbrev pub IsTurning : ClientBlock → Type 0
IsTurning x = IsGiven x × IsHolding x

emit-turns : (x : ClientBlock) → IsTurning x → IsTurning (client_after_emit x)
emit-turns x h = client-emit-keeps IsTurning x h h ((h.0.0, (speaks-next x.send h.0.0 h.0.1).0), h.1)

timer-turns : (x : ClientBlock) → IsTurning x → IsTurning (client_after_timer x)
timer-turns x h = client-timer-keeps IsTurning x h ((h.0.0, (speaks-resend x.send h.0.0 h.0.1).0), h.1)

-- ---- so many segments suffice

falls : (x : ClientBlock) (r : Ready) → IsSending x.send → client_emitted x ≡ Some r → unsaid (client_after_emit x) < unsaid x
falls x r h e = go (not (is_client_open x)) (next_piece x.send) refl (client_owes x) refl e where
  go : (t : Bool) (p : Option Piece) → next_piece x.send ≡ p → (o : Bool) → client_owes x ≡ o
      → cond {A = Option Ready} t None (client_ready_of x p (cond {A = Option Ready} o (Some (client_ack_ready x)) None)) ≡ Some r
      → unsaid (cond t x (client_after_piece (record x { send = after_next x.send }) p (cond o (client_told x) x))) < unsaid x
  go true p q o w k = cc
  go false (Some p) q o w k = told_falls x p h q
  go false None q true w k = owed_falls x w
  go false None q false w k = cc

emits-rest : (n : ℕ) (x : ClientBlock) → IsTurning x → unsaid x ≤ n → client_emitted (client_emits n x).1 ≡ None
unfolding client_emits
emits-rest zero x h less = go (client_emitted x) refl where
  go : (o : Option Ready) → client_emitted x ≡ o → client_emitted x ≡ None
  go None e = e
  go (Some r) e = absurd (omega (arith, falls x r h.0.1.sound e, less))
emits-rest (suc n) x h less = go (client_emitted x) refl (emits-rest n (client_after_emit x)) where
  go : (o : Option Ready) → client_emitted x ≡ o → (IsTurning (client_after_emit x) → unsaid (client_after_emit x) ≤ n → client_emitted (client_emits n (client_after_emit x)).1 ≡ None)
      → client_emitted (elim o as (λ t. List (Place × List ℕ) × ClientBlock) [
        | None ↦ ([], x)
        | Some r ↦ (to_front (client_after_emit x) r ∷ (client_emits n (client_after_emit x)).0, (client_emits n (client_after_emit x)).1)
      ]).1 ≡ None
  go None e later = e
  go (Some r) e later = later (emit-turns x h) (omega (arith, falls x r h.0.1.sound e, less))

-- a client that spoke says nothing more
pub spoke : (x : ClientBlock) → IsTurning x → ClientHasSpoken (client_speaks x).1
spoke x h =
    let k : IsTurning (client_speaks x).1 = client_keeps (λ (x : ClientBlock) ss y. IsTurning x → IsTurning y) (record { rests = λ x h. h; says = λ x r ss y e later h. later (emit-turns x h) }) x h in
    record { bytes = k.0.0; speaks = k.0.1; none = emits-rest (unsaid x) x h (omega arith); nothing_held = k.1 }

-- ---- its rules

turning : (x : ClientBlock) → ClientHasSpoken x → IsTurning x
turning x h = ((h.bytes, h.speaks), h.nothing_held)

pub opens-spoke : (c isn wnd mss : ℕ) → isn < 2 ^ 32 → ClientHasSpoken (client_opens c isn wnd mss).0
opens-spoke c isn wnd mss fits = spoke (client_opened c isn wnd mss) (([], speaks-begun isn 0 0 536 fits (omega arith) (omega arith)), λ e. refl)

module _ (k : Setting) (small : k.stream ≤ 2 ^ 30) (its : Conn) (s : Station) (h : ClientHasSpoken s.client) where
  abbrev x : ClientBlock
  x = s.client

  abbrev Does : ClientBlock × Turn → Type 0
  Does given = ClientHasSpoken given.0

  write-turns : (bytes : List ℕ) → is_writing x ≡ true → x.send.total + length bytes ≤ 2 ^ 30 → IsTurning (client_written x bytes)
  write-turns bytes w few = (
    (h.bytes ++ bytes, (written-speaks x h.bytes bytes w (let count = h.speaks.part.count in omega arith) h.speaks).0),
    cond_both (is_writing x) (record x { send = queued_too x.send bytes }) x IsHolding (λ t. h.nothing_held) (λ t. h.nothing_held),
  )

  writes-spoke : (bytes : List ℕ) → nat_lt k.stream (written_len x bytes) ≡ false → Does (client_writes x bytes)
  writes-spoke bytes fits = cond_both (is_writing x) (speaking (rec.Wrote x.c bytes ∷ []) [] (client_written x bytes)) (x, silent) Does
      (λ w.
      let le : written_len x bytes ≤ k.stream = ltb-false k.stream (written_len x bytes) fits in
      let all : cond (is_writing x) (length bytes) 0 ≡ length bytes = cond-true (is_writing x) (length bytes) 0 w in
      spoke (client_written x bytes) (write-turns bytes w (omega (arith, le, all, small))))
      (λ w. h)

  gets-spoke : (r : Result Said SegFault) → Does (client_gets x r)
  gets-spoke (Err fault) = h
  gets-spoke (Ok said) = spoke (client_arrived x said).1 ((h.bytes, (arriving-continues x h.bytes said h.speaks).0), arrived-holds x said h.nothing_held)

  pub rule-spoke : (g : ClientGets) → ClientComes k its s g → Does (client_rule its.c x g)
  rule-spoke (ToGet path) fits = writes-spoke (request path) fits
  rule-spoke (ToWrite bytes) fits = writes-spoke bytes fits
  rule-spoke ToShut comes = spoke (shut_down x) (
    (h.bytes, (closing-speaks x h.bytes h.speaks).0),
    cond_both (is_client_open x) (record x { send = send_closed x.send }) x IsHolding (λ t. h.nothing_held) (λ t. h.nothing_held),
  )
  rule-spoke ToAbort comes = cond_both (is_client_open x) (record x { phase = Aborted }) x ClientHasSpoken
      (λ t. record { bytes = h.bytes; speaks = h.speaks; none = refl; nothing_held = h.nothing_held }) (λ t. h)
  rule-spoke ToHold comes = spoke (held_on x) (cond_both (is_client_open x) (record x { holding = true }) x IsTurning
      (λ t. ((h.bytes, h.speaks), λ e. absurd (both_ways true e refl))) (λ t. turning x h))
  rule-spoke ToTake comes = spoke (client_taken x) (cond_both (is_client_open x) (record x { holding = false; held = 0; owed = x.owed || is_established x }) x IsTurning
      (λ t. ((h.bytes, h.speaks), λ e. refl)) (λ t. turning x h))
  rule-spoke ClientFires comes = spoke (client_after_timer x) (timer-turns x (turning x h))
  rule-spoke (ClientReceives from bytes) comes = gets-spoke (decoded bytes its.c ToClient)
