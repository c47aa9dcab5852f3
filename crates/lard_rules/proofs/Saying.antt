-- What an endpoint and a client say, segment by segment.
use Rattle.std.proofs.Common.{◌≡◌, ℕ, ◌==◌, ◌≤◌, ◌<◌, [], ◌∷◌, Bool, true, false, cond, not, refl, ap, subst, arith}
use Rattle.std.specs.Prelude.{Option, Some, None, OnSome, if◌then◌else◌}
use Rattle.lard_client.specs.Control.{ClientBlock, is_client_open}
use Rattle.lard_client.specs.Leaving as client
use Rattle.lard_client.proofs.Emitting.{told_falls, owed_falls}
use Rattle.lard_endpoint.specs.Control.{ControlBlock, IsControlBlock}
use Rattle.lard_endpoint.specs.Leaving.{emitted, after_emit, emits_left, advanced, owes, told, ready_of, after_piece, ack_ready}
use Rattle.lard_endpoint.proofs.Ends.{emit-falls}
use Rattle.lard_endpoint.proofs.Sound.{after_emit-sound, after_next-sound}
use Rattle.lard_rules.specs.Speaking.{to_client, to_front, emits, speaks, has_symbol, emits_symbols, speaks_symbols, client_emits, client_speaks}
use Rattle.lard_rules.proofs.Draining.{Drains, nothing_more, one_more}
use Rattle.lard_segment.specs.declared.segment.Ready.{Ready}
use Rattle.lard_send.specs.declared.piece.Piece.{Piece}
use Rattle.lard_send.proofs.Sent.{next-rests}
use Rattle.lard_send.specs.Send.{Sending, IsSending, may_send, next_piece, after_next}
use Rattle.lard_seq.specs.Seq.{one_if}

abbrev always : Ready → Bool
always r = true

pub one_if-most : (b : Bool) → one_if b ≤ 1
one_if-most true = omega arith
one_if-most false = omega arith

-- ---- an endpoint

endpoint-falls : (b : ControlBlock) (r : Ready) → IsControlBlock b → emitted b ≡ Some r → emits_left (after_emit b) < emits_left b
endpoint-falls b r h e = subst (λ (o : Option Ready). OnSome o (emits_left (after_emit b) < emits_left b)) e (emit-falls b (after_emit b) (emitted b) h refl refl)

endpoint-drains : (c : ℕ) → Drains emitted after_emit (to_client c) always emits_left IsControlBlock (emits c)
unfolding emits
endpoint-drains c = record { at_zero = λ s. refl; at_suc = λ n s. refl; falls = endpoint-falls; keeps = after_emit-sound }

pub speaks-more : (c : ℕ) (b : ControlBlock) (r : Ready) → IsControlBlock b → emitted b ≡ Some r
    → speaks c b ≡ (to_client c (after_emit b) r ∷ (speaks c (after_emit b)).0, (speaks c (after_emit b)).1)
speaks-more c b r h e = one_more emitted after_emit (to_client c) always emits_left IsControlBlock (emits c) (endpoint-drains c) b r h e

pub speaks-done : (c : ℕ) (b : ControlBlock) → emitted b ≡ None → speaks c b ≡ ([], b)
speaks-done c b e = nothing_more emitted after_emit (to_client c) always emits_left IsControlBlock (emits c) (endpoint-drains c) (emits_left b) b e

symbols-drains : (c : ℕ) → Drains emitted after_emit (to_client c) has_symbol emits_left IsControlBlock (emits_symbols c)
unfolding emits_symbols
symbols-drains c = record { at_zero = λ s. refl; at_suc = λ n s. refl; falls = endpoint-falls; keeps = after_emit-sound }

pub symbols-more : (c : ℕ) (b : ControlBlock) (r : Ready) → IsControlBlock b → emitted b ≡ Some r
    → speaks_symbols c b ≡ (if has_symbol r then (to_client c (after_emit b) r ∷ (speaks_symbols c (after_emit b)).0, (speaks_symbols c (after_emit b)).1) else ([], after_emit b))
symbols-more c b r h e = one_more emitted after_emit (to_client c) has_symbol emits_left IsControlBlock (emits_symbols c) (symbols-drains c) b r h e

pub symbols-done : (c : ℕ) (b : ControlBlock) → emitted b ≡ None → speaks_symbols c b ≡ ([], b)
symbols-done c b e = nothing_more emitted after_emit (to_client c) has_symbol emits_left IsControlBlock (emits_symbols c) (symbols-drains c) (emits_left b) b e

-- where nothing is emitted, nothing changes
pub emit-rests : (b : ControlBlock) → emitted b ≡ None → after_emit b ≡ b
emit-rests b e = go b.reset (next_piece b.send) refl (owes (advanced b)) e where
  go : (t : Bool) (p : Option Piece) → next_piece b.send ≡ p → (o : Bool)
      → cond {A = Option Ready} t None (ready_of (advanced b) p (cond {A = Option Ready} o (Some (ack_ready (advanced b))) None)) ≡ None
      → cond t b (after_piece (advanced b) p (cond o (told (advanced b)) (advanced b))) ≡ b
  go true p q o k = refl
  go false (Some p) q o k = cc
  go false None q true k = cc
  go false None q false k = ap (λ (s : Sending). record b { send = s }) (next-rests b.send (b.send.nxt == 0) (may_send b.send) q)

-- ---- a client

client-falls : (x : ClientBlock) (r : Ready) → IsSending x.send → client.client_emitted x ≡ Some r → client.unsaid (client.client_after_emit x) < client.unsaid x
client-falls x r h e = go (not (is_client_open x)) (next_piece x.send) refl (client.client_owes x) refl e where
  go : (t : Bool) (p : Option Piece) → next_piece x.send ≡ p → (o : Bool) → client.client_owes x ≡ o
      → cond {A = Option Ready} t None (client.client_ready_of x p (cond {A = Option Ready} o (Some (client.client_ack_ready x)) None)) ≡ Some r
      → client.unsaid (cond t x (client.client_after_piece (record x { send = after_next x.send }) p (cond o (client.client_told x) x))) < client.unsaid x
  go true p q o w k = cc
  go false (Some p) q o w k = told_falls x p h q
  go false None q true w k = owed_falls x w
  go false None q false w k = cc

client-keeps : (x : ClientBlock) → IsSending x.send → IsSending (client.client_after_emit x).send
client-keeps x h = go (not (is_client_open x)) (next_piece x.send) (client.client_owes x) where
  go : (t : Bool) (p : Option Piece) (o : Bool) → IsSending (cond t x (client.client_after_piece (record x { send = after_next x.send }) p (cond o (client.client_told x) x))).send
  go true p o = h
  go false (Some p) o = after_next-sound x.send h
  go false None true = h
  go false None false = h

client-drains : Drains client.client_emitted client.client_after_emit to_front always client.unsaid (λ x. IsSending x.send) client_emits
unfolding client_emits
client-drains = record { at_zero = λ s. refl; at_suc = λ n s. refl; falls = client-falls; keeps = client-keeps }

pub client-more : (x : ClientBlock) (r : Ready) → IsSending x.send → client.client_emitted x ≡ Some r
    → client_speaks x ≡ (to_front (client.client_after_emit x) r ∷ (client_speaks (client.client_after_emit x)).0, (client_speaks (client.client_after_emit x)).1)
client-more x r h e = one_more client.client_emitted client.client_after_emit to_front always client.unsaid (λ y. IsSending y.send) client_emits client-drains x r h e

pub client-done : (x : ClientBlock) → client.client_emitted x ≡ None → client_speaks x ≡ ([], x)
client-done x e = nothing_more client.client_emitted client.client_after_emit to_front always client.unsaid (λ y. IsSending y.send) client_emits client-drains (client.unsaid x) x e
