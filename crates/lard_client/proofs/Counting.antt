-- What is accepted of a segment that counts, and that nothing is of another.
use Rattle.std.proofs.Common.{◌≡◌, ◌+◌, ℕ, Bool, true, false, min, nat_lt, ◌==◌, not, ◌&&◌, ◌||◌, List, [], length, take, drop, arith, refl, ap, subst, sym, ◌∙◌, ◌⊎◌, inl, inr, ⊎_elim, length-drop}
use Rattle.std.specs.Prelude.{if◌then◌else◌}
use Rattle.std.proofs.lemmas.Bool.{cond_both, and_parts, eqb-true, not-true}
use Rattle.std.proofs.lemmas.List.{nil_from_length, length-take, take_min, drop_min}
use Rattle.lard_arrival.specs.Arrival.{bare, is_acceptable, is_allowed}
use Rattle.lard_client.specs.declared.heard.Heard.{Heard}
use Rattle.lard_client.specs.declared.phase.Phase.{Phase}
use Rattle.lard_client.specs.declared.phase.Phase.TheVariants.{Open, Aborted, Reset}
use Rattle.lard_client.specs.Control.{ClientBlock, is_open_in, client_rcv_nxt, client_rcv_wnd}
use Rattle.lard_client.specs.Arriving.{heard_nothing, client_owing, client_begins_after, known, client_room, fresh_len, client_ends, accepting, client_part_of, on_fresh, client_on_text, client_on_ack, client_on_syn, client_on_rst, client_on_unacceptable, client_on_segment, reset_by_peer, on_greeting, heard_in, client_arrived}
use Rattle.lard_client.specs.Laws.{counts, IsAwaitedPart}
use Rattle.lard_client.proofs.Outcomes.{bare-outcome, greeting-quiet, segment-outcome}
use Rattle.lard_segment.specs.Segment.{Said}
use Rattle.lard_send.proofs.Sent.{after_ack-irs}
use Rattle.lard_send.specs.Send.{after_ack}
use Rattle.lard_seq.specs.Seq.{seq_offset}

-- the part has all that there is room for
part-fresh : (x : ClientBlock) (s : Said)
    → take (fresh_len x s) (drop (min (known x s) (length s.payload)) s.payload) ≡ take (client_room x) (drop (known x s) s.payload)
part-fresh x s =
    let rest = drop (known x s) s.payload in
    let size : fresh_len x s ≡ min (client_room x) (length rest) = omega (arith, length-drop (known x s) s.payload) in
    ap (λ (l : List ℕ). take (fresh_len x s) l) (drop_min (known x s) s.payload) ∙ ap (λ n. take n rest) size ∙ take_min (client_room x) rest

-- ---- where all tests pass n bytes are accepted, and the FIN where f is true; and nothing where one fails
module _ (n : ℕ) (f : Bool) where
  abbrev pub Exact : Bool → Heard × ClientBlock → Type 0
  Exact b r = (r.0.len ≡ (if b then n else 0)) × (r.0.eof ≡ (b && f))

  abbrev pub Empty : Heard × ClientBlock → Type 0
  Empty r = (r.0.len ≡ 0) × (r.0.eof ≡ false)

  -- a test that has to pass
  when : (t b : Bool) (p q : Heard × ClientBlock) → Exact b p → Empty q → Exact (t && b) (if t then p else q)
  when true b p q h k = h
  when false b p q h k = k

  -- one that has to fail
  unless : (t b : Bool) (p q : Heard × ClientBlock) → Empty p → Exact b q → Exact (not t && b) (if t then p else q)
  unless true b p q h k = h
  unless false b p q h k = k

  -- one that drops the segment where it fails
  needs : (t b : Bool) (p q : Heard × ClientBlock) → Empty p → Exact b q → Exact (t && b) (if not t then p else q)
  needs true b p q h k = k
  needs false b p q h k = h

  -- nothing is accepted where there is nothing
  zero-exact : (x : ClientBlock) (b : Bool) → n ≡ 0 → f ≡ false → Exact b (heard_nothing, x)
  zero-exact x true e g = (sym e, sym g)
  zero-exact x false e g = (refl, refl)

  by_tests : (x y : ClientBlock) (h : Heard) (a b : Bool) → h.len ≡ n → h.eof ≡ f → Exact (not a && not b) (if a || b then (heard_nothing, x) else (h, y))
  by_tests x y h true b e g = (refl, refl)
  by_tests x y h false true e g = (refl, refl)
  by_tests x y h false false e g = (e, g)

-- ---- step by step
text-exact : (x : ClientBlock) (s : Said) → Exact (fresh_len x s) (client_ends x s) (not (client_begins_after x s) && not x.eof) (client_on_text x s)
text-exact x s =
    let wanted = not (client_begins_after x s) && not x.eof in
    cond_both ((length s.payload == 0) && not s.flags.fin) (heard_nothing, x) (on_fresh (client_owing x) s) (Exact (fresh_len x s) (client_ends x s) wanted)
    (λ t.
    let both = and_parts (length s.payload == 0) (not s.flags.fin) t in
    let none : length s.payload ≡ 0 = eqb-true (length s.payload) 0 both.0 in
    zero-exact (fresh_len x s) (client_ends x s) x wanted (omega arith) (ap (λ b. b && (known x s + fresh_len x s == length s.payload)) (not-true s.flags.fin both.1)))
    (λ t. by_tests (fresh_len x s) (client_ends x s) (client_owing x) (accepting (client_owing x) (fresh_len x s) (client_ends x s)) (client_part_of x s) (client_begins_after x s) x.eof refl refl)

ack-exact : (x : ClientBlock) (s : Said)
    → Exact (fresh_len x s) (client_ends x s) (s.flags.ack && (not (nat_lt x.send.nxt (seq_offset s.ack x.send.iss)) && (not (client_begins_after x s) && not x.eof))) (client_on_ack x s)
ack-exact x s =
    let send = after_ack x.send s.ack s.seq s.wnd in
    let y : ℕ → ClientBlock = λ i. record x { send = record x.send { irs = i } } in
    let text = client_on_text (record x { send = send }) s in
    let beyond = nat_lt x.send.nxt (seq_offset s.ack x.send.iss) in
    let wanted = not (client_begins_after x s) && not x.eof in
    let n = fresh_len x s in
    let f = client_ends x s in
    needs n f s.flags.ack (not beyond && wanted) (heard_nothing, x) (if beyond then (heard_nothing, client_owing x) else text) (refl, refl)
    (unless n f beyond wanted (heard_nothing, client_owing x) text (refl, refl)
    (subst (λ (i : ℕ). Exact (fresh_len (y i) s) (client_ends (y i) s) (not (client_begins_after (y i) s) && not x.eof) text) (after_ack-irs x.send s.ack s.seq s.wnd) (text-exact (record x { send = send }) s)))

-- a segment that is not acceptable gives nothing
unacceptable-empty : (x : ClientBlock) (s : Said) → Empty 0 false (client_on_unacceptable x s)
unacceptable-empty x s =
    let dropped : Heard × ClientBlock = if s.flags.rst then (heard_nothing, x) else (heard_nothing, client_owing x) in
    cond_both (is_allowed (client_rcv_nxt x) (client_rcv_wnd x) s) (client_on_ack (client_owing x) (bare s)) dropped (Empty 0 false)
    (λ t. let none = bare-outcome (client_owing x) s in (ap (λ h. h.len) none.0, ap (λ h. h.eof) none.0))
    (λ t. cond_both s.flags.rst (heard_nothing, x) (heard_nothing, client_owing x) (Empty 0 false) (λ u. (refl, refl)) (λ u. (refl, refl)))

phase-exact : (p : Phase) (x : ClientBlock) (s : Said)
    → Exact (fresh_len x s) (client_ends x s) (is_open_in p && (not (x.send.una == 0)
    && (is_acceptable (client_rcv_nxt x) (client_rcv_wnd x) s && (not s.flags.rst && (not s.flags.syn
    && (s.flags.ack && (not (nat_lt x.send.nxt (seq_offset s.ack x.send.iss))
    && (not (client_begins_after x s) && not x.eof)))))))) (heard_in p x s)
phase-exact Open x s =
    let n = fresh_len x s in
    let f = client_ends x s in
    let acked = s.flags.ack && (not (nat_lt x.send.nxt (seq_offset s.ack x.send.iss)) && (not (client_begins_after x s) && not x.eof)) in
    let reset : Heard × ClientBlock = if s.seq == client_rcv_nxt x then (heard_nothing, reset_by_peer x) else (heard_nothing, client_owing x) in
    unless n f (x.send.una == 0) _ (on_greeting x s) (client_on_segment x s) (greeting-quiet x s (Empty n f) (λ y a e w. (refl, refl)))
    (when n f (is_acceptable (client_rcv_nxt x) (client_rcv_wnd x) s) _ (client_on_rst x s) (client_on_unacceptable x s)
    (when n f (not s.flags.rst) (not s.flags.syn && acked) (client_on_syn x s) reset
    (unless n f s.flags.syn acked (heard_nothing, client_owing x) (client_on_ack x s) (refl, refl) (ack-exact x s))
    (cond_both (s.seq == client_rcv_nxt x) (heard_nothing, reset_by_peer x) (heard_nothing, client_owing x) (Empty n f) (λ t. (refl, refl)) (λ t. (refl, refl))))
    (unacceptable-empty x s))
phase-exact Aborted x s = (refl, refl)
phase-exact Reset x s = (refl, refl)

-- ---- which part it is
phase-part : (p : Phase) (x : ClientBlock) (s : Said) → ((heard_in p x s).0.len ≡ 0) ⊎ ((heard_in p x s).0 ≡ client_part_of x s)
phase-part Open x s =
    let P : Heard × ClientBlock → Type 0 = λ r. (r.0.len ≡ 0) ⊎ (r.0 ≡ client_part_of x s) in
    cond_both (x.send.una == 0) (on_greeting x s) (client_on_segment x s) P
    (λ t. greeting-quiet x s P (λ y a e w. inl refl))
    (λ t. ⊎_elim (λ u. inl (ap (λ h. h.len) u.0)) (λ u. inr u.1) (segment-outcome x s))
phase-part Aborted x s = inl refl
phase-part Reset x s = inl refl

awaited-bytes : (x : ClientBlock) (s : Said) (h : Heard) (b : Bool) → h.len ≡ (if b then fresh_len x s else 0) → (h.len ≡ 0) ⊎ (h ≡ client_part_of x s)
    → take h.len (drop h.from s.payload) ≡ (if b then take (client_room x) (drop (known x s) s.payload) else [])
awaited-bytes x s h false e part = ap (λ n. take n (drop h.from s.payload)) e
awaited-bytes x s h true e part =
    let rest = drop (known x s) s.payload in
    ⊎_elim
    (λ (z : h.len ≡ 0).
    let none : length (take (client_room x) rest) ≡ 0 = omega (arith, z, e, length-take (client_room x) rest, length-drop (known x s) s.payload) in
    ap (λ n. take n (drop h.from s.payload)) z ∙ sym (nil_from_length (take (client_room x) rest) none))
    (λ (p : h ≡ client_part_of x s). ap (λ (g : Heard). take g.len (drop g.from s.payload)) p ∙ part-fresh x s)
    part

awaited-fin : (x : ClientBlock) (s : Said) (h : Heard) (b : Bool) → h.len ≡ (if b then fresh_len x s else 0) → h.eof ≡ (b && client_ends x s)
    → h.eof ≡ (b && (s.flags.fin && (known x s + h.len == length s.payload)))
awaited-fin x s h false e f = f
awaited-fin x s h true e f = f ∙ ap (λ n. s.flags.fin && (known x s + n == length s.payload)) (sym e)

pub arrived-awaited : (x : ClientBlock) (s : Said) → IsAwaitedPart x s (client_arrived x s).0
unfolding client_arrived
arrived-awaited x s =
    let exact = phase-exact x.phase x s in
    let h = (heard_in x.phase x s).0 in
    record {
      len = exact.0;
      bytes = awaited-bytes x s h (counts x s) exact.0 (phase-part x.phase x s);
      fin = awaited-fin x s h (counts x s) exact.0 exact.1;
    }
