-- What a half keeps are the last of all queued bytes.
use Rattle.std.proofs.Common.{◌≡◌, ◌≤◌, ◌-◌, ◌+◌, ℕ, Bool, true, false, List, ◌++◌, length, take, drop, min, max, nat_lt, ◌==◌, ◌&&◌, ◌||◌, arith, ap, ◌∙◌, sym, length-append, length-drop}
use Rattle.std.specs.Prelude.{if◌then◌else◌}
use Rattle.std.proofs.lemmas.List.{drop-drop, drop-append-le, drop_min}
use Rattle.lard_seq.specs.Seq.{one_if, seq_offset}
use Rattle.lard_send.specs.Send.{Sending, IsUnacknowledgedPart, acknowledged_bytes, symbols, queued_too, moved_up, is_newer, windowed, after_ack, may_send, next_len, next_fin, after_next, after_resend}

-- the rest of a list from any place on is known by its length
last_part : (all rest : List ℕ) (n total : ℕ) → length all ≡ total → rest ≡ drop n all → rest ≡ drop (total - length rest) all
last_part all rest n total c e =
    let place : min n (length all) ≡ total - length rest = omega (arith, c, ap length e, length-drop n all) in
    e ∙ sym (drop_min n all) ∙ ap (λ k. drop k all) place

-- either of two halves
either : (b : Bool) (x y : Sending) (all : List ℕ) → IsUnacknowledgedPart x all → IsUnacknowledgedPart y all → IsUnacknowledgedPart (if b then x else y) all
either true x y all h k = h
either false x y all h k = k

-- NXT moves no bytes
sent : (s : Sending) (n : ℕ) (all : List ℕ) → IsUnacknowledgedPart s all → IsUnacknowledgedPart (record s { nxt = n }) all
sent s n all h = record { count = h.count; part = h.part }

-- bytes are queued
pub kept-queued : (s : Sending) (all bytes : List ℕ) → IsUnacknowledgedPart s all → IsUnacknowledgedPart (queued_too s bytes) (all ++ bytes)
kept-queued s all bytes h =
    let count : length (all ++ bytes) ≡ s.total + length bytes = length-append all bytes ∙ ap (λ n. n + length bytes) h.count in
    let within : acknowledged_bytes s ≤ length all = omega (arith, h.count) in
    record {
      count = count;
      part = last_part (all ++ bytes) (s.rest ++ bytes) (acknowledged_bytes s) (s.total + length bytes) count
          (ap (λ xs. xs ++ bytes) h.part ∙ sym (drop-append-le (acknowledged_bytes s) all bytes within));
    }

-- bytes are acknowledged
kept-moved_up : (s : Sending) (all : List ℕ) (offset : ℕ) → IsUnacknowledgedPart s all → IsUnacknowledgedPart (moved_up s offset) all
kept-moved_up s all offset h =
    let k = (offset - 1) - (s.una - 1) in
    either (nat_lt s.una offset) (record s { una = offset; rest = drop k s.rest }) s all
    (record { count = h.count; part = last_part all (drop k s.rest) (acknowledged_bytes s + k) s.total h.count (ap (drop k) h.part ∙ drop-drop k (acknowledged_bytes s) all) })
    h

-- a window is taken
kept-windowed : (s : Sending) (all : List ℕ) (opened : Bool) (seq ack wnd : ℕ) → IsUnacknowledgedPart s all → IsUnacknowledgedPart (windowed s opened seq ack wnd) all
kept-windowed s all opened seq ack wnd h =
    either (opened || is_newer s seq ack) (record s { wnd = wnd; wl1 = seq; wl2 = ack }) s all (record { count = h.count; part = h.part }) h

-- an ACK arrives
pub kept-ack : (s : Sending) (all : List ℕ) (ack seq wnd : ℕ) → IsUnacknowledgedPart s all → IsUnacknowledgedPart (after_ack s ack seq wnd) all
kept-ack s all ack seq wnd h =
    let offset = seq_offset ack s.iss in
    let moved = moved_up s offset in
    let last = windowed moved (s.una == 0) seq ack wnd in
    either (nat_lt s.nxt offset) s (if (s.una == 0) && (offset == 0) then s else last) all h
    (either ((s.una == 0) && (offset == 0)) s last all h (kept-windowed moved all (s.una == 0) seq ack wnd (kept-moved_up s all offset h)))

-- symbols are sent, and sent again
pub kept-next : (s : Sending) (all : List ℕ) → IsUnacknowledgedPart s all → IsUnacknowledgedPart (after_next s) all
kept-next s all h =
    let more : Sending = record s { nxt = s.nxt + next_len s + one_if (next_fin s) } in
    either (s.nxt == 0) (record s { nxt = 1 }) (if may_send s then more else s) all (sent s 1 all h)
    (either (may_send s) more s all (sent s (s.nxt + next_len s + one_if (next_fin s)) all h) h)

pub kept-resend : (s : Sending) (all : List ℕ) → IsUnacknowledgedPart s all → IsUnacknowledgedPart (after_resend s) all
kept-resend s all h =
    let probed : Sending = record s { nxt = s.nxt + 1 } in
    let last : Sending = if nat_lt s.nxt (symbols s) then probed else s in
    either (s.una == 0) (record s { nxt = max s.nxt 1 }) (if nat_lt s.una s.nxt then s else last) all (sent s (max s.nxt 1) all h)
    (either (nat_lt s.una s.nxt) s last all h (either (nat_lt s.nxt (symbols s)) probed s all (sent s (s.nxt + 1) all h) h))

-- the bytes of a place
pub pieces : (s : Sending) (all : List ℕ) (at len : ℕ) → acknowledged_bytes s ≤ at → IsUnacknowledgedPart s all
    → take len (drop (at - acknowledged_bytes s) s.rest) ≡ take len (drop at all)
pieces s all at len le h =
    let place : acknowledged_bytes s + (at - acknowledged_bytes s) ≡ at = omega arith in
    ap (λ xs. take len (drop (at - acknowledged_bytes s) xs)) h.part
    ∙ ap (take len) (drop-drop (at - acknowledged_bytes s) (acknowledged_bytes s) all ∙ ap (λ k. drop k all) place)
