-- What either end of a connection asks of a segment that arrives, before it takes anything of it, by the number nxt
-- that it awaits and the size wnd of its window, RCV.NXT and RCV.WND (RFC 9293, 3.3.1).
use Rattle.std.specs.Prelude.{◌≡◌, ℕ, ◌+◌, ◌-◌, ◌≤◌, ◌==◌, nat_lt, not, ◌&&◌, ◌||◌, Bool, false, if◌then◌else◌, List, [], length, take, drop, Option, unwrap_or}
use Rattle.lard_arrival.specs.declared.rules.TheConstants.{DEFAULT_MSS}
use Rattle.lard_segment.specs.Options.{clamped}
use Rattle.lard_segment.specs.Segment.{Said}
use Rattle.lard_seq.specs.Seq.{seq_add, seq_offset}

-- SEG.LEN counts the data, the SYN and the FIN (RFC 9293, 3.4).
abbrev pub seg_len : Said → ℕ
seg_len s = length s.payload + (if s.flags.syn then 1 else 0) + (if s.flags.fin then 1 else 0)

-- The sequence number of the last symbol of a segment that has one.
abbrev pub last_number : Said → ℕ
last_number s = seq_add s.seq (seg_len s - 1)

-- A number lies in the window: RCV.NXT =< number < RCV.NXT + RCV.WND (RFC 9293, 3.4).
abbrev pub is_in_window : ℕ → ℕ → ℕ → Bool
is_in_window nxt wnd number = nat_lt (seq_offset number nxt) wnd

-- The four cases of acceptability (RFC 9293, 3.10.7.4, table 6).
abbrev pub is_acceptable : ℕ → ℕ → Said → Bool
is_acceptable nxt wnd s =
    if seg_len s == 0
    then (if wnd == 0 then s.seq == nxt else is_in_window nxt wnd s.seq)
    else (if wnd == 0 then false else is_in_window nxt wnd s.seq || is_in_window nxt wnd (last_number s))

-- A segment at a window of 0 that is not acceptable for its data or FIN alone: its ACK is taken all the same
-- (RFC 9293, 3.10.7.4, first: "special allowance should be made to accept valid ACKs").
abbrev pub is_allowed : ℕ → ℕ → Said → Bool
is_allowed nxt wnd s = (wnd == 0 && s.seq == nxt) && (not s.flags.rst && not s.flags.syn)

-- The segment without its data and FIN.
abbrev pub bare : Said → Said
bare s = record s { payload = []; flags = record s.flags { fin = false } }

-- The peer's maximum segment size: 536 where its SYN names none (RFC 9293, 3.7.1), and 1 to 1,460.
abbrev pub peer_mss : Option ℕ → ℕ
peer_mss named = clamped (unwrap_or named DEFAULT_MSS)

-- These bytes stand at this place of all.
pub record IsPartAt (place : ℕ) (part all : List ℕ) : Type 0 where
  pub within : place + length part ≤ length all
  pub same : take (length part) (drop place all) ≡ part
