-- What a client keeps of its connection: its control block (RFC 9293, 3.3.1), by counts. It holds no bytes of the
-- cluster's, and counts those that it accepted.
use Rattle.std.specs.Prelude.{ℕ, ◌+◌, ◌-◌, ◌≤◌, ◌==◌, not, ◌&&◌, ◌||◌, Bool, true, false, if◌then◌else◌, List, length}
use Rattle.lard_arrival.specs.declared.rules.TheConstants.{DEFAULT_MSS}
use Rattle.lard_base.specs.declared.limits.TheConstants.{MAX_SEGMENT_DATA, MAX_STREAM_BYTES}
use Rattle.lard_client.specs.declared.phase.Phase.{Phase}
use Rattle.lard_client.specs.declared.phase.Phase.TheVariants.{Open, Aborted, Reset}
use Rattle.lard_send.specs.Send.{Sending, send_begun, queued_too, send_closed, is_clear}
use Rattle.lard_seq.specs.Seq.{one_if, seq_add}

pub record ClientBlock : Type 0 where
  pub c : ℕ  -- the number of its connection
  pub send : Sending  -- its symbols, and the cluster's window
  pub accepted : ℕ  -- how many bytes it accepted
  pub eof : Bool  -- it took the cluster's FIN
  pub wnd : ℕ  -- the window that it opens while it holds nothing
  pub held : ℕ  -- how many of the accepted bytes lie in its window
  pub holding : Bool  -- accepted bytes stay in its window
  pub mss : ℕ  -- the most bytes of a segment that it takes
  pub owed : Bool  -- an ACK is owed
  pub last_window : ℕ  -- the window that the last segment told
  pub phase : Phase  -- whether it goes on

-- What holds of every client.
pub record IsClientBlock (x : ClientBlock) : Type 0 where
  pub bounded : x.accepted ≤ MAX_STREAM_BYTES
  pub held_within : x.held ≤ x.wnd
  pub some_mss : 1 ≤ x.mss
  pub small_mss : x.mss ≤ MAX_SEGMENT_DATA

abbrev pub is_open_in : Phase → Bool
is_open_in Open = true
is_open_in Aborted = false
is_open_in Reset = false

-- It was neither aborted nor reset.
abbrev pub is_client_open : ClientBlock → Bool
is_client_open x = is_open_in x.phase

abbrev pub is_aborted_in : Phase → Bool
is_aborted_in Open = false
is_aborted_in Aborted = true
is_aborted_in Reset = false

-- It was aborted, and not reset before.
abbrev pub is_aborted : ClientBlock → Bool
is_aborted x = is_aborted_in x.phase

-- Its SYN is acknowledged, and the cluster's SYN came with that.
abbrev pub is_established : ClientBlock → Bool
is_established x = not (x.send.una == 0)

-- RCV.NXT: the SYN, the accepted bytes and the FIN have a number each (RFC 9293, 3.4).
abbrev pub client_rcv_nxt : ClientBlock → ℕ
client_rcv_nxt x = seq_add x.send.irs (1 + x.accepted + one_if x.eof)

-- RCV.WND: its window less the bytes that it holds (RFC 9293, 3.8.6).
abbrev pub client_rcv_wnd : ClientBlock → ℕ
client_rcv_wnd x = x.wnd - x.held

-- SND.NXT
abbrev pub client_snd_nxt : ClientBlock → ℕ
client_snd_nxt x = seq_add x.send.iss x.send.nxt

-- A client whose SYN is to be sent with its window (RFC 9293, 3.10.1). Of the cluster nothing is known yet.
abbrev pub client_opened : ℕ → ℕ → ℕ → ℕ → ClientBlock
client_opened c isn wnd mss = record {
  c = c;
  send = send_begun isn 0 0 DEFAULT_MSS;
  accepted = 0;
  eof = false;
  wnd = wnd;
  held = 0;
  holding = false;
  mss = mss;
  owed = false;
  last_window = wnd;
  phase = Open;
}

-- It still writes: it was not shut, aborted or reset, and took no FIN, which shuts it.
abbrev pub is_writing : ClientBlock → Bool
is_writing x = is_client_open x && not x.send.finished

-- Bytes are to follow those that it wrote (RFC 9293, 3.10.2).
abbrev pub client_written : ClientBlock → List ℕ → ClientBlock
client_written x bytes = if is_writing x then record x { send = queued_too x.send bytes } else x

-- Its bytes in all, once it wrote these.
abbrev pub written_len : ClientBlock → List ℕ → ℕ
written_len x bytes = x.send.total + (if is_writing x then length bytes else 0)

-- Its FIN is to follow what it wrote (RFC 9293, 3.10.4).
abbrev pub shut_down : ClientBlock → ClientBlock
shut_down x = if is_client_open x then record x { send = send_closed x.send } else x

-- From now on accepted bytes stay in its window.
abbrev pub held_on : ClientBlock → ClientBlock
held_on x = if is_client_open x then record x { holding = true } else x

-- It reads all that lies in its window, and holds no longer (RFC 9293, 3.10.3). The cluster is told.
abbrev pub client_taken : ClientBlock → ClientBlock
client_taken x = if is_client_open x then record x { holding = false; held = 0; owed = x.owed || is_established x } else x

-- It resets its connection (RFC 9293, 3.10.5).
abbrev pub aborted : ClientBlock → ClientBlock
aborted x = if is_client_open x then record x { phase = Aborted } else x

-- A client that was aborted or reset holds no longer.
abbrev pub is_holding : ClientBlock → Bool
is_holding x = is_client_open x && x.holding

-- Its timer runs while some symbol is not acknowledged. A client that was aborted or reset has none.
abbrev pub is_client_armed : ClientBlock → Bool
is_client_armed x = is_client_open x && not (is_clear x.send)
