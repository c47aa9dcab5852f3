-- Segments without data: numbers, control bits and a window (RFC 9293, 3.1).
use Rattle.std.specs.Prelude.{ℕ, [], None}
use Rattle.lard_segment.specs.declared.segment.Flags.{Flags}
use Rattle.lard_segment.specs.declared.segment.Ready.{Ready}
use Rattle.lard_segment.specs.Segment.{Said}

-- <SEQ=seq><ACK=ack><CTL=flags>
abbrev pub control_said : ℕ → ℕ → Flags → ℕ → Said
control_said seq ack flags wnd = record { seq = seq; ack = ack; flags = flags; wnd = wnd; mss = None; payload = [] }

-- The same behind so many queued bytes.
abbrev pub control_ready : ℕ → ℕ → Flags → ℕ → ℕ → Ready
control_ready seq ack flags wnd at =
    record { seq = record { 0 = seq }; ack = record { 0 = ack }; flags = flags; wnd = wnd; mss = None; at = at; len = 0 }
