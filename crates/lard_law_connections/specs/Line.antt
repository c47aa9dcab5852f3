-- The line, as a journal tells it: those who were to wait, and were neither admitted since nor left.
use Rattle.std.specs.Prelude.{ℕ, nat_eq, nat_lt, ◌==◌, ◌&&◌, ◌||◌, not, Bool, false, if◌then◌else◌, List, [], ◌∷◌, ◌++◌, Option, Some, None, Result, Ok, Err}
use Rattle.std.specs.List.{filter, fold}
use Rattle.lard_law_view.specs.Prelude.{Client, Front, Node, Packet, Place, Rec, Said, SegFault, ToClient, ToCluster, decoded, net_step, packet_at, seg_len}
use Rattle.lard_journal.specs.declared.rec.Rec.TheVariants as rec

-- ---- who leaves

-- A segment resets the connection of one that waits, by what its client was told last: it has RST, its number is the acknowledgement
-- number of that segment, and it has no length, or that segment told a window above 0 (RFC 9293, 3.10.7.4, first and second).
abbrev pub is_reset_by : Said → Said → Bool
is_reset_by last s = s.flags.rst && (s.seq == last.ack && (seg_len s == 0 || nat_lt 0 last.wnd))

-- so it is of bytes that decode, where the client was told something
abbrev pub leaves : Option Said → Result Said SegFault → Bool
leaves None given = false
leaves (Some last) (Err fault) = false
leaves (Some last) (Ok s) = is_reset_by last s

-- ---- the line

-- All packets, the last segment that the cluster sent to each client, and who waits, the first come first.
pub record Line : Type 0 where
  pub net : List Packet
  pub told : ℕ → Option Said
  pub waits : List ℕ

-- what a segment says, where its bytes decode
abbrev pub said_of : Result Said SegFault → Option Said
said_of (Ok s) = Some s
said_of (Err fault) = None

-- client c hears this
abbrev pub hears : ℕ → List ℕ → (ℕ → Option Said) → ℕ → Option Said
hears c bytes told q = if nat_eq c q then said_of (decoded bytes c ToClient) else told q

-- to whom, and from whom: the cluster's segments to a client tell it something
abbrev pub told_by : Place → Place → List ℕ → (ℕ → Option Said) → ℕ → Option Said
told_by (Client c) Front bytes told = hears c bytes told
told_by (Client c) (Node n) bytes told = hears c bytes told
told_by (Client c) (Client d) bytes told = told
told_by Front from bytes told = told
told_by (Node n) from bytes told = told

-- all but one
abbrev pub all_but : ℕ → List ℕ → List ℕ
all_but c cs = filter (λ d. not (nat_eq c d)) cs

-- to whom, and from whom: a segment of a client that comes to the front end may take it out of the line
abbrev pub line_left_by : Place → Place → List ℕ → (ℕ → Option Said) → List ℕ → List ℕ
line_left_by Front (Client c) bytes told waits = if leaves (told c) (decoded bytes c ToCluster) then all_but c waits else waits
line_left_by Front Front bytes told waits = waits
line_left_by Front (Node n) bytes told waits = waits
line_left_by (Node m) from bytes told waits = waits
line_left_by (Client d) from bytes told waits = waits

abbrev pub line_left_at : Option Packet → (ℕ → Option Said) → List ℕ → List ℕ
line_left_at None told waits = waits
line_left_at (Some p) told waits = line_left_by p.to p.from p.bytes told waits

-- A connection comes last where it is to wait, and is out where it is admitted, or leaves.
abbrev pub line_step : Line → Rec → Line
line_step l (rec.Waits c) = record l { waits = l.waits ++ c ∷ [] }
line_step l (rec.Admitted c) = record l { waits = all_but c l.waits }
line_step l (rec.Got k) = record l { waits = line_left_at (packet_at l.net k) l.told l.waits }
line_step l (rec.Sent k from to bytes) = record l { net = net_step l.net (rec.Sent k from to bytes); told = told_by to from bytes l.told }
line_step l (rec.Lost k) = record l { net = net_step l.net (rec.Lost k) }
line_step l _ = l

-- before anything
abbrev pub nobody : Line
nobody = record { net = []; told = λ q. None; waits = [] }

-- those who wait, in the order in which they were told to
abbrev pub waiting_line : List Rec → List ℕ
waiting_line J = (fold line_step nobody J).waits
