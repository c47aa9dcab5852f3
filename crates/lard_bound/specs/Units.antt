-- How much is left to do on a connection, in units: an upper bound, which no step makes greater.
use Rattle.std.specs.Prelude.{ℕ, zero, suc, ◌+◌, ◌-◌, ◌*◌, ◌==◌, ◌&&◌, Bool, true, false, if◌then◌else◌, List, [], ◌∷◌, length, Option, Some, None, is_some}
use Rattle.lard_law_view.specs.Prelude.{BackRow, ClientBlock, Conn, ControlBlock, Entry, Epoch, FilesAt, Machine, NodePart, Part, Phase, Progress, Station, answer_bytes, back_held, conn, verdicts}
use Rattle.lard_base.specs.declared.ids.TheConstants.ConnId.{MAX}
use Rattle.lard_client.specs.declared.phase.Phase.TheVariants.{Open, Aborted, Reset}
use Rattle.lard_rules.specs.declared.stay.Progress.TheVariants.{Named, Reading, Awaited, Ready}
use Rattle.lard_bound.specs.Seats.{Gone, Held, Here, Offered, Over, Refused, Returned, SeatNow, Staying, Unborn, Waiting, seat_of, tells_end}

-- ---- all that there is to do

-- What a client wrote before a settle, which writes nothing more: its bytes, those of the responses, and the requests that are answered. And
-- which nodes leave: within a settle none begins to.
pub record Whole : Type 0 where
  pub written : ℕ
  pub answers : ℕ
  pub requests : ℕ
  pub leaving : ℕ → Bool

abbrev pub whole_of : FilesAt → (ℕ → Bool) → List ℕ → Whole
whole_of files leaving wrote = record { written = length wrote; answers = length (answer_bytes files wrote); requests = length (verdicts wrote); leaving = leaving }

abbrev pub one_if_not : Bool → ℕ
one_if_not true = 0
one_if_not false = 1

-- ---- the client's direction

-- its SYN, its bytes and its FIN, as far as it does not know them to be taken; one more until its side is closed, and one as long as
-- it is open
abbrev pub spoken_left : Whole → ClientBlock → Phase → ℕ
spoken_left k x Open = 1 + ((k.written + 2) - x.send.una) + one_if_not x.send.finished
spoken_left k x Aborted = 0
spoken_left k x Reset = 0

abbrev pub client_left : Whole → ClientBlock → ℕ
client_left k x = spoken_left k x x.phase

-- how many symbols of the cluster's a client took: the SYN, the bytes, the FIN
abbrev pub symbols_taken : ClientBlock → ℕ
symbols_taken x = if x.send.una == 0 then 0 else 1 + x.accepted + (if x.eof then 1 else 0)

-- ---- the cluster's direction

-- the SYN, the bytes of all responses, and the FIN, as far as the endpoint does not know them to be taken; one more until its side is
-- closed, and one while its window is another one than the client has as it holds nothing
abbrev pub block_left : Whole → ClientBlock → ControlBlock → ℕ
block_left k x b = ((k.answers + 2) - b.send.una) + one_if_not b.send.finished

abbrev pub is_stale : ClientBlock → ControlBlock → ℕ
is_stale x b = one_if_not (b.send.wnd == x.wnd)

-- where nobody has the endpoint, as far as the client did not take them
abbrev pub untaken : Whole → ClientBlock → ℕ
untaken k x = (k.answers + 2) - symbols_taken x

-- once the connection ended, as long as the client was not reset
abbrev pub ended_left : Whole → ClientBlock → Phase → ℕ
ended_left k x Open = untaken k x
ended_left k x Aborted = untaken k x
ended_left k x Reset = 0

abbrev pub heard_left : Whole → ClientBlock → SeatNow → ℕ
heard_left k x Unborn = untaken k x + 1
heard_left k x (Held b count) = block_left k x b
heard_left k x (Waiting b count) = block_left k x b
heard_left k x (Offered n e count) = untaken k x + 1
heard_left k x (Refused n e count) = untaken k x + 1
heard_left k x (Here told n e b s) = block_left k x b
heard_left k x (Returned told n e served) = untaken k x + 1
heard_left k x (Gone told n e) = ended_left k x x.phase
heard_left k x (Over last) = ended_left k x x.phase

-- ---- the way of the connection: where a node refused it, or gives it back, the front end places it anew

-- a connection without a request is not handed off
abbrev pub hand_off : ℕ → ℕ
hand_off zero = 0
hand_off (suc n) = 7

abbrev pub seat_left : Whole → ClientBlock → SeatNow → ℕ
seat_left k x Unborn = 3 + hand_off k.requests
seat_left k x (Held b count) = 1 + hand_off k.requests + is_stale x b
seat_left k x (Waiting b count) = 7
seat_left k x (Offered n e count) = 6
seat_left k x (Refused n e count) = 10
seat_left k x (Here told n e b s) = 3 + one_if_not told + is_stale x b
seat_left k x (Returned told n e served) = 10 + one_if_not told
seat_left k x (Gone told n e) = 1 + one_if_not told
seat_left k x (Over last) = 0

-- a number of each of so many nodes, all together
abbrev pub sum_of : (ℕ → NodePart → ℕ) → (ℕ → NodePart) → ℕ → ℕ
sum_of f nodes zero = 0
sum_of f nodes (suc n) = f (suc n) (nodes (suc n)) + sum_of f nodes n

-- how many nodes tell that a stay is over, which is not acknowledged
abbrev pub tells_of : ℕ → NodePart → ℕ
tells_of n p = if is_some (tells_end p.row) then 1 else 0

abbrev pub tellers : (ℕ → NodePart) → ℕ → ℕ
tellers nodes n = sum_of tells_of nodes n

-- Nine for each node that leaves and may still send the connection back, since it did not decide about it, or has it.
abbrev pub may_return_by : Option BackRow → Option Epoch → Bool
may_return_by None None = true
may_return_by None (Some epoch) = false
may_return_by (Some row) refused = is_some (back_held row.stage)

abbrev pub may_return : NodePart → Bool
may_return p = may_return_by p.row p.beside.refused

abbrev pub token_of : (ℕ → Bool) → ℕ → NodePart → ℕ
token_of leaving n p = if leaving n && may_return p then 9 else 0

abbrev pub tokens : (ℕ → Bool) → (ℕ → NodePart) → ℕ → ℕ
tokens leaving nodes n = sum_of (token_of leaving) nodes n

-- how many of so many nodes leave
abbrev pub leavers : (ℕ → Bool) → ℕ → ℕ
leavers leaving zero = 0
leavers leaving (suc n) = (if leaving (suc n) then 1 else 0) + leavers leaving n

abbrev pub nodes_left : Whole → (ℕ → NodePart) → ℕ → ℕ
nodes_left k nodes n = tellers nodes n + tokens k.leaving nodes n

-- ---- requests

-- one that was read: it has to get its node or its content, and to be served
abbrev pub progress_left : Progress → ℕ
progress_left Named = 2
progress_left Reading = 2
progress_left (Awaited node) = 1
progress_left (Ready way) = 1

abbrev pub batch_left : List Entry → ℕ
batch_left [] = 0
batch_left (e ∷ es) = progress_left e.progress + batch_left es

-- an Ask that awaits its answer and a Fetch are one each
abbrev pub stay_left : Whole → Staying → ℕ
stay_left k s = 4 * (k.requests - (s.stay.served + length s.stay.batch)) + batch_left s.stay.batch + length s.kept + length s.fetches

abbrev pub requests_left : Whole → SeatNow → ℕ
requests_left k Unborn = 4 * k.requests
requests_left k (Held b count) = 4 * (k.requests - count)
requests_left k (Waiting b count) = 4 * (k.requests - count)
requests_left k (Offered n e count) = 4 * (k.requests - count)
requests_left k (Refused n e count) = 4 * (k.requests - count)
requests_left k (Here told n e b s) = stay_left k s
requests_left k (Returned told n e served) = 4 * (k.requests - served)
requests_left k (Gone told n e) = 0
requests_left k (Over last) = 0

-- ---- all of a connection, and of all connections

abbrev pub left_with : Whole → ℕ → Part → Station → ℕ
left_with k nodes p s =
    client_left k s.client + heard_left k s.client (seat_of p) + (seat_left k s.client (seat_of p) + nodes_left k p.nodes nodes) + requests_left k (seat_of p)

-- nothing is to be done on a connection whose client did not open
abbrev pub left_to_client : Whole → ℕ → Part → Option Station → ℕ
left_to_client k nodes p None = 0
left_to_client k nodes p (Some s) = left_with k nodes p s

unfoldable pub units : Whole → ℕ → Conn → ℕ
units k nodes x = left_to_client k nodes x.part x.part.station

-- the units of the first so many connections, of which clients wrote this
unfoldable pub units_to : (ℕ → Whole) → Machine → ℕ → ℕ
units_to all m zero = 0
units_to all m (suc q) = units (all (suc q)) m.config.nodes (conn m (suc q)) + units_to all m q

abbrev pub machine_units : (ℕ → Whole) → Machine → ℕ
machine_units all m = units_to all m MAX
