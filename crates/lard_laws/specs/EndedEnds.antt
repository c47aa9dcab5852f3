-- How a connection of the cluster ended that both sides had closed, wherever its last numbers are told: of what endpoint they are.
use Rattle.std.specs.Prelude.{◌≡◌, ◌⊎◌, ℕ, List, Option, Some, None, Ok}
use Rattle.lard_law_view.specs.Prelude.{Body, Conn, EndedAs, FilesAt, Final, Front, FrontConn, FrontRow, Letter, Message, Node, Place, SaysAnswers, Station, Stream, Verdict, decoded_message, stream_of, tale_at}
use Rattle.lard_base.specs.declared.place.Reason.TheVariants as reason
use Rattle.lard_law_connections.specs.Places.{HasEnded}
use Rattle.lard_handoff_front.specs.declared.row.FrontConn.TheVariants as stage
use Rattle.lard_history.proofs.Each.{Each}
use Rattle.lard_message.specs.declared.message.Body.TheVariants as body

-- ---- an end

-- The last numbers are those of an endpoint of the client's stream w, which both sides had closed. It had answered all that it had
-- read, and read all that there was; the cluster's stream, which begins with this number, had ended with its answers.
pub record WasClosed (files : FilesAt) (w : Stream) (iss : ℕ) (last : Final) : Type 0 where
  pub out : Stream
  pub vs : List Verdict
  pub begins : out.first ≡ iss
  pub says : SaysAnswers files w out vs
  pub ended : EndedAs w out vs last

-- so it is of each end that is told as closed by both sides
abbrev pub IsTrueEnd : FilesAt → Stream → ℕ → Final → Type 0
IsTrueEnd files w iss last = last.reason ≡ reason.Closed → WasClosed files w iss last

-- ---- where an end is told

-- P is so of the last numbers that the front end keeps
abbrev pub StageEnds : (Final → Type 0) → FrontConn → Type 0
StageEnds P (stage.Closed last) = P last
StageEnds P _ = Unit {0}

abbrev pub RowEnds : (Final → Type 0) → Option FrontRow → Type 0
RowEnds P None = Unit {0}
RowEnds P (Some row) = StageEnds P row.stage

-- and of those that a node tells it, unless it knows that the stay is over
abbrev pub BodyEnds : (Final → Type 0) → ℕ → Option FrontRow → Body → Type 0
BodyEnds P e row (body.Ended why snd rcv count) = HasEnded e row ⊎ P (record { reason = why; snd = record { 0 = snd }; rcv = record { 0 = rcv } })
BodyEnds P e row _ = Unit {0}

abbrev pub LetterEndsOn : (Final → Type 0) → Option FrontRow → Place → Place → List ℕ → Type 0
LetterEndsOn P row (Node n) Front bytes = (m : Message) → decoded_message bytes ≡ Ok m → BodyEnds P m.epoch.0 row m.body
LetterEndsOn P row _ _ bytes = Unit {0}

abbrev pub LetterEnds : (Final → Type 0) → Option FrontRow → Letter → Type 0
LetterEnds P row l = LetterEndsOn P row l.from l.to l.bytes

-- at the front end, and in every packet that was ever sent
pub record TellsEnds (P : Final → Type 0) (x : Conn) : Type 0 where
  pub front : RowEnds P x.part.front.row
  pub packets : Each (LetterEnds P x.part.front.row) x.letters

-- ---- one connection

-- the client's stream: what it is told to have written, and whether it closed its side
abbrev pub written_by : Conn → Station → Stream
written_by x s = stream_of s.client.send (tale_at x).wrote

-- where its client opened
abbrev pub StationEnds : FilesAt → Conn → Option Station → Type 0
StationEnds files x None = Unit {0}
StationEnds files x (Some s) = TellsEnds (IsTrueEnd files (written_by x s) s.iss) x

-- Wherever it is told that both sides closed it, there was an endpoint that they had closed.
abbrev pub EndsAreTrue : FilesAt → Conn → Type 0
EndsAreTrue files x = StationEnds files x x.part.station
