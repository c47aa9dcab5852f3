-- What there is of a connection whose client is open and not established.
use Rattle.std.specs.Prelude.{◌≡◌, ℕ, true, false, List, [], Option, Some, None, Ok}
use Rattle.lard_law_view.specs.Prelude.{Client, Conn, ControlBlock, Front, FrontConn, FrontRow, Letter, Node, Place, Said, Station, ToClient, decoded, is_client_open, seq_offset}
use Rattle.lard_handoff_front.specs.declared.row.FrontConn.TheVariants as stage
use Rattle.lard_history.proofs.Each.{Each}

-- an endpoint that took the client's SYN alone
pub record IsFresh (isn : ℕ) (b : ControlBlock) : Type 0 where
  pub irs_is : b.recv.irs ≡ isn
  pub got : b.recv.got ≡ 0
  pub fin : b.recv.fin ≡ false
  pub unread : b.recv.unread ≡ []
  pub reset : b.reset ≡ false

-- if any, the front end holds it
abbrev pub StageIsFresh : ℕ → FrontConn → Type 0
StageIsFresh isn (stage.Held b) = IsFresh isn b
StageIsFresh isn _ = ⊥

abbrev pub RowIsFresh : ℕ → Option FrontRow → Type 0
RowIsFresh isn None = Unit {0}
RowIsFresh isn (Some row) = StageIsFresh isn row.stage

-- a segment to the client acknowledges its SYN alone
abbrev pub AcksSyn : ℕ → ℕ → List ℕ → Type 0
AcksSyn c isn bytes = (s : Said) → decoded bytes c ToClient ≡ Ok s → s.flags.ack ≡ true → seq_offset s.ack isn ≡ 1

-- and nothing was said between the front end and the nodes, nor by a node to the client
abbrev pub EarlyOn : ℕ → ℕ → Place → Place → List ℕ → Type 0
EarlyOn c isn Front (Client d) bytes = AcksSyn c isn bytes
EarlyOn c isn (Node n) (Client d) bytes = ⊥
EarlyOn c isn Front (Node n) bytes = ⊥
EarlyOn c isn (Node n) Front bytes = ⊥
EarlyOn c isn _ _ bytes = Unit {0}

abbrev pub LetterIsEarly : ℕ → ℕ → Letter → Type 0
LetterIsEarly c isn l = EarlyOn c isn l.from l.to l.bytes

pub record IsEarly (x : Conn) (s : Station) : Type 0 where
  pub front : RowIsFresh s.client.send.iss x.part.front.row
  pub nodes : (n : ℕ) → (x.part.nodes n).row ≡ None
  pub letters : Each (LetterIsEarly x.c s.client.send.iss) x.letters

abbrev pub StaysEarlyOn : Conn → Option Station → Type 0
StaysEarlyOn x None = Unit {0}
StaysEarlyOn x (Some s) = is_client_open s.client ≡ true → s.client.send.una ≡ 0 → IsEarly x s

abbrev pub StaysEarly : Conn → Type 0
StaysEarly x = StaysEarlyOn x x.part.station
