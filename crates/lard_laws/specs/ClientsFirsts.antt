-- The first number of the cluster's side, wherever a connection has it, and what a client counts from it.
use Rattle.std.specs.Prelude.{◌≡◌, ℕ, ◌<◌, ◌^◌, true, List, [], length, Option, Some, None, Ok}
use Rattle.lard_law_view.specs.Prelude.{Body, Client, ClientBlock, ClientStands, Conn, ControlBlock, Front, Letter, Message, Node, Place, Said, Station, ToClient, client_tale, decoded, decoded_message, is_established, tale_at}
use Rattle.lard_history.proofs.Each.{Each}
use Rattle.lard_law_connections.specs.SilencePlaces.{FrontHas, NodeHas}
use Rattle.lard_laws.specs.Windows.{AnyBlock}
use Rattle.lard_message.specs.declared.message.Body.TheVariants as body

-- ---- endpoints and packets

-- an endpoint has this first number
abbrev pub IssIs : ℕ → ControlBlock → Type 0
IssIs iss b = b.send.iss ≡ iss

-- a segment has it where it has SYN (RFC 9293, 3.4)
abbrev pub GreetsBy : ℕ → Said → Type 0
GreetsBy iss s = s.flags.syn ≡ true → s.seq ≡ iss

-- of what bytes say to the client: its number fits 32 bits, too
pub record IsGreeting (iss : ℕ) (s : Said) : Type 0 where
  pub fits : s.seq < 2 ^ 32
  pub greets : GreetsBy iss s

abbrev pub BytesGreet : ℕ → ℕ → List ℕ → Type 0
BytesGreet c iss bytes = (s : Said) → decoded bytes c ToClient ≡ Ok s → IsGreeting iss s

-- an Offer hands it on
abbrev pub BodyHasFirst : ℕ → Body → Type 0
BodyHasFirst iss (body.Offer parts) = parts.iss ≡ iss
BodyHasFirst iss _ = Unit {0}

abbrev pub MessageHasFirst : ℕ → List ℕ → Type 0
MessageHasFirst iss bytes = (m : Message) → decoded_message bytes ≡ Ok m → BodyHasFirst iss m.body

abbrev pub HasFirstOn : ℕ → ℕ → Place → Place → List ℕ → Type 0
HasFirstOn c iss Front (Client d) bytes = BytesGreet c iss bytes
HasFirstOn c iss (Node n) (Client d) bytes = BytesGreet c iss bytes
HasFirstOn c iss Front (Node n) bytes = MessageHasFirst iss bytes
HasFirstOn c iss _ _ bytes = Unit {0}

abbrev pub LetterHasFirst : ℕ → ℕ → Letter → Type 0
LetterHasFirst c iss l = HasFirstOn c iss l.from l.to l.bytes

-- wherever the connection's endpoint is, and all that was sent
pub record AllHaveFirst (x : Conn) (iss : ℕ) : Type 0 where
  pub front : FrontHas (IssIs iss) x.part.front.row
  pub nodes : (n : ℕ) → NodeHas (IssIs iss) AnyBlock (x.part.nodes n)
  pub letters : Each (LetterHasFirst x.c iss) x.letters

-- before its client opened, whichever it will be
abbrev pub FirstOn : Conn → Option Station → Type 0
FirstOn x None = (iss : ℕ) → iss < 2 ^ 32 → AllHaveFirst x iss
FirstOn x (Some s) = (s.iss < 2 ^ 32) × AllHaveFirst x s.iss

-- It is one, that with which the client opened.
abbrev pub HasOneFirst : Conn → Type 0
HasOneFirst x = FirstOn x x.part.station

-- ---- its client

-- A client knows it once it is established, and counts all that it is told to have accepted.
pub record CountsFrom (iss : ℕ) (accepted : List ℕ) (x : ClientBlock) : Type 0 where
  pub irs : is_established x ≡ true → x.send.irs ≡ iss
  pub counted : length accepted ≡ x.accepted

abbrev pub CountsOn : List ℕ → Option Station → Type 0
CountsOn accepted None = accepted ≡ []
CountsOn accepted (Some s) = CountsFrom s.iss accepted s.client

abbrev pub CountsTaken : Conn → Type 0
CountsTaken x = CountsOn (tale_at x).accepted x.part.station

-- it stands as its tale tells
abbrev pub StandsAsTold : Conn → Type 0
StandsAsTold x = ClientStands x.c x.part.station (client_tale (tale_at x))
