-- Where RST is sent to a client: in words of the journal, and what holds of one connection between any two steps.
use Rattle.std.specs.Prelude.{◌≡◌, ℕ, Bool, true, List, [], Option, Some, None, Ok}
use Rattle.lard_law_view.specs.Prelude.{Body, Client, Config, Conn, EachMay, Front, FrontConn, FrontRow, IsReached, Letter, Machine, Message, Node, OfEach, Place, Reason, Rec, Said, ToClient, decoded, decoded_message, tale_at, was_reset}
use Rattle.lard_base.specs.declared.place.Reason.TheVariants.{Limit}
use Rattle.lard_handoff_front.specs.declared.row.FrontConn.TheVariants as stage
use Rattle.lard_history.proofs.Each.{Each}
use Rattle.lard_journal.specs.declared.rec.Rec.TheVariants as rec
use Rattle.lard_message.specs.declared.message.Body.TheVariants as body

-- ---- the law

-- the bytes are a segment with RST to client c only where its connection was reset
abbrev pub HasRstOnly : Bool → ℕ → List ℕ → Type 0
HasRstOnly was c bytes = (s : Said) → decoded bytes c ToClient ≡ Ok s → s.flags.rst ≡ true → was ≡ true

-- what a place of the cluster may send to client c
abbrev pub ResetsOnly : List Rec → Place → Place → List ℕ → Type 0
ResetsOnly past Front (Client c) bytes = HasRstOnly (was_reset past c) c bytes
ResetsOnly past (Node n) (Client c) bytes = HasRstOnly (was_reset past c) c bytes
ResetsOnly past _ _ bytes = Unit {0}

abbrev pub MaySendRst : List Rec → Rec → Type 0
MaySendRst past (rec.Sent k from to bytes) = ResetsOnly past from to bytes
MaySendRst past _ = Unit {0}

-- A place of the cluster sends a segment with RST to a client only behind the record that the stream limit reset its connection.
abbrev pub SendsRstBehindResets : List Rec → Type 0
SendsRstBehindResets J = EachMay MaySendRst [] J

-- ---- one connection

-- it ended for the stream limit only where it was reset
abbrev pub EndsAfter : Bool → Reason → Type 0
EndsAfter was why = why ≡ Limit → was ≡ true

abbrev pub StageEndsBehind : Bool → FrontConn → Type 0
StageEndsBehind was (stage.Closed last) = EndsAfter was last.reason
StageEndsBehind was _ = Unit {0}

abbrev pub RowEndsBehind : Bool → Option FrontRow → Type 0
RowEndsBehind was None = Unit {0}
RowEndsBehind was (Some row) = StageEndsBehind was row.stage

abbrev pub BodyEndsBehind : Bool → Body → Type 0
BodyEndsBehind was (body.Ended why snd rcv count) = EndsAfter was why
BodyEndsBehind was _ = Unit {0}

-- what a node told the front end
abbrev pub SaysEndsBehind : Bool → Place → Place → List ℕ → Type 0
SaysEndsBehind was (Node n) Front bytes = (m : Message) → decoded_message bytes ≡ Ok m → BodyEndsBehind was m.body
SaysEndsBehind was _ _ bytes = Unit {0}

abbrev pub LetterEndsBehind : Bool → Letter → Type 0
LetterEndsBehind was l = SaysEndsBehind was l.from l.to l.bytes

-- Where the front end keeps that the stream limit ended the connection, and wherever an Ended says so, it was reset.
pub record EndsBehindResets (x : Conn) : Type 0 where
  pub front : RowEndsBehind (tale_at x).was_reset x.part.front.row
  pub letters : Each (LetterEndsBehind (tale_at x).was_reset) x.letters

-- ---- every run

abbrev pub EndsFollowResets : Type 0
EndsFollowResets = (config : Config) (files : List (List ℕ × List ℕ)) → OfEach config files EndsBehindResets

abbrev pub RstFollowsResets : Type 0
RstFollowsResets = (config : Config) (files : List (List ℕ × List ℕ)) (m : Machine) → IsReached config files m → SendsRstBehindResets m.journal
