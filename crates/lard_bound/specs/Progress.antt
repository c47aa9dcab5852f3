-- What a move owes, so that a settle comes to its end: no unit comes back, and where none goes, what comes of a packet is nearer.
use Rattle.std.specs.Prelude.{ℕ, suc, ◌<◌, ◌≤◌, ◌≡◌, ◌⊎◌, true, List, [], ◌∷◌, Option, Some, None, Result, Ok, Err}
use Rattle.lard_law_view.specs.Prelude.{Body, Came, Client, ClientBlock, Conn, FilesAt, Front, Letter, Message, Move, MsgFault, Node, Phase, Place, Row, Said, Seen, SegFault, Setting, Station, ToCluster, decoded, decoded_message, grown, letters_of}
use Rattle.lard_bound.specs.Chains.{chain}
use Rattle.lard_bound.specs.Nears.{Near}
use Rattle.lard_bound.specs.Spots.{Spot, spot_of}
use Rattle.lard_bound.specs.Units.{Whole, units}
use Rattle.lard_client.specs.declared.phase.Phase.TheVariants.{Open, Aborted, Reset}
use Rattle.lard_message.specs.declared.message.Body.TheVariants as body

-- ---- of a connection

abbrev pub spot_with : FilesAt → Conn → Option Station → Option Spot
spot_with files x None = None
spot_with files x (Some s) = Some (spot_of files x.part s)

-- that of a connection whose client opened
abbrev pub spot_at : FilesAt → Conn → Option Spot
spot_at files x = spot_with files x x.part.station

abbrev pub chain_on : Option Spot → ℕ → Letter → ℕ
chain_on None c l = 0
chain_on (Some t) c l = chain t c l

abbrev pub chain_at : FilesAt → Conn → Letter → ℕ
chain_at files x l = chain_on (spot_at files x) x.c l

abbrev pub NearOn : FilesAt → Option Spot → ℕ → ℕ → Letter → Type 0
NearOn files None c d l = ⊥
NearOn files (Some t) c d l = Near files t c d l

abbrev pub NearAt : FilesAt → Conn → ℕ → Letter → Type 0
NearAt files x d l = NearOn files (spot_at files x) x.c d l

-- ---- packets that are on their way behind the first rounds

-- A segment of a client that is open names the window that it has as it holds nothing; one that was aborted only resets.
abbrev pub IsWarmWord : ClientBlock → Said → Phase → Type 0
IsWarmWord x s Open = s.wnd ≡ x.wnd
IsWarmWord x s Aborted = s.flags.rst ≡ true
IsWarmWord x s Reset = Unit {0}

abbrev pub IsWarmSegment : ClientBlock → Result Said SegFault → Type 0
IsWarmSegment x (Err fault) = Unit {0}
IsWarmSegment x (Ok s) = IsWarmWord x s x.phase

abbrev pub IsWarmBody : ClientBlock → Body → Type 0
IsWarmBody x (body.Forward segment) = IsWarmSegment x (decoded segment x.c ToCluster)
IsWarmBody x _ = Unit {0}

abbrev pub IsWarmMessage : ClientBlock → Result Message MsgFault → Type 0
IsWarmMessage x (Err fault) = Unit {0}
IsWarmMessage x (Ok m) = IsWarmBody x m.body

abbrev pub IsWarmBetween : ClientBlock → Place → Place → Letter → Type 0
IsWarmBetween x (Client d) Front l = IsWarmSegment x (decoded l.bytes x.c ToCluster)
IsWarmBetween x Front (Node n) l = IsWarmMessage x (decoded_message l.bytes)
IsWarmBetween x _ _ l = Unit {0}

abbrev pub IsWarmBy : Option Station → Letter → Type 0
IsWarmBy None l = Unit {0}
IsWarmBy (Some s) l = IsWarmBetween s.client l.from l.to l

abbrev pub IsWarm : Conn → Letter → Type 0
IsWarm x l = IsWarmBy x.part.station l

-- the packet that comes with a move
abbrev pub came_in : List Seen → Option Letter
came_in [] = None
came_in (Row r ∷ ss) = came_in ss
came_in (Came l ∷ ss) = Some l

abbrev pub IfCame : (Letter → Type 0) → Option Letter → Type 0
IfCame P None = Unit {0}
IfCame P (Some l) = P l

-- ---- what is owed

abbrev pub Every : {A : Type 0} → (A → Type 0) → List A → Type 0
Every P [] = Unit {0}
Every P (a ∷ as_) = P a × Every P as_

abbrev pub Any : {A : Type 0} → (A → Type 0) → List A → Type 0
Any P [] = ⊥
Any P (a ∷ as_) = P a ⊎ Any P as_

-- a Fetch goes from node to node; whether a job is queued for it is no matter of the connection alone
abbrev pub IsFetch : Letter → Type 0
IsFetch l = (c : ℕ) × (epoch : ℕ) × (r : ℕ) × (path : List ℕ) × (decoded_message l.bytes ≡ Ok (record { c = c; epoch = record { 0 = epoch }; body = body.Fetch r path }))

-- Of each move: no unit comes back, and where none goes, all is as it was that decides what comes of a packet.
pub record Lasts (k : Setting) (w : Whole) (x : Conn) (v : Move) : Type 0 where
  pub less : units w k.nodes (grown x v) ≤ units w k.nodes x
  pub steady : units w k.nodes x ≤ units w k.nodes (grown x v) → spot_at k.files (grown x v) ≡ spot_at k.files x

-- Of a move with which packet l comes, and no unit goes: what it sends has shorter chains, and if l is near, something of that is nearer.
pub record Answers (k : Setting) (w : Whole) (x : Conn) (v : Move) (l : Letter) : Type 0 where
  pub shorter : units w k.nodes x ≤ units w k.nodes (grown x v) → Every (λ a. chain_at k.files (grown x v) a < chain_at k.files x l) (letters_of v)
  pub leads : units w k.nodes x ≤ units w k.nodes (grown x v) → (d : ℕ) → NearAt k.files x (suc d) l → Any (λ a. NearAt k.files (grown x v) d a) (letters_of v) ⊎ IsFetch l
