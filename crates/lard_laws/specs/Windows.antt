-- How far the windows of the cluster reach, and how much of what it sends was sent.
use Rattle.std.specs.Prelude.{◌≡◌, ◌+◌, ◌<◌, ◌≤◌, ℕ, false, List, Option, Some, None, Ok}
use Rattle.lard_law_view.specs.Prelude.{Client, ClientBlock, Conn, ControlBlock, Front, FrontRow, IsControlBlock, Letter, Node, Place, RECEIVE_WINDOW, Said, Speaks, Station, ToClient, decoded, seg_len, seq_offset}
use Rattle.lard_law_connections.specs.SilencePlaces.{FrontHas, NodeHas}
use Rattle.lard_history.proofs.Each.{Each}
use Rattle.lard_law_view.proofs.Acked.{taken_by}

-- ---- segments to the client

-- By the first numbers of the client and of the cluster, where so many symbols were sent: the window ends far enough, and the symbols of
-- the segment were sent.
pub record ReachesFar (isn iss sent : ℕ) (s : Said) : Type 0 where
  pub wide : s.flags.rst ≡ false → RECEIVE_WINDOW ≤ seq_offset s.ack isn + s.wnd
  pub ends : s.flags.rst ≡ false → 0 < seg_len s → seq_offset s.seq iss + seg_len s ≤ sent

abbrev pub BytesReach : ℕ → ℕ → ℕ → ℕ → List ℕ → Type 0
BytesReach c isn iss sent bytes = (s : Said) → decoded bytes c ToClient ≡ Ok s → ReachesFar isn iss sent s

abbrev pub LetterReachesOn : ℕ → ℕ → ℕ → ℕ → Place → Place → List ℕ → Type 0
LetterReachesOn c isn iss sent Front (Client d) bytes = BytesReach c isn iss sent bytes
LetterReachesOn c isn iss sent (Node n) (Client d) bytes = BytesReach c isn iss sent bytes
LetterReachesOn c isn iss sent _ _ bytes = Unit {0}

abbrev pub LetterReaches : ℕ → ℕ → ℕ → ℕ → Letter → Type 0
LetterReaches c isn iss sent l = LetterReachesOn c isn iss sent l.from l.to l.bytes

-- ---- endpoints

-- an endpoint of this connection, which keeps what is not acknowledged of some bytes
pub record IsEnd (isn iss : ℕ) (b : ControlBlock) : Type 0 where
  pub sound : IsControlBlock b
  pub irs_is : b.recv.irs ≡ isn
  pub iss_is : b.send.iss ≡ iss
  pub bytes : List ℕ
  pub speaks : Speaks b.send bytes

-- its client took no more symbols than so many that were sent, and no segment has more
pub record SymbolsWereSent (c : ℕ) (x : ClientBlock) (iss : ℕ) (letters : List Letter) (sent : ℕ) : Type 0 where
  pub taken : taken_by x ≤ sent
  pub all : Each (LetterReaches c x.send.iss iss sent) letters

abbrev pub EndSent : ℕ → ClientBlock → ℕ → List Letter → ControlBlock → Type 0
EndSent c x iss letters b = IsEnd x.send.iss iss b × SymbolsWereSent c x iss letters b.send.nxt

-- before the front end has it, nothing was sent
abbrev pub FrontSent : ℕ → ClientBlock → ℕ → List Letter → Option FrontRow → Type 0
FrontSent c x iss letters None = SymbolsWereSent c x iss letters 0
FrontSent c x iss letters (Some row) = Unit {0}

-- ---- the client

-- what it knows of the cluster's window, once it is established; before that it took nothing
pub record ClientReaches (x : ClientBlock) : Type 0 where
  pub wide : 0 < x.send.una → RECEIVE_WINDOW ≤ x.send.una + x.send.wnd
  pub fresh : x.send.una ≡ 0 → (x.accepted ≡ 0) × (x.eof ≡ false)

-- an endpoint that a node has without a stay is none
abbrev pub AnyBlock : ControlBlock → Type 0
AnyBlock b = Unit {0}

-- Of a connection whose client opened: its client, all segments to it, and wherever its endpoint is.
pub record StationReaches (x : Conn) (s : Station) : Type 0 where
  pub client : ClientReaches s.client
  pub most : ℕ
  pub letters : Each (LetterReaches x.c s.client.send.iss s.iss most) x.letters
  pub begins : FrontSent x.c s.client s.iss x.letters x.part.front.row
  pub front : FrontHas (EndSent x.c s.client s.iss x.letters) x.part.front.row
  pub nodes : (n : ℕ) → NodeHas (EndSent x.c s.client s.iss x.letters) AnyBlock (x.part.nodes n)

abbrev pub ReachesOn : Conn → Option Station → Type 0
ReachesOn x None = Unit {0}
ReachesOn x (Some s) = StationReaches x s

abbrev pub IsReaching : Conn → Type 0
IsReaching x = ReachesOn x x.part.station
