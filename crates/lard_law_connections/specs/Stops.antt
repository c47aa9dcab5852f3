-- Why a place of the cluster reads no further on a connection that it has, between any two steps.
use Rattle.std.specs.Prelude.{◌≡◌, ◌⊎◌, ℕ, Bool, true, false, List, [], ◌∷◌, take, drop, Option, Some, None}
use Rattle.lard_law_view.specs.Prelude.{BackConn, BackRow, Conn, ControlBlock, Entry, FilesAt, FrontConn, FrontRow, HasStopped, NodePart, Stay, cut_of, good_path, may_freeze, next_by, verdict}
use Rattle.lard_block.specs.declared.block.Found.TheVariants.{Block}
use Rattle.lard_handoff_back.specs.declared.row.BackConn.TheVariants as back
use Rattle.lard_handoff_front.specs.declared.row.FrontConn.TheVariants as stage
use Rattle.lard_rules.specs.declared.stay.Next.TheVariants.{Stop}

-- ---- at the front end

-- the next block is whole, and asks for a file
pub record NextIsGood (files : FilesAt) (b : ControlBlock) : Type 0 where
  pub skip : ℕ
  pub len : ℕ
  pub path : List ℕ
  pub found : cut_of b.recv.unread ≡ Block skip len
  pub good : good_path files (verdict (take len (drop skip b.recv.unread))) ≡ Some path

-- it is not placed yet, since the endpoint may not move while something is not acknowledged
abbrev pub IsHeldBack : FilesAt → ControlBlock → Type 0
IsHeldBack files b = NextIsGood files b × (b.send.finished ≡ false) × (may_freeze b ≡ false)

-- What is held was not reset, and no request is left to be read, or the next one is held back.
abbrev pub HeldStops : FilesAt → ControlBlock → Type 0
HeldStops files b = (b.reset ≡ false) × (HasStopped b ⊎ IsHeldBack files b)

abbrev pub FrontStageStops : FilesAt → FrontConn → Type 0
FrontStageStops files (stage.Held b) = HeldStops files b
FrontStageStops files _ = Unit {0}

abbrev pub FrontStops : FilesAt → Option FrontRow → Type 0
FrontStops files None = Unit {0}
FrontStops files (Some row) = FrontStageStops files row.stage

-- ---- at a node

-- the first request of the batch is not ready
abbrev pub FirstIsAwaited : List Entry → Type 0
FirstIsAwaited [] = ⊥
FirstIsAwaited (e ∷ es) = next_by e.progress ≡ Stop

-- Why a node reads no batch: no request is left to be read, or the node leaves, and may not give the connection back yet.
abbrev pub ReadsNone : Bool → ControlBlock → Type 0
ReadsNone false b = HasStopped b
ReadsNone true b = may_freeze b ≡ false

-- At a node that leaves, or stays, the endpoint was not reset. While it goes on, the first of the batch is awaited, or there is none and
-- the node reads none. Behind its FIN there is none, unless what comes is discarded.
pub record StayStopsBy (leaving : Bool) (b : ControlBlock) (batch : List Entry) : Type 0 where
  pub not_reset : b.reset ≡ false
  pub open_ : b.send.finished ≡ false → FirstIsAwaited batch ⊎ (ReadsNone leaving b × (batch ≡ []))
  pub closed : b.send.finished ≡ true → HasStopped b × (b.recv.discarding ≡ false → batch ≡ [])

abbrev pub HereRests : Bool → ControlBlock → Option Stay → Type 0
HereRests leaving b None = Unit {0}
HereRests leaving b (Some s) = StayStopsBy leaving b s.batch

abbrev pub BackStageRests : Bool → BackConn → Option Stay → Type 0
BackStageRests leaving (back.Here b) o = HereRests leaving b o
BackStageRests leaving _ o = Unit {0}

abbrev pub RowRests : Bool → Option BackRow → Option Stay → Type 0
RowRests leaving None o = Unit {0}
RowRests leaving (Some row) o = BackStageRests leaving row.stage o

abbrev pub NodeRests : Bool → NodePart → Type 0
NodeRests leaving p = RowRests leaving p.row p.stay

-- the same of a node that stays
abbrev pub StayStops : ControlBlock → List Entry → Type 0
StayStops b batch = StayStopsBy false b batch

abbrev pub BackStageStops : BackConn → Option Stay → Type 0
BackStageStops d o = BackStageRests false d o

abbrev pub RowStops : Option BackRow → Option Stay → Type 0
RowStops row o = RowRests false row o

abbrev pub NodeStops : NodePart → Type 0
NodeStops p = NodeRests false p

-- ---- one connection

-- wherever it is, reading has stopped for a reason, where these nodes leave
abbrev pub ReadingStopsBy : (ℕ → Bool) → FilesAt → Conn → Type 0
ReadingStopsBy leaving files x = FrontStops files x.part.front.row × ((n : ℕ) → NodeRests (leaving n) (x.part.nodes n))

-- and where none does
abbrev pub ReadingStops : FilesAt → Conn → Type 0
ReadingStops files x = ReadingStopsBy (λ n. false) files x
