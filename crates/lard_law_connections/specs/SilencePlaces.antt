-- What is so of an endpoint, wherever the front end or a node has it.
use Rattle.std.specs.Prelude.{Option, Some, None}
use Rattle.lard_law_view.specs.Prelude.{BackConn, BackRow, ControlBlock, FrontConn, FrontRow, NodePart, Stay}
use Rattle.lard_handoff_back.specs.declared.row.BackConn.TheVariants as back
use Rattle.lard_handoff_front.specs.declared.row.FrontConn.TheVariants as stage

-- ---- at the front end

abbrev pub FrontStageHas : (ControlBlock → Type 0) → FrontConn → Type 0
FrontStageHas P (stage.Held b) = P b
FrontStageHas P (stage.Waiting b) = P b
FrontStageHas P _ = Unit {0}

abbrev pub FrontHas : (ControlBlock → Type 0) → Option FrontRow → Type 0
FrontHas P None = Unit {0}
FrontHas P (Some row) = FrontStageHas P row.stage

-- of one that the front end knows
abbrev pub KnownHas : (ControlBlock → Type 0) → Option FrontRow → Type 0
KnownHas P None = ⊥
KnownHas P (Some row) = FrontStageHas P row.stage

-- ---- at a node: P is so of an endpoint with a stay, and Q of one without

abbrev pub HereHas : (ControlBlock → Type 0) → (ControlBlock → Type 0) → ControlBlock → Option Stay → Type 0
HereHas P Q b None = Q b
HereHas P Q b (Some s) = P b

abbrev pub BackStageHas : (ControlBlock → Type 0) → (ControlBlock → Type 0) → BackConn → Option Stay → Type 0
BackStageHas P Q (back.Here b) o = HereHas P Q b o
BackStageHas P Q _ o = Unit {0}

abbrev pub BackHas : (ControlBlock → Type 0) → (ControlBlock → Type 0) → Option BackRow → Option Stay → Type 0
BackHas P Q None o = Unit {0}
BackHas P Q (Some row) o = BackStageHas P Q row.stage o

abbrev pub NodeHas : (ControlBlock → Type 0) → (ControlBlock → Type 0) → NodePart → Type 0
NodeHas P Q p = BackHas P Q p.row p.stay
