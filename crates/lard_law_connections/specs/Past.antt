-- Where the front end has a connection, which nodes decided it, and what is so of both: it goes to a node that is new to it.
use Rattle.std.specs.Prelude.{◌≡◌, ◌⊎◌, ℕ, Option, Some, None}
use Rattle.lard_law_view.specs.Prelude.{BackConn, BackRow, Conn, Epoch, FrontConn, FrontRow, NodePart}
use Rattle.lard_handoff_back.specs.declared.row.BackConn.TheVariants as back
use Rattle.lard_handoff_front.specs.declared.row.FrontConn.TheVariants as stage

-- ---- where it is

-- Here, or nobody has it yet; at this node, or on its way there, in this epoch; or over, by the end of the stay in this epoch, if of any.
pub data Whereabouts : Type 0 where
  AtFront : Whereabouts
  AtNode : ℕ → ℕ → Whereabouts
  Over : Option Epoch → Whereabouts

abbrev pub stage_whereabouts : Option Epoch → FrontConn → Whereabouts
stage_whereabouts by (stage.Held b) = AtFront
stage_whereabouts by (stage.Waiting b) = AtFront
stage_whereabouts by stage.Lent = AtFront
stage_whereabouts by (stage.Offering n e) = AtNode n e.0
stage_whereabouts by (stage.Moved n e) = AtNode n e.0
stage_whereabouts by (stage.Closed last) = Over by

abbrev pub whereabouts : Option FrontRow → Whereabouts
whereabouts None = AtFront
whereabouts (Some row) = stage_whereabouts row.ended_by row.stage

abbrev pub whereabouts_of : Conn → Whereabouts
whereabouts_of x = whereabouts x.part.front.row

-- ---- what a node decided

-- the node decided it, in whatever epoch
abbrev pub HasDecided : Option BackRow → Type 0
HasDecided None = ⊥
HasDecided (Some row) = Unit {0}

-- in this epoch
abbrev pub DecidedIn : ℕ → Option BackRow → Type 0
DecidedIn e None = ⊥
DecidedIn e (Some row) = row.epoch.0 ≡ e

-- in this epoch, or not at all
abbrev pub IsNewTo : ℕ → Option BackRow → Type 0
IsNewTo e None = Unit {0}
IsNewTo e (Some row) = row.epoch.0 ≡ e

-- An epoch is of one node: no two decided the connection in the same one.
abbrev pub EpochsAreOfOneNode : Conn → Type 0
EpochsAreOfOneNode x = (n m e : ℕ) → DecidedIn e (x.part.nodes n).row → DecidedIn e (x.part.nodes m).row → n ≡ m

-- ---- where it goes

abbrev pub NewAt : (ℕ → NodePart) → Whereabouts → Type 0
NewAt nodes (AtNode n e) = IsNewTo e (nodes n).row
NewAt nodes _ = Unit {0}

-- The node where it is, or to which it is on its way, knows nothing of it, or decided just this epoch.
abbrev pub GoesToNew : Conn → Type 0
GoesToNew x = NewAt x.part.nodes (whereabouts_of x)

-- it is at node n, on its way there, or over
abbrev pub IsAtOrOver : ℕ → Whereabouts → Type 0
IsAtOrOver n AtFront = ⊥
IsAtOrOver n (AtNode m e) = m ≡ n
IsAtOrOver n (Over by) = Unit {0}

-- A node that decided it is closed, but where the connection is there, on its way there, or over.
abbrev pub ClosesBehind : (ℕ → Type 0) → Conn → Type 0
ClosesBehind closed x = (n : ℕ) → HasDecided (x.part.nodes n).row → IsAtOrOver n (whereabouts_of x) ⊎ closed n

-- ---- ends of stays

-- the stay at node n in this epoch is where the connection is, or closed it
abbrev pub IsOfStay : ℕ → ℕ → Whereabouts → Type 0
IsOfStay n e AtFront = ⊥
IsOfStay n e (AtNode m d) = (m ≡ n) × (d ≡ e)
IsOfStay n e (Over by) = by ≡ Some (record { 0 = e })

abbrev pub StageTells : ℕ → ℕ → BackConn → Whereabouts → Type 0
StageTells n e back.Ended at = IsOfStay n e at
StageTells n e _ at = Unit {0}

abbrev pub RowTells : ℕ → Option BackRow → Whereabouts → Type 0
RowTells n None at = Unit {0}
RowTells n (Some row) at = StageTells n row.epoch.0 row.stage at

-- A node tells the end of a stay only where the connection is there in its epoch, or was closed by that end.
abbrev pub EndsAreOfStays : Conn → Type 0
EndsAreOfStays x = (n : ℕ) → RowTells n (x.part.nodes n).row (whereabouts_of x)
