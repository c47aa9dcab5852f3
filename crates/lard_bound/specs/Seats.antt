-- Where a connection is, by what the front end and the nodes keep of it, as far as settling asks.
use Rattle.std.specs.Prelude.{ℕ, ◌==◌, Bool, true, false, if◌then◌else◌, List, [], Option, Some, None, is_some}
use Rattle.lard_law_view.specs.Prelude.{BackConn, BackRow, ControlBlock, Final, FrontConn, FrontPart, FrontRow, Kept, NodePart, Part, Stay, front_rest}
use Rattle.lard_handoff_back.specs.declared.row.BackConn.TheVariants as back
use Rattle.lard_handoff_back.specs.Leaving.{is_this_epoch}
use Rattle.lard_handoff_front.specs.declared.row.FrontConn.TheVariants as stage

-- what a node has of a connection that is here: what was read of it, the Ask that awaits its answer, and the Fetches whose contents
-- are awaited
pub record Staying : Type 0 where
  pub stay : Stay
  pub kept : List Kept
  pub fetches : List Kept

-- Who has the endpoint. The flag is whether the front end knows that its Offer was taken.
pub data SeatNow : Type 0 where
  Unborn : SeatNow  -- no SYN came
  Held : ControlBlock → ℕ → SeatNow  -- the front end, which queued so many responses
  Waiting : ControlBlock → ℕ → SeatNow  -- the same, and the connection is in the line
  Offered : ℕ → ℕ → ℕ → SeatNow  -- nobody: it is in an Offer to a node, in an epoch, after so many responses
  Refused : ℕ → ℕ → ℕ → SeatNow  -- nobody: the node refused it in this epoch, and the front end has that Offer still, after so many responses
  Here : Bool → ℕ → ℕ → ControlBlock → Staying → SeatNow  -- a node has it, in an epoch
  Gone : Bool → ℕ → ℕ → SeatNow  -- nobody: the node tells the front end how it ended
  Returned : Bool → ℕ → ℕ → ℕ → SeatNow  -- nobody: the node gives it back, after so many responses
  Over : Final → SeatNow  -- nobody: the front end has its last numbers

-- a stay of which nothing was read
abbrev pub no_stay : Stay
no_stay = record { served = 0; batch = []; asks = 0 }

abbrev pub stay_of : Option Stay → Stay
stay_of None = no_stay
stay_of (Some s) = s

abbrev pub staying_of : NodePart → Staying
staying_of p = record { stay = stay_of p.stay; kept = p.kept; fetches = p.fetches }

-- a stay that is over: it ended, or was given back
abbrev pub seat_over_by : Bool → ℕ → ℕ → Option ℕ → SeatNow
seat_over_by told n e None = Gone told n e
seat_over_by told n e (Some served) = Returned told n e served

abbrev pub seat_over : Bool → ℕ → ℕ → NodePart → SeatNow
seat_over told n e p = seat_over_by told n e p.beside.returned

-- what the node has decided of the epoch in which the connection was offered to it
abbrev pub seat_there : Bool → ℕ → ℕ → ℕ → NodePart → BackConn → SeatNow
seat_there told n e count p (back.Here b) = Here told n e b (staying_of p)
seat_there told n e count p back.Out = Offered n e count
seat_there told n e count p back.Ended = seat_over told n e p
seat_there told n e count p back.Gone = seat_over told n e p

-- the node did not take it in this epoch: it refused, or its answer is awaited
abbrev pub seat_untaken : ℕ → ℕ → ℕ → NodePart → SeatNow
seat_untaken n e count p = if is_this_epoch e p.beside.refused then Refused n e count else Offered n e count

abbrev pub seat_decided : Bool → ℕ → ℕ → ℕ → NodePart → Option BackRow → SeatNow
seat_decided told n e count p None = seat_untaken n e count p
seat_decided told n e count p (Some row) = if row.epoch.0 == e then seat_there told n e count p row.stage else seat_untaken n e count p

abbrev pub seat_away : Bool → ℕ → ℕ → ℕ → NodePart → SeatNow
seat_away told n e count p = seat_decided told n e count p p.row

abbrev pub seat_in : FrontPart → (ℕ → NodePart) → FrontConn → SeatNow
seat_in f nodes (stage.Held b) = Held b (front_rest f.rest).count
seat_in f nodes (stage.Waiting b) = Waiting b (front_rest f.rest).count
seat_in f nodes stage.Lent = Unborn
seat_in f nodes (stage.Offering n e) = seat_away false n e.0 (front_rest f.rest).count (nodes n)
seat_in f nodes (stage.Moved n e) = seat_away true n e.0 (front_rest f.rest).count (nodes n)
seat_in f nodes (stage.Closed last) = Over last

abbrev pub seat_by : FrontPart → (ℕ → NodePart) → Option FrontRow → SeatNow
seat_by f nodes None = Unborn
seat_by f nodes (Some row) = seat_in f nodes row.stage

unfoldable pub seat_of : Part → SeatNow
seat_of p = seat_by p.front p.nodes p.front.row

-- a node tells the front end in this epoch that its stay is over until that is acknowledged
abbrev pub telling : BackConn → ℕ → Option ℕ
telling back.Ended e = Some e
telling _ e = None

abbrev pub tells_end : Option BackRow → Option ℕ
tells_end None = None
tells_end (Some row) = telling row.stage row.epoch.0

-- the same, and whether it goes back
abbrev pub telling_by : Option ℕ → Option ℕ → Option (ℕ × Bool)
telling_by None served = None
telling_by (Some e) served = Some (e, is_some served)

abbrev pub tells_over : NodePart → Option (ℕ × Bool)
tells_over p = telling_by (tells_end p.row) p.beside.returned
