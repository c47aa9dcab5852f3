-- What the code of the front end relies on between two steps.
use Rattle.std.specs.Prelude.{◌≡◌, ℕ, ◌+◌, ◌*◌, ◌<◌, ◌≤◌, Bool, true, false, not, nat_eq, List, [], length, Option, Some, None, Result, Ok, Err}
use Rattle.std.specs.FinMap as table
use Rattle.std.specs.List.{filter}
use Rattle.lard_base.specs.declared.limits.TheConstants.{MAX_STREAM_BYTES}
use Rattle.lard_base.specs.declared.place.TimerKind.TheVariants as kind
use Rattle.lard_dispatch.specs.declared.dispatch.Ask.{Ask}
use Rattle.lard_dispatch.specs.Books.{Books, Dispatcher}
use Rattle.lard_dispatch.specs.Line.{line_waits}
use Rattle.lard_dispatch.specs.Sets.{set_of}
use Rattle.lard_dispatch.specs.Sound.{IsDispatcherSound}
use Rattle.lard_endpoint.specs.Control.{ControlBlock}
use Rattle.lard_endpoint.specs.Moving.{may_freeze}
use Rattle.lard_rules.specs.declared.front.FrontIn.{FrontIn}
use Rattle.lard_rules.specs.declared.front.FrontIn.TheVariants as input
use Rattle.lard_rules.specs.declared.front.FrontRest.{FrontRest}
use Rattle.lard_rules.specs.declared.front.FrontState.{FrontState}
use Rattle.lard_rules.specs.Front.{FrontPart}
use Rattle.lard_rules.specs.FrontPlace.{front_part}
use Rattle.lard_handoff_front.specs.declared.row.FrontConn.{FrontConn}
use Rattle.lard_handoff_front.specs.declared.row.FrontConn.TheVariants as stage
use Rattle.lard_handoff_front.specs.declared.row.FrontRow.{FrontRow}
use Rattle.lard_loads.specs.Tally.{has_other_open, home}
use Rattle.lard_message.specs.declared.fault.MsgFault.{MsgFault}
use Rattle.lard_message.specs.declared.message.Body.{Body}
use Rattle.lard_message.specs.declared.message.Body.TheVariants as body
use Rattle.lard_message.specs.declared.message.Message.{Message}
use Rattle.lard_message.specs.Reading.{decoded_message}
use Rattle.lard_policy.specs.Laws.{AreOpen}
use Rattle.lard_recv.specs.Recv.{Received}
use Rattle.lard_resend.specs.declared.kept.Kept.{Kept}
use Rattle.lard_resend.specs.Kept.{without}
use Rattle.lard_send.specs.Send.{Sending, symbols}

-- Where the dispatcher has a connection: the node that it is admitted at, and whether it waits in the line.
pub record DispatchStanding : Type 0 where
  pub home : Option ℕ
  pub waits : Bool

abbrev pub dispatch_standing : Dispatcher → ℕ → DispatchStanding
dispatch_standing d c = record { home = home d.books.loads c; waits = line_waits d.books.line c }

-- neither admitted nor in the line
abbrev pub nowhere : DispatchStanding
nowhere = record { home = None; waits = false }

-- Each response that was queued was asked for by a byte that was read, of which there are at most 2^30; and no symbol was sent that is
-- none.
pub record Serves (count : ℕ) (r : Received) (s : Sending) : Type 0 where
  pub asked : count + length r.unread ≤ r.got
  pub most : r.got ≤ MAX_STREAM_BYTES
  pub sent : s.nxt ≤ symbols s

-- How many nodes there are, and which of them are open.
pub record OpenNodes : Type 0 where
  pub all : ℕ
  pub left_open : List ℕ

abbrev pub open_nodes_of : Dispatcher → OpenNodes
open_nodes_of d = record { all = d.config.nodes; left_open = d.books.loads.open_nodes }

-- those that are open still once n is closed
abbrev pub others_open : ℕ → List ℕ → List ℕ
others_open n = filter (λ m. not (nat_eq m n))

-- How late an epoch is at most. A connection goes to an open node, which is closed where it comes back from there: so while it is here it
-- took two for each node that is closed, after the first. On its way to a node and there its epoch is the next, and that node counts as
-- closed. No node is left for one that is over.
abbrev pub IsEarlyHere : OpenNodes → ℕ → Type 0
IsEarlyHere k e = e + 2 * length k.left_open ≤ 2 * k.all + 1

abbrev pub IsEarlyAway : OpenNodes → ℕ → ℕ → Type 0
IsEarlyAway k n e = e + 2 * length (others_open n k.left_open) ≤ 2 * k.all

abbrev pub IsEarlyOver : OpenNodes → ℕ → Type 0
IsEarlyOver k e = e ≤ 2 * k.all + 1

-- An endpoint that is here is so in an early epoch, and serves what was asked for.
pub record IsHere (k : OpenNodes) (epoch : ℕ) (b : ControlBlock) (rest : FrontRest) : Type 0 where
  pub early : IsEarlyHere k epoch
  pub serves : Serves rest.count b.recv b.send

abbrev pub IsHereWith : OpenNodes → ℕ → ControlBlock → Option FrontRest → Type 0
IsHereWith k epoch b None = ⊥
IsHereWith k epoch b (Some rest) = IsHere k epoch b rest

-- the path with which a connection waits
abbrev pub HasTarget : Option FrontRest → Type 0
HasTarget None = ⊥
HasTarget (Some rest) = elim rest.target [ None ↦ ⊥ | Some path ↦ Unit {0} ]

-- A connection that is away is admitted at the node where it is or to which it goes, and nothing but its Offer is kept.
pub record IsAwayAt (k : OpenNodes) (epoch : ℕ) (kept : List Kept) (at : DispatchStanding) (node : ℕ) : Type 0 where
  pub stands : at ≡ record { home = Some node; waits = false }
  pub early : IsEarlyAway k node epoch
  pub offer : without kind.Offer 0 kept ≡ []

-- It is in the line while it waits.
abbrev pub IsStageSound : OpenNodes → ℕ → Option FrontRest → List Kept → DispatchStanding → FrontConn → Type 0
IsStageSound k epoch rest kept at (stage.Held b) = IsHereWith k epoch b rest × (kept ≡ []) × (at ≡ nowhere)
IsStageSound k epoch rest kept at (stage.Waiting b) =
    IsHereWith k epoch b rest × (kept ≡ []) × (at ≡ record { home = None; waits = true }) × (may_freeze b ≡ true) × HasTarget rest
IsStageSound k epoch rest kept at stage.Lent = ⊥
IsStageSound k epoch rest kept at (stage.Offering node e) = IsAwayAt k epoch kept at node
IsStageSound k epoch rest kept at (stage.Moved node e) = IsAwayAt k epoch kept at node
IsStageSound k epoch rest kept at (stage.Closed last) = IsEarlyOver k epoch × (at ≡ nowhere)

abbrev pub IsRowSound : OpenNodes → Option FrontRest → List Kept → DispatchStanding → Option FrontRow → Type 0
IsRowSound k rest kept at None = (kept ≡ []) × (at ≡ nowhere)
IsRowSound k rest kept at (Some row) = IsStageSound k row.epoch.0 rest kept at row.stage

abbrev pub IsPartSound : OpenNodes → FrontPart → DispatchStanding → Type 0
IsPartSound k p at = IsRowSound k p.rest p.kept at p.row

-- A connection that waits, with all that is kept of it.
pub record Waits (k : OpenNodes) (p : FrontPart) : Type 0 where
  pub row : FrontRow
  pub block : ControlBlock
  pub rest : FrontRest
  pub path : List ℕ
  pub found : p.row ≡ Some row
  pub stage : row.stage ≡ stage.Waiting block
  pub found_rest : p.rest ≡ Some rest
  pub target : rest.target ≡ Some path
  pub here : IsHere k row.epoch.0 block rest
  pub none_kept : p.kept ≡ []
  pub may : may_freeze block ≡ true

-- an Ask as its message says it: a batch has at most eight requests, and one to all of them are to be assigned
pub record IsAsk (a : Ask) : Type 0 where
  pub some : 1 ≤ length a.paths
  pub within : length a.paths ≤ a.size
  pub few : a.size ≤ 8

-- the Tag of the last Ask, where there was one, names one to eight nodes
abbrev pub HasTag : Option FrontRest → Type 0
HasTag None = Unit {0}
HasTag (Some rest) = 0 < rest.asks → (1 ≤ length rest.tag) × (length rest.tag ≤ 8)

-- Where a node is to be closed, another one is open: where that is asked for, and where it gives a connection back or refuses one.
abbrev pub HasOther : FrontState → ℕ → Type 0
HasOther s n = has_other_open s.dispatch.books.loads n ≡ true

abbrev pub MayCloseBy : FrontState → ℕ → Body → Type 0
MayCloseBy s n body.Refused = HasOther s n
MayCloseBy s n (body.Give parts) = HasOther s n
MayCloseBy s n _ = Unit {0}

abbrev pub MayCloseOn : FrontState → ℕ → Result Message MsgFault → Type 0
MayCloseOn s n (Err fault) = Unit {0}
MayCloseOn s n (Ok m) = MayCloseBy s n m.body

abbrev pub MayClose : FrontState → FrontIn → Type 0
MayClose s (input.Drain n) = HasOther s n
MayClose s (input.Message n bytes) = MayCloseOn s n (decoded_message bytes)
MayClose s _ = Unit {0}

-- all that serve a target are open
abbrev pub AreServedByOpen : Books → Type 0
AreServedByOpen b = (target : List ℕ) → AreOpen b.loads (set_of b.sets target).members

-- This holds of each connection, an empty list is not kept, and the books add up. No more nodes are open than there are, and open ones
-- alone serve.
pub record IsFrontSound (s : FrontState) : Type 0 where
  pub each : (c : ℕ) → IsPartSound (open_nodes_of s.dispatch) (front_part s c) (dispatch_standing s.dispatch c)
  pub tags : (c : ℕ) → HasTag (table.get s.rests c)
  pub some : (c : ℕ) → table.get s.kept c ≡ Some [] → ⊥
  pub books : IsDispatcherSound s.dispatch
  pub few_open : length s.dispatch.books.loads.open_nodes ≤ s.dispatch.config.nodes
  pub served : AreServedByOpen s.dispatch.books
