-- What an endpoint and a client have said between two steps: all that they may.
use Rattle.std.specs.Prelude.{◌≡◌, ◌+◌, ◌≤◌, ℕ, false, List, Option, Some, None}
use Rattle.lard_law_view.specs.Prelude.{ClientBlock, Conn, ControlBlock, IsControlBlock, Part, RECEIVE_WINDOW, Speaks, Station, emitted, may_end}
use Rattle.lard_client.specs.Leaving as client
use Rattle.lard_law_connections.specs.SilencePlaces.{FrontHas, NodeHas}

-- It goes on. The window that it told last ends no sooner than the first one did.
pub record HasSpoken (b : ControlBlock) : Type 0 where
  pub sound : IsControlBlock b
  pub stays : may_end b ≡ false
  pub not_reset : b.reset ≡ false
  pub none : emitted b ≡ None
  pub told : RECEIVE_WINDOW ≤ b.last_window + b.recv.got

-- It keeps what is not acknowledged of bytes that it was given.
pub record ClientHasSpoken (x : ClientBlock) : Type 0 where
  pub bytes : List ℕ
  pub speaks : Speaks x.send bytes
  pub none : client.client_emitted x ≡ None
  pub nothing_held : x.holding ≡ false → x.held ≡ 0

abbrev pub StationHasSpoken : Option Station → Type 0
StationHasSpoken None = Unit {0}
StationHasSpoken (Some s) = ClientHasSpoken s.client

-- the client, and wherever an endpoint of the connection is
pub record PartHasSpoken (p : Part) : Type 0 where
  pub client : StationHasSpoken p.station
  pub front : FrontHas HasSpoken p.front.row
  pub nodes : (n : ℕ) → NodeHas HasSpoken HasSpoken (p.nodes n)

abbrev pub AllHaveSpoken : Conn → Type 0
AllHaveSpoken x = PartHasSpoken x.part
