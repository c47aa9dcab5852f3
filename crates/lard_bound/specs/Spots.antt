-- What of a connection decides how much comes of a packet: it changes only where a unit goes.
use Rattle.std.specs.Prelude.{ℕ, Bool, List, length, Option}
use Rattle.lard_law_view.specs.Prelude.{ClientBlock, ControlBlock, FilesAt, Final, Kept, Part, Phase, Station, named_paths, rcv_nxt, symbols}
use Rattle.lard_bound.specs.Seats.{Gone, Held, Here, Offered, Over, Refused, Returned, SeatNow, Staying, Unborn, Waiting, seat_of, tells_over}
use Rattle.lard_bound.specs.Units.{symbols_taken}
use Rattle.lard_client.specs.declared.phase.Phase.TheVariants as phase

-- Of an endpoint: how many of its symbols are acknowledged, how many it has, and, where its client was aborted, the number that it
-- awaits.
pub record EndpointSymbols : Type 0 where
  pub una : ℕ
  pub symbols : ℕ
  pub awaited : ℕ

-- Of a stay: the number of its last Ask, how many requests of its batch have no node yet, the Ask and the Fetches that await an answer.
pub record Awaits : Type 0 where
  pub asks : ℕ
  pub named : ℕ
  pub kept : List Kept
  pub fetches : List Kept

pub data Post : Type 0 where
  Nowhere : Post
  AtFront : EndpointSymbols → Post
  InLine : Post
  OnOffer : ℕ → ℕ → Post
  Declined : ℕ → ℕ → Post
  AtNode : Bool → ℕ → ℕ → EndpointSymbols → Awaits → Post
  Left : Bool → ℕ → ℕ → Post
  GaveBack : Bool → ℕ → ℕ → Post
  Ended : Final → ℕ → Post  -- the last numbers, and how many symbols of the cluster the client took

pub record Spot : Type 0 where
  pub phase : Phase
  pub isn : ℕ
  pub iss : ℕ
  pub una : ℕ  -- how many symbols of the client's it knows to be taken
  pub last : ℕ  -- how many it has
  pub post : Post
  pub telling : ℕ → Option (ℕ × Bool)  -- in which epoch each node tells that a stay is over, and whether it goes back

abbrev pub number_awaited : ControlBlock → Phase → ℕ
number_awaited b phase.Open = 0
number_awaited b phase.Aborted = rcv_nxt b
number_awaited b phase.Reset = 0

abbrev pub ends_of : ClientBlock → ControlBlock → EndpointSymbols
ends_of x b = record { una = b.send.una; symbols = symbols b.send; awaited = number_awaited b x.phase }

abbrev pub awaits_of : FilesAt → Staying → Awaits
awaits_of files s = record { asks = s.stay.asks; named = length (named_paths files s.stay.batch); kept = s.kept; fetches = s.fetches }

abbrev pub post_of : FilesAt → ClientBlock → SeatNow → Post
post_of files x Unborn = Nowhere
post_of files x (Held b count) = AtFront (ends_of x b)
post_of files x (Waiting b count) = InLine
post_of files x (Offered n e count) = OnOffer n e
post_of files x (Refused n e count) = Declined n e
post_of files x (Here told n e b s) = AtNode told n e (ends_of x b) (awaits_of files s)
post_of files x (Gone told n e) = Left told n e
post_of files x (Returned told n e served) = GaveBack told n e
post_of files x (Over last) = Ended last (symbols_taken x)

unfoldable pub spot_of : FilesAt → Part → Station → Spot
spot_of files p s = record {
  phase = s.client.phase;
  isn = s.client.send.iss;
  iss = s.iss;
  una = s.client.send.una;
  last = symbols s.client.send;
  post = post_of files s.client (seat_of p);
  telling = λ n. tells_over (p.nodes n);
}
