-- What a tale says of a client and of packets, and that it fits what is kept.
use Rattle.std.specs.Prelude.{◌≡◌, ℕ, Bool, true, false, List, [], length, Option, Some, None}
use Rattle.lard_base.specs.declared.place.Place.{Place}
use Rattle.lard_client.specs.Control.{is_writing}
use Rattle.lard_history.specs.Journal.{Numbers, Tale, goal_of, is_lost, packet_bytes, sent_count}
use Rattle.lard_history.specs.Own.{net_of}
use Rattle.lard_journal.specs.declared.rec.Rec.{Rec}
use Rattle.lard_rules.specs.declared.places.Station.{Station}
use Rattle.lard_net.specs.Net.{Packet, bytes_in, packet_at}

-- ---- clients

-- what a tale says of the client
pub record ClientTale : Type 0 where
  pub numbers : Option Numbers
  pub wrote : List ℕ
  pub accepted : List ℕ
  pub has_closed : Bool

abbrev pub client_tale : Tale → ClientTale
client_tale t = record { numbers = t.numbers; wrote = t.wrote; accepted = t.accepted; has_closed = t.has_closed }

-- nothing is told of a client that has not opened
pub record IsUnopened (t : ClientTale) : Type 0 where
  pub numbers : t.numbers ≡ None
  pub wrote : t.wrote ≡ []
  pub accepted : t.accepted ≡ []
  pub writes : t.has_closed ≡ false

-- a client has its number, opened with its first numbers, and writes only while it is told that it has not closed
pub record IsOpened (c : ℕ) (x : Station) (t : ClientTale) : Type 0 where
  pub number : x.client.c ≡ c
  pub numbers : t.numbers ≡ Some (record { isn = x.client.send.iss; iss = x.iss })
  pub writes : is_writing x.client ≡ true → t.has_closed ≡ false

abbrev pub ClientStands : ℕ → Option Station → ClientTale → Type 0
ClientStands c None t = IsUnopened t
ClientStands c (Some x) t = IsOpened c x t

-- ---- packets

-- where a packet goes, and whether it was lost
abbrev pub goal_in : Option Packet → Option Place
goal_in None = None
goal_in (Some p) = Some p.to

abbrev pub lost_in : Option Packet → Bool
lost_in None = false
lost_in (Some p) = p.lost

-- What a journal says of all packets is so of these.
pub record IsNetOf (J : List Rec) (net : List Packet) : Type 0 where
  pub packets : net_of J ≡ net
  pub sent : sent_count J ≡ length net
  pub bytes : packet_bytes J ≡ bytes_in net
  pub goals : (k : ℕ) → goal_of J k ≡ goal_in (packet_at net k)
  pub lost : (k : ℕ) → is_lost J k ≡ lost_in (packet_at net k)
