-- One lemma for all rules of a client that opened, in place of one for each, by what comes to it; and how one opens.
use Rattle.std.proofs.Common.{◌≡◌, ℕ, nat_lt, List, Some, None, false}
use Rattle.lard_base.specs.declared.event.Event.TheVariants as event
use Rattle.lard_law_view.specs.Prelude.{Client, ClientFires, ClientGets, ClientReceives, ClientRules, Conn, Event, HasRule, Move, Place, Seen, Setting, Station, ToAbort, ToGet, ToHold, ToShut, ToTake, ToWrite, Was, client_begins, client_does, client_rule, event_seen, packet_seen, request, written_len}

-- what is seen first where this comes to the client of connection c
abbrev pub client_seen : ℕ → ClientGets → List Seen
client_seen c (ToGet path) = event_seen (event.Get c path)
client_seen c (ToWrite bytes) = event_seen (event.Write c bytes)
client_seen c ToShut = event_seen (event.Shut c)
client_seen c ToAbort = event_seen (event.Abort c)
client_seen c ToHold = event_seen (event.Hold c)
client_seen c ToTake = event_seen (event.Take c)
client_seen c ClientFires = event_seen (event.Timer (Client c) c)
client_seen c (ClientReceives from bytes) = packet_seen from (Client c) bytes

-- and what is known of it: what it writes has room, and a packet was sent
abbrev pub ClientComes : Setting → Conn → Station → ClientGets → Type 0
ClientComes k x s (ToGet path) = nat_lt k.stream (written_len s.client (request path)) ≡ false
ClientComes k x s (ToWrite bytes) = nat_lt k.stream (written_len s.client bytes) ≡ false
ClientComes k x s (ClientReceives from bytes) = Was x from (Client x.c) bytes
ClientComes k x s _ = Unit {0}

abbrev pub client_goes : Conn → Station → ClientGets → Move
client_goes x s g = client_does x s (client_seen x.c g) (client_rule x.c s.client g)

pub record EachClientRule (k : Setting) (P : Conn → Move → Type 0) : Type 0 where
  pub opens : (x : Conn) (isn iss wnd mss : ℕ) → HasRule (event.Open x.c isn iss wnd mss) → x.part.station ≡ None → P x (client_begins x isn iss wnd mss)
  pub does : (x : Conn) (s : Station) (g : ClientGets) → x.part.station ≡ Some s → ClientComes k x s g → P x (client_goes x s g)

module _ (k : Setting) (P : Conn → Move → Type 0) where
  pub each-client : EachClientRule k P → ClientRules k P
  each-client e = record {
    opens = e.opens;
    gets = λ x s path there fits. e.does x s (ToGet path) there fits;
    writes = λ x s bytes there fits. e.does x s (ToWrite bytes) there fits;
    shuts = λ x s there. e.does x s ToShut there tt;
    aborts = λ x s there. e.does x s ToAbort there tt;
    holds = λ x s there. e.does x s ToHold there tt;
    takes = λ x s there. e.does x s ToTake there tt;
    fires = λ x s there. e.does x s ClientFires there tt;
    hears = λ x s from bytes there was. e.does x s (ClientReceives from bytes) there was;
  }

  -- and back, so that what is so of each rule is so of all at once
  pub client-each : ClientRules k P → EachClientRule k P
  client-each r = record { opens = r.opens; does = by } where
    by : (x : Conn) (s : Station) (g : ClientGets) → x.part.station ≡ Some s → ClientComes k x s g → P x (client_goes x s g)
    by x s (ToGet path) there fits = r.gets x s path there fits
    by x s (ToWrite bytes) there fits = r.writes x s bytes there fits
    by x s ToShut there comes = r.shuts x s there
    by x s ToAbort there comes = r.aborts x s there
    by x s ToHold there comes = r.holds x s there
    by x s ToTake there comes = r.takes x s there
    by x s ClientFires there comes = r.fires x s there
    by x s (ClientReceives from bytes) there was = r.hears x s from bytes there was

-- ---- what is seen first

-- it is so of each event and each packet
module _ (c : ℕ) (P : List Seen → Type 0) (packet : (from : Place) (bytes : List ℕ) → P (packet_seen from (Client c) bytes))
    (seen : (e : Event) → P (event_seen e)) where
  pub of-client : (g : ClientGets) → P (client_seen c g)
  of-client (ClientReceives from bytes) = packet from bytes
  of-client _ = seen _
