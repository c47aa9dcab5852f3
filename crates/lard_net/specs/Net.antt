-- The network: every packet that was ever sent, in the order of their numbers, which run from 1.
use Rattle.std.specs.Prelude.{ℕ, zero, suc, ◌+◌, ◌-◌, ◌≤◌, ◌==◌, Bool, true, List, [], ◌∷◌, map, length, slice_get, Option, None, if◌then◌else◌}
use Rattle.lard_base.specs.declared.limits.TheConstants.{MAX_MESSAGE_BYTES, MAX_SEGMENT_BYTES}
use Rattle.lard_base.specs.declared.place.Place.{Place}
use Rattle.lard_base.specs.declared.place.Place.TheVariants.{Front, Node, Client}
use Rattle.lard_net.specs.declared.net.Kept as kept
use Rattle.lard_net.specs.declared.net.Packet as lent

-- a packet: between which places it goes, its bytes, and whether it arrives no more
pub record Packet : Type 0 where
  pub from : Place
  pub to : Place
  pub bytes : List ℕ
  pub lost : Bool

-- the most bytes of a packet that a place sends or gets: those of a segment at a client, else those of a message
abbrev pub most_bytes : Place → ℕ
most_bytes Front = MAX_MESSAGE_BYTES
most_bytes (Node n) = MAX_MESSAGE_BYTES
most_bytes (Client c) = MAX_SEGMENT_BYTES

-- so many bytes may go from one place to another
abbrev pub IsSized : Place → Place → ℕ → Type 0
IsSized from to len = (len ≤ most_bytes from) × (len ≤ most_bytes to)

-- every packet has no more bytes than may go between its places
abbrev pub AreSized : List Packet → Type 0
AreSized [] = Unit {0}
AreSized (p ∷ ps) = IsSized p.from p.to (length p.bytes) × AreSized ps

-- the bytes of all packets
abbrev pub bytes_in : List Packet → ℕ
bytes_in [] = 0
bytes_in (p ∷ ps) = length p.bytes + bytes_in ps

-- the packet with a number, if it was sent
abbrev pub packet_at : List Packet → ℕ → Option Packet
packet_at net k = if k == 0 then None else slice_get net (k - 1)

-- the packet of a place, counted from 0, arrives no more
abbrev pub lose_at : ℕ → List Packet → List Packet
lose_at n [] = []
lose_at zero (p ∷ ps) = record p { lost = true } ∷ ps
lose_at (suc n) (p ∷ ps) = p ∷ lose_at n ps

-- a packet as it is kept, and as it is lent
abbrev pub packet_lent : kept.Kept → Packet
packet_lent p = record { from = p.from; to = p.to; bytes = p.bytes; lost = p.lost }

abbrev pub lent_packet : lent.Packet → Packet
lent_packet p = record { from = p.from; to = p.to; bytes = p.bytes.now; lost = p.lost }

-- the packets that are kept, as they are seen
abbrev pub packets_shown : List kept.Kept → List Packet
packets_shown ps = map packet_lent ps
