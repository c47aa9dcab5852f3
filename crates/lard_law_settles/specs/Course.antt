-- What is near among the packets of the whole, and how long their chains are.
use Rattle.std.specs.Prelude.{◌≡◌, ℕ, Option, Some, None}
use Rattle.lard_bound.specs.Progress.{NearAt, chain_at}
use Rattle.lard_law_view.specs.Prelude.{IsConnNumber, Machine, Packet, conn, conn_of, file_at, letter_of, packet_at}

-- the chain of a packet, by its connection; one of no connection has none
abbrev pub chain_of : Machine → Packet → Option ℕ → ℕ
chain_of m p None = 0
chain_of m p (Some q) = chain_at (file_at m.files) (conn m q) (letter_of p)

abbrev pub chain_by : Machine → Option Packet → ℕ
chain_by m None = 0
chain_by m (Some p) = chain_of m p (conn_of p.from p.to p.bytes)

abbrev pub chain_in : Machine → ℕ → ℕ
chain_in m k = chain_by m (packet_at m.net k)

-- packet k is one of a connection, and near there
pub record NearIn (m : Machine) (d k : ℕ) : Type 0 where
  pub packet : Packet
  pub at : packet_at m.net k ≡ Some packet
  pub c : ℕ
  pub number : IsConnNumber c
  pub is_of : conn_of packet.from packet.to packet.bytes ≡ Some c
  pub near : NearAt (file_at m.files) (conn m c) d (letter_of packet)
