-- What a client takes, in words of the journal.
use Rattle.std.specs.Prelude.{◌≡◌, ℕ, ◌+◌, ◌<◌, true, List, [], length, Option, Some, None, Ok}
use Rattle.std.specs.List.{fold}
use Rattle.lard_arrival.specs.Arrival.{IsPartAt}
use Rattle.lard_base.specs.declared.place.Place.TheVariants.{Client}
use Rattle.lard_history.specs.Journal.{Numbers, accepted, numbers_of}
use Rattle.lard_history.specs.Laws.{EachMay}
use Rattle.lard_history.specs.Own.{net_of}
use Rattle.lard_journal.specs.declared.rec.Rec.{Rec}
use Rattle.lard_journal.specs.declared.rec.Rec.TheVariants as rec
use Rattle.lard_net.specs.Net.{Packet, packet_at}
use Rattle.lard_segment.specs.declared.segment.Dir.TheVariants.{ToClient}
use Rattle.lard_segment.specs.Segment.{Said, decoded}
use Rattle.lard_seq.specs.Seq.{seq_add}

abbrev pub got_step : Option ℕ → Rec → Option ℕ
got_step last (rec.Got k) = Some k
got_step last _ = last

-- the packet that was delivered last
abbrev pub last_got : List Rec → Option ℕ
last_got J = fold got_step None J

-- The segment that client c got: that of the packet that was delivered last, which was sent to it. This law knows no
-- steps. That the packet was delivered in the step of the record is said by `KeepsTables` (lard_law_view): `accepted`
-- and `eof` stand nowhere but behind a packet that the client gets in that step.
pub record Gets (past : List Rec) (c : ℕ) : Type 0 where
  pub number : ℕ
  pub last : last_got past ≡ Some number
  pub packet : Packet
  pub sent : packet_at (net_of past) number ≡ Some packet
  pub goal : packet.to ≡ Client c
  pub said : Said
  pub decodes : decoded packet.bytes c ToClient ≡ Ok said
  pub numbers : Numbers
  pub opened : numbers_of past c ≡ Some numbers

-- A number is the one behind all that client c accepted: behind the cluster's SYN and these bytes (RFC 9293, 3.4).
abbrev pub IsNext : List Rec → ℕ → Numbers → ℕ → Type 0
IsNext past c numbers seq = seq ≡ seq_add numbers.iss (1 + length (accepted past c))

-- A client accepts bytes of the segment that it got, at least one, and those that follow directly behind all that it
-- accepted before. It takes the end of its stream from a segment with FIN, where all data of the segment is accepted.
abbrev pub MayTake : List Rec → Rec → Type 0
MayTake past (rec.Accepted c bytes) = (g : Gets past c) × (from : ℕ) × IsNext past c g.numbers (seq_add g.said.seq from) × IsPartAt from bytes g.said.payload × (0 < length bytes)
MayTake past (rec.Eof c) = (g : Gets past c) × (g.said.flags.fin ≡ true) × IsNext past c g.numbers (seq_add g.said.seq (length g.said.payload))
MayTake past _ = Unit {0}

abbrev pub TakesInOrder : List Rec → Type 0
TakesInOrder J = EachMay MayTake [] J
