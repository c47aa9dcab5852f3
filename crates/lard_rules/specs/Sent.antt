-- The packets of what a place sends, and their records.
use Rattle.std.specs.Prelude.{ℕ, ◌+◌, false, List, [], ◌∷◌, map}
use Rattle.lard_base.specs.declared.place.Place.{Place}
use Rattle.lard_journal.specs.declared.rec.Rec.{Rec}
use Rattle.lard_journal.specs.declared.rec.Rec.TheVariants as rec
use Rattle.lard_net.specs.Net.{Packet}

-- the packets of what a place sends
abbrev pub packet_of : Place → Place × List ℕ → Packet
packet_of from s = record { from = from; to = s.0; bytes = s.1; lost = false }

abbrev pub packets_of : Place → List (Place × List ℕ) → List Packet
packets_of from ss = map (packet_of from) ss

-- their records, numbered from k
abbrev pub sent_records : ℕ → Place → List (Place × List ℕ) → List Rec
sent_records k from [] = []
sent_records k from (s ∷ ss) = rec.Sent k from s.0 s.1 ∷ sent_records (k + 1) from ss
