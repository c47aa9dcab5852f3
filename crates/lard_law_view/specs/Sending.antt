-- The record of a segment that is sent, as its connection sees it: without its number.
use Rattle.std.specs.Prelude.{ℕ, List}
use Rattle.lard_base.specs.declared.place.Place.{Place}
use Rattle.lard_journal.specs.declared.rec.Rec.{Rec}
use Rattle.lard_journal.specs.declared.rec.Rec.TheVariants as rec

-- ---- a move

abbrev pub sending : Place → Place × List ℕ → Rec
sending from s = rec.Sent 0 from s.0 s.1
