-- The record of an event, as that of an inner step of a settle.
use Rattle.std.specs.Prelude.{ℕ, zero, suc, List, [], ◌∷◌}
use Rattle.lard_journal.specs.declared.rec.Rec.{Rec}
use Rattle.lard_journal.specs.declared.rec.Rec.TheVariants as rec

-- the record of an event becomes that of an inner step of the same event
abbrev pub inner_of : Rec → Rec
inner_of (rec.Event i event) = rec.Inner event
inner_of r = r

-- the same of the record at a place, counted from 0
abbrev pub turned_at : ℕ → List Rec → List Rec
turned_at i [] = []
turned_at zero (r ∷ rs) = inner_of r ∷ rs
turned_at (suc i) (r ∷ rs) = r ∷ turned_at i rs
