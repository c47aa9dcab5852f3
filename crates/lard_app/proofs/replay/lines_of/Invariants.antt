use Rattle.std.proofs.Common.{◌≡◌, take}
use Rattle.std.specs.List.{flat_map}
use Rattle.lard_law_view.specs.Prelude.{rec_line}
use Rattle.lard_app.proofs.replay.lines_of.Given as goal

-- the lines of the records so far
abbrev pub invariant-loop-rec : goal.invariant-loop-rec
invariant-loop-rec l = l.text.items ≡ flat_map rec_line (take l.rec-index l.recs)
