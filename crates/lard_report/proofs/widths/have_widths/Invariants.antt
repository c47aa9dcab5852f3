-- Where all those behind are so, all are.
use Rattle.std.proofs.Common.{drop}
use Rattle.lard_report.specs.Formed.{HaveWidths}
use Rattle.lard_report.proofs.widths.have_widths.Given as goal

abbrev pub invariant-loop-rec : goal.invariant-loop-rec
invariant-loop-rec l = HaveWidths (drop l.rec-index l.recs) → HaveWidths l.fn.recs
