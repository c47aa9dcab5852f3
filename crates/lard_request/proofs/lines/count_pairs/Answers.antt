-- A pair begins at this place, or none.
use Rattle.std.proofs.Common.{sym, ◌∙◌, arith}
use Rattle.lard_request.proofs.Feeds.{count-hit, count-miss, pairs-none}
use Rattle.lard_request.proofs.lines.count_pairs.Goals.{then-starts_with, else-starts_with}
use Rattle.lard_request.proofs.lines.count_pairs.Goals as goal

pub loop-at-preserved : goal.loop-at-preserved
loop-at-preserved c =
    elim c.if-starts_with.branch [
      | then-starts_with w ↦ count-hit c.args.bytes.now c.loop-at.at c.loop-at.count _ c.loop-at-test.true c.loop-at.invariant (sym w.if-starts_with.true ∙ c.starts_with.ensures.value) w.count-is
      | else-starts_with w ↦ count-miss c.args.bytes.now c.loop-at.at c.loop-at.count _ c.loop-at-test.true c.loop-at.invariant (sym w.if-starts_with.false ∙ c.starts_with.ensures.value) w.count-is
    ]

pub returns : goal.returns
returns c = omega (arith, c.loop-at.invariant, pairs-none c.args.bytes.now c.loop-at.at c.loop-at-test.false)
