-- One pair more, or none.
use Rattle.std.proofs.Common.{◌∙◌, sym}
use Rattle.lard_block.proofs.Pairs.{pairs-on, pairs-over}
use Rattle.lard_block.proofs.block.leading_pairs.Goals as goal

pub loop-skip-preserved : goal.loop-skip-preserved
loop-skip-preserved c = pairs-on c.args.bytes.now c.loop-skip.skip c.loop-skip.invariant.0 c.loop-skip.invariant.1 (sym c.starts_with.ensures.value ∙ c.loop-skip-test.true)

pub returns-clause-value : goal.returns-clause-value
returns-clause-value c = pairs-over c.args.bytes.now c.loop-skip.skip c.loop-skip.invariant.1 (sym c.starts_with.ensures.value ∙ c.loop-skip-test.false)
