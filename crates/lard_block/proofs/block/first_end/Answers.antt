-- At each place the head ends there, or the search goes on one place further.
use Rattle.std.proofs.Common.{◌∙◌, sym, ap}
use Rattle.lard_block.proofs.Ends.{ends_here, end-found, end-further, end-nowhere}
use Rattle.lard_block.proofs.Pairs.{behind}
use Rattle.lard_block.proofs.block.first_end.Goals as goal

pub returns-then-starts_with : goal.returns-then-starts_with
returns-then-starts_with c = sym (c.loop-at.invariant
    ∙ end-found c.args.bytes.now c.loop-at.at (ap ends_here (sym (behind c.args.bytes.now c.loop-at.at)) ∙ sym c.starts_with.ensures.value ∙ c.if-starts_with.true))

pub loop-at-preserved : goal.loop-at-preserved
loop-at-preserved c = c.loop-at.invariant
    ∙ end-further c.args.bytes.now c.loop-at.at c.loop-at-test.true (ap ends_here (sym (behind c.args.bytes.now c.loop-at.at)) ∙ sym c.starts_with.ensures.value ∙ c.if-starts_with.false)

pub returns : goal.returns
returns c = sym (c.loop-at.invariant ∙ end-nowhere c.args.bytes.now c.loop-at.at c.loop-at-test.false)
