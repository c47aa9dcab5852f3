-- A bare line feed stands at this place, or is sought behind it.
use Rattle.std.proofs.Common.{sym, ◌∙◌}
use Rattle.lard_request.proofs.Feeds.{bare-hit, bare-miss, bare-none}
use Rattle.lard_request.proofs.lines.holds_bare_feed.Goals as goal

pub returns-then-not-after_return : goal.returns-then-not-after_return
returns-then-not-after_return c = bare-hit c.args.bytes.now c.loop-byte.byte-index c.loop-byte.after_return c.loop-byte-test.true c.loop-byte.invariant c.if-byte-eq10.true c.if-not-after_return.true

pub loop-byte-preserved : goal.loop-byte-preserved
loop-byte-preserved c = bare-miss c.args.bytes.now c.loop-byte.byte-index c.loop-byte.after_return c.loop-byte-test.true c.loop-byte.invariant c.else-byte-eq10.either

pub returns : goal.returns
returns c = sym (sym c.loop-byte.invariant ∙ bare-none c.args.bytes.now c.loop-byte.byte-index c.loop-byte.after_return c.loop-byte-test.false)
