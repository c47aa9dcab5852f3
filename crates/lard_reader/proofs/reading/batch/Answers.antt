-- Each turn, and each exit, is a lemma of proofs/Going.antt.
use Rattle.std.proofs.Common.{◌+◌, length, ◌∙◌, sym}
use Rattle.lard_reader.proofs.Going.{Ended, read_on, read_closed, read_more, read_long, read_full}
use Rattle.lard_reader.proofs.reading.batch.Goals as goal

pub returns-then-last : goal.returns-then-last
returns-then-last c =
    let e : Ended c.args.unread.now c.push.new.self (c.loop-turn.used + (c.in-Block.skip + c.in-Block.len)) =
    read_closed c.args.unread.now c.loop-turn.verdicts c.push.new.self c.loop-turn.used c.loop-turn._turn c.in-Block.skip c.in-Block.len c.in_ok-verdict-in-Block.verdict c.loop-turn-test.true
    c.loop-turn.invariant c.in-Block.ensures.value c.in-Block.ensures.within c.in_ok-verdict-in-Block.ensures (sym c.closes-last.ensures ∙ c.if-last.true) c.in_ok-push-in-Block.ensures.ok in
    record { verdicts = e.all; used = e.bytes; within = e.inside }

pub returns-in-More : goal.returns-in-More
returns-in-More c =
    let e : Ended c.args.unread.now c.loop-turn.verdicts (c.loop-turn.used + c.in-More.skip) =
    read_more c.args.unread.now c.loop-turn.verdicts c.loop-turn.used c.loop-turn._turn c.in-More.skip c.loop-turn-test.true c.loop-turn.invariant c.in-More.ensures.value c.in-More.ensures.within in
    record { verdicts = e.all; used = e.bytes; within = e.inside }

pub returns-in-TooLong : goal.returns-in-TooLong
returns-in-TooLong c =
    let e : Ended c.args.unread.now c.push-in-TooLong.new.self (length c.args.unread.now) =
    read_long c.args.unread.now c.loop-turn.verdicts c.push-in-TooLong.new.self c.loop-turn.used c.loop-turn._turn c.in-TooLong.skip c.loop-turn-test.true c.loop-turn.invariant
    c.in-TooLong.ensures.value c.in_ok-push-in-TooLong.ensures.ok in
    record { verdicts = e.all; used = e.bytes; within = e.inside }

pub loop-turn-preserved : goal.loop-turn-preserved
loop-turn-preserved c =
    read_on c.args.unread.now c.loop-turn.verdicts c.push.new.self c.loop-turn.used c.loop-turn._turn c.in-Block.skip c.in-Block.len c.in_ok-verdict-in-Block.verdict c.loop-turn-test.true
    c.loop-turn.invariant c.in-Block.ensures.value c.in-Block.ensures.within c.in_ok-verdict-in-Block.ensures (sym c.closes-last.ensures ∙ c.if-last.false) c.in_ok-push-in-Block.ensures.ok

pub returns : goal.returns
returns c =
    let e : Ended c.args.unread.now c.loop-turn.verdicts c.loop-turn.used =
    read_full c.args.unread.now c.loop-turn.verdicts c.loop-turn.used c.loop-turn._turn c.loop-turn-test.false c.loop-turn.invariant in
    record { verdicts = e.all; used = e.bytes; within = e.inside }
