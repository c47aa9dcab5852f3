-- After an option the rest still gives what all of them give.
use Rattle.lard_segment.proofs.OptionSteps.{turn}
use Rattle.lard_segment.proofs.options.mss_of.Goals as goal

pub loop-kind-preserved : goal.loop-kind-preserved
loop-kind-preserved c =
    turn c.loop-kind.rest.now c.split_at.result.1.now c.in-Some.after.now c.in-Some.kind.now c.loop-kind.mss c.after_option-mss.result c.in-Some-length_of.len _
    c.in-Some.ensures.cases.0 c.if-kind-eq-END.false c.if-kind-eq-NOTHING.false c.in-Some-length_of.ensures.value c.after_option-mss.ensures c.split_at.ensures.back c.loop-kind.invariant
