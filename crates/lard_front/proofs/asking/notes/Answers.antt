-- The next record stands behind those before it.
use Rattle.lard_front.proofs.Assigning.{more}
use Rattle.lard_front.proofs.asking.notes.Goals as goal

pub loop-i-preserved : goal.loop-i-preserved
loop-i-preserved c = more c.args.ask.now.c c.args.ask.now c.loop-i.notes c.in_ok-note.field-0 c.args.assigned c.loop-i.i c.args.ask.now.paths c.args.choices.now
    c.loop-i-test.true c.requires.each c.index-choices-i.is c.in_ok-note.ensures c.in_ok-push-2.ensures.ok c.loop-i.invariant
