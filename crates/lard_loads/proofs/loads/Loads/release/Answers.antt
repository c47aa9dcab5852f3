-- The batch is over, and the home is freed.
use Rattle.std.proofs.Common.{◌∙◌, ap}
use Rattle.lard_loads.specs.Tally.{Tally, open_shares, released}
use Rattle.lard_loads.proofs.Batches.{ended-admitted, ended-open, released-ended}
use Rattle.lard_loads.proofs.loads.Loads.release.Goals as goal

pub free-requires-clause-admitted : goal.free-requires-clause-admitted
free-requires-clause-admitted c = rw c.batch_over.ensures.after (ended-admitted c.args.self.now c.args.c c.requires.admitted)

pub free-requires-clause-no_shares : goal.free-requires-clause-no_shares
free-requires-clause-no_shares c = ap (λ (t : Tally). open_shares t c.args.c) c.batch_over.ensures.after ∙ ended-open c.args.self.now c.args.c c.requires.admitted

pub returns : goal.returns
returns c = c.free.ensures ∙ ap (λ (t : Tally). released t c.args.c) c.batch_over.ensures.after ∙ released-ended c.args.self.now c.args.c
