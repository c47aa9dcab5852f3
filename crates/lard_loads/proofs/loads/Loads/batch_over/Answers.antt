-- The last call found no share, so nothing was left to end.
use Rattle.std.proofs.Common.{◌≡◌, ◌∙◌, sym, arith}
use Rattle.std.proofs.lemmas.Bool.Decides.{nat_tests}
use Rattle.lard_loads.specs.Tally.{open_shares}
use Rattle.lard_loads.proofs.Batches.{ended-none}
use Rattle.lard_loads.proofs.loads.Loads.batch_over.Goals as goal

pub returns-clause-after : goal.returns-clause-after
returns-clause-after c =
    let none : open_shares c.loop-any.self c.args.c ≡ 0 = let h = c.loop-any-test.ensures.open in grind (arith, nat_tests, h) in
    let left : open_shares c.end_share.new.self c.args.c ≡ 0 = let h = c.loop-any-test.ensures.fewer in omega (arith, h, none) in
    sym (ended-none c.end_share.new.self c.args.c left) ∙ c.loop-any-test.ensures.others ∙ c.loop-any.invariant.1
