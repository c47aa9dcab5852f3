-- One more of the nodes is a member.
use Rattle.std.proofs.Common.{arith}
use Rattle.lard_sets.proofs.Flags.{within-with_member}
use Rattle.lard_tests_policy.proofs.costs.with.Goals as goal

pub returns : goal.returns
returns c = rw c.with_member.ensures (within-with_member c.args.set c.args.n c.args.loads.now.nodes (omega arith) c.requires.node c.requires.within)
