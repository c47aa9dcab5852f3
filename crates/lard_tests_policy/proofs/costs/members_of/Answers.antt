-- At first nobody is a member.
use Rattle.lard_tests_policy.proofs.costs.members_of.Goals as goal

pub with-first-requires-clause-within : goal.with-first-requires-clause-within
with-first-requires-clause-within c = λ k h. let none = c.none.ensures k in absurd (cc)
