-- One number more is a member.
use Rattle.std.proofs.Common.{◌≡◌, ◌+◌, Bool, true, false, ◌||◌, nat_eq, refl, ap, ◌∙◌, ⊎_elim, arith}
use Rattle.std.proofs.lemmas.Bool.{cases_eq}
use Rattle.std.proofs.lemmas.Bool.Decides.{nat_tests}
use Rattle.lard_base.specs.Members.{has}
use Rattle.lard_loads.proofs.loads.first_nodes.Goals as goal

or_true : (a b : Bool) → b ≡ true → (a || b) ≡ true
or_true true b h = refl
or_true false b h = h

pub loop-below-preserved : goal.loop-below-preserved
loop-below-preserved c = λ k some most. c.with-members.ensures k some ∙ ⊎_elim
    (λ e. ap (λ b. b || has c.loop-below.members k) (let node = c.node.ensures in let f : nat_eq k c.node.result ≡ true = grind (arith, nat_tests, e, node) in f))
    (λ n. or_true (nat_eq k c.node.result) (has c.loop-below.members k) (c.loop-below.invariant k some (omega (arith, most, n))))
    (cases_eq k (c.loop-below.below + 1))
