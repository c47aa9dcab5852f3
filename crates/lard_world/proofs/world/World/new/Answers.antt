-- No event has led anywhere yet.
use Rattle.std.proofs.Common.{subst}
use Rattle.lard_dispatch.specs.Sound.{AreBefore}
use Rattle.lard_rules.specs.declared.front.FrontState.{FrontState}
use Rattle.lard_rules.specs.FrontSound.{IsFrontSound}
use Rattle.lard_world.proofs.Beginning.{begins}
use Rattle.lard_world.proofs.world.World.new.Goals as goal

pub invariant_of-result : goal.invariant_of-result
invariant_of-result c = λ usable. begins c.args.config c.args.files _
    (λ i. record { config = c.args.config; files = c.args.files; clients = c.new.ensures i; front = c.in_ok-front.ensures.value i; nodes = c.in-Ok.ensures i; net = c.new-in-Ok.ensures i; now = 0; answered = 0; events = 0; journal = c.new-in-Ok-2.ensures i })
    c.requires.usable (subst IsFrontSound c.in_ok-front.ensures.value c.in_ok-front.ensures.sound)
    (subst (λ (f : FrontState). AreBefore 0 f.dispatch.books.sets) c.in_ok-front.ensures.value c.in_ok-front.ensures.clock)
