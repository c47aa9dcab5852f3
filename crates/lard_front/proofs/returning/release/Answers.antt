-- No set was changed later, also once the node is closed.
use Rattle.std.proofs.Common.{sym, subst}
use Rattle.lard_dispatch.proofs.Soundness.{before-close}
use Rattle.lard_dispatch.specs.Books.{Dispatcher}
use Rattle.lard_dispatch.specs.Sound.{AreBefore}
use Rattle.lard_front.proofs.returning.release.Goals as goal

pub ended-requires-clause-clock : goal.ended-requires-clause-clock
ended-requires-clause-clock c =
    subst (λ (d : Dispatcher). AreBefore c.args.time.0 d.books.sets) (sym c.close.ensures.after)
    (before-close c.args.dispatch.now c.args.from c.args.time c.requires.clock)
