-- What holds between two calls is kept.
use Rattle.std.proofs.Common.{sym, subst, List}
use Rattle.lard_dispatch.specs.declared.line.Waiting.{Waiting}
use Rattle.lard_dispatch.specs.Books.{Dispatcher}
use Rattle.lard_dispatch.specs.Sound.{IsDispatcherSound}
use Rattle.lard_dispatch.proofs.Soundness.{leave-kept}
use Rattle.lard_dispatch.proofs.dispatch.Dispatch.leave.Goals as goal

pub invariant_of-self : goal.invariant_of-self
invariant_of-self c =
    let old : Dispatcher = record { config = c.self.inside.config; books = record { loads = c.self.inside.loads; sets = c.self.inside.sets; line = c.self.inside.line } } in
    (c.self.invariant.0, subst (λ (line : List Waiting). IsDispatcherSound (record old { books = record old.books { line = line } })) (sym c.leave.ensures) (leave-kept old c.args.c c.self.invariant.1))
