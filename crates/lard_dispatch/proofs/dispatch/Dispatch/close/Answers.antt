-- What holds between two calls is kept.
use Rattle.std.proofs.Common.{◌≡◌, ℕ, true, List, ap, sym, subst, ◌∙◌}
use Rattle.lard_loads.specs.Tally.{Tally, tally_closed, has_other_open}
use Rattle.lard_sets.specs.declared.sets.ServerSet.{ServerSet}
use Rattle.lard_dispatch.specs.Books.{Dispatcher}
use Rattle.lard_dispatch.specs.Sound.{IsDispatcherSound}
use Rattle.lard_dispatch.proofs.Soundness.{closing-kept, open-node}
use Rattle.lard_dispatch.proofs.dispatch.Dispatch.close.Goals as goal

pub invariant_of-self : goal.invariant_of-self
invariant_of-self c =
    let old : Dispatcher = record { config = c.self.inside.config; books = record { loads = c.self.inside.loads; sets = c.self.inside.sets; line = c.self.inside.line } } in
    let other : has_other_open c.self.inside.loads c.args.n ≡ true = ap (λ (d : Dispatcher). has_other_open d.books.loads c.args.n) c.self.view_is ∙ c.requires.other in
    let node = open-node old c.args.n c.self.invariant.1 (sym c.is_open.ensures ∙ c.if-not-is_open.false) in (
      c.self.invariant.0,
      subst (λ (t : Tally). IsDispatcherSound (record old { books = record old.books { loads = t; sets = c.close-2.new.self } })) (sym c.close.ensures)
          (subst (λ (all : List (List ℕ × ServerSet)). IsDispatcherSound (record old { books = record old.books { loads = tally_closed c.self.inside.loads c.args.n; sets = all } })) (sym c.close-2.ensures) (closing-kept old c.args.n c.self.invariant.1 node other)),
    )
