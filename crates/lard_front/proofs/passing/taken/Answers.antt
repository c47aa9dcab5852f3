-- The Offer of this epoch had no answer, or had one.
use Rattle.std.proofs.Common.{sym, ap, ◌∙◌}
use Rattle.lard_rules.specs.declared.front.FrontTurn.{FrontTurn}
use Rattle.lard_front.proofs.Steps.{not_taken, taken_is}
use Rattle.lard_front.proofs.passing.taken.Goals as goal

pub returns-then-not-on_taken-clause-turn : goal.returns-then-not-on_taken-clause-turn
returns-then-not-on_taken-clause-turn c =
    ap (λ (t : FrontTurn). (record c.args.state.now { conns = c.on_taken.new.self }, t)) c.silent.ensures.turn
    ∙ not_taken c.args.state.now c.args.c c.args.epoch c.on_taken.new.self c.on_taken.ensures.after (sym c.on_taken.ensures.value ∙ c.if-not-on_taken.true)

pub returns-clause-turn : goal.returns-clause-turn
returns-clause-turn c =
    ap (λ (t : FrontTurn). (record c.args.state.now { conns = c.on_taken.new.self; kept = c.settle.new.self }, t)) c.silent-2.ensures.turn
    ∙ taken_is c.args.state.now c.args.c c.args.epoch c.on_taken.new.self c.on_taken.ensures.after c.settle.new.self
    (sym c.on_taken.ensures.value ∙ c.if-not-on_taken.false) c.settle.ensures.after c.requires
