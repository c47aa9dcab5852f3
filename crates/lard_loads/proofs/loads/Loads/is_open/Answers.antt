-- The open ones are those that are flagged.
use Rattle.std.proofs.Common.{◌≡◌, false, nat_le, length, ap, ◌∙◌, arith}
use Rattle.std.proofs.lemmas.Bool.Decides.{nat_tests}
use Rattle.lard_loads.specs.Tally.{Tally, is_open}
use Rattle.lard_loads.proofs.Choices.{none-open, open-is}
use Rattle.lard_loads.proofs.loads.Loads.is_open.Goals as goal

pub returns-then-number-nodes : goal.returns-then-number-nodes
returns-then-number-nodes c =
    let some = c.number.ensures.range.0 in
    let value = c.number.ensures.value in
    let within = c.if-number-nodes.true in
    let nodes = c.nodes.ensures.value in
    c.has.ensures ∙ open-is c.self.inside.open_nodes c.args.n (length c.self.inside.running) (omega (arith, some, value)) (omega (arith, within, value, nodes)) ∙ ap (λ (t : Tally). is_open t c.args.n) c.self.view_is

pub returns-else-number-nodes : goal.returns-else-number-nodes
returns-else-number-nodes c =
    let value = c.number.ensures.value in
    let beyond = c.if-number-nodes.false in
    let nodes = c.nodes.ensures.value in
    let test : nat_le c.number.result c.nodes.result ≡ false = grind (arith, nat_tests, beyond) in
    test ∙ none-open c.self.inside.open_nodes c.args.n (length c.self.inside.running) (omega (arith, value, beyond, nodes)) ∙ ap (λ (t : Tally). is_open t c.args.n) c.self.view_is
