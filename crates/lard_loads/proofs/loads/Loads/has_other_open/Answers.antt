-- The others are those that are flagged once this one is not.
use Rattle.std.proofs.Common.{ℕ, List, not, nat_eq, is_some, length, ap, sym, ◌∙◌}
use Rattle.std.specs.List.{filter}
use Rattle.lard_base.specs.Members.{has}
use Rattle.lard_loads.specs.Order.{is_before, least_in}
use Rattle.lard_loads.specs.Running.{at_node}
use Rattle.lard_loads.specs.Tally.{Tally, has_other_open, numbers}
use Rattle.lard_loads.proofs.Choices.{open-without}
use Rattle.lard_loads.proofs.Firsts.{any-first}
use Rattle.lard_loads.proofs.loads.Loads.has_other_open.Goals as goal

pub returns : goal.returns
returns c =
    c.is_some.ensures ∙ ap is_some c.least_of.ensures
    ∙ ap (λ (ns : List ℕ). is_some (least_in (at_node c.self.inside.running) ns)) (open-without c.self.inside.open_nodes c.without.result c.args.n (length c.self.inside.running) c.without.ensures)
    ∙ sym (any-first (is_before (at_node c.self.inside.running)) (λ m. not (nat_eq m c.args.n)) (filter (has c.self.inside.open_nodes) (numbers (length c.self.inside.running))))
    ∙ ap (λ (t : Tally). has_other_open t c.args.n) c.self.view_is
