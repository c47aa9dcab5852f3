-- The others are those that are flagged once this one is not.
use Rattle.std.proofs.Common.{◌≡◌, ◌<◌, ℕ, List, true, not, nat_eq, length, ap, sym, subst, ◌∙◌}
use Rattle.std.specs.List.{filter}
use Rattle.lard_base.specs.Members.{has}
use Rattle.lard_loads.specs.Loads.{tally_of}
use Rattle.lard_loads.specs.Tally.{Tally, tally_closed, has_other_open, numbers}
use Rattle.lard_loads.proofs.Choices.{open-without}
use Rattle.lard_loads.proofs.Firsts.{any-length}
use Rattle.lard_loads.proofs.loads.Loads.close.Goals as goal

pub invariant_of-self : goal.invariant_of-self
invariant_of-self c =
    let other : has_other_open c.args.self.now c.args.n ≡ true = c.requires.other in
    let some : 0 < length (filter (λ m. not (nat_eq m c.args.n)) (filter (has c.self.inside.open_nodes) (numbers (length c.self.inside.running)))) =
    any-length (λ m. not (nat_eq m c.args.n)) (filter (has c.self.inside.open_nodes) (numbers (length c.self.inside.running))) (ap (λ (t : Tally). has_other_open t c.args.n) c.self.view_is ∙ other) in
    record {
      few = c.self.invariant.few;
      some_open = subst (λ (ns : List ℕ). 0 < length ns) (sym (open-without c.self.inside.open_nodes c.without-self-inside.result c.args.n (length c.self.inside.running) c.without-self-inside.ensures)) some;
      all_slots = c.self.invariant.all_slots;
      slots_in_range = c.self.invariant.slots_in_range;
      running = c.self.invariant.running;
      counted = c.self.invariant.counted;
    }

pub returns : goal.returns
returns c =
    ap (λ (ns : List ℕ). record (tally_of (length c.self.inside.running) c.self.inside.open_nodes c.self.inside.slots.items) { open_nodes = ns })
    (open-without c.self.inside.open_nodes c.without-self-inside.result c.args.n (length c.self.inside.running) c.without-self-inside.ensures)
    ∙ ap (λ (t : Tally). tally_closed t c.args.n) c.self.view_is
