-- The entry is there, and what it is set to is set in the map.
use Rattle.std.proofs.Common.{sym, ap, ◌∙◌, Some}
use Rattle.std.specs.FinMap as map
use Rattle.lard_table.proofs.Map.{get_is, inserted, no_none, IsSome_from}
use Rattle.lard_table.proofs.table.Table.replace.Goals as goal

pub unreachable-requires : goal.unreachable-requires
unreachable-requires g c = no_none (map.get c.args.self.now c.args.number) _ (map.get c.args.self.now c.args.number) c.requires c.in-None.ensures.value
    (sym (get_is c.self.inside.all c.args.number) ∙ ap (λ m. map.get m c.args.number) c.self.view_is)

pub returns-clause-before : goal.returns-clause-before
returns-clause-before g c = sym (ap (λ m. map.get m c.args.number) c.self.view_is) ∙ get_is c.self.inside.all c.args.number ∙ sym c.in-Some.ensures.value ∙ ap (λ v. Some v) (sym c.replace.ensures.value)

pub returns-clause-after : goal.returns-clause-after
returns-clause-after g c =
    let u = (c.get_mut.follows.holds c.replace.new.dest).3 (IsSome_from (Some c.in-Some.slot.now) _ c.in-Some.slot.now (λ i. Some c.in-Some.slot.now) c.in-Some.ensures.value) in
    inserted c.self.inside.all (c.get_mut.follows.lender c.replace.new.dest) c.args.number c.replace.new.dest u
    ∙ ap (λ m. map.insert m c.args.number c.replace.new.dest) c.self.view_is
    ∙ ap (λ w. map.insert c.args.self.now c.args.number w) c.replace.ensures.after
