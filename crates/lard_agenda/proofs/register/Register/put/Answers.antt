-- What is set in the entries is set in the map, and the numbers stay below 2^32.
use Rattle.std.proofs.Common.{◌<◌, sym, ap, ◌∙◌}
use Rattle.std.proofs.lemmas.List.Elements.{All-same}
use Rattle.std.proofs.lemmas.Map.Views.{All-map-remove_entry}
use Rattle.std.specs.BTreeMap.{is_at}
use Rattle.std.specs.Map.{keys_of}
use Rattle.std.specs.Ordering.{nat_cmp}
use Rattle.lard_agenda.proofs.Entries.{put_below}
use Rattle.std.specs.FinMap as map
use Rattle.lard_table.specs.Table.{put_or}
use Rattle.lard_table.proofs.Map.{inserted, removed}
use Rattle.lard_agenda.proofs.register.Register.put.Goals as goal

pub returns-in_ok-insert-in-Some-clause-ok : goal.returns-in_ok-insert-in-Some-clause-ok
returns-in_ok-insert-in-Some-clause-ok g c =
    inserted c.self.inside.all c.insert.new.self c.args.number c.in-Some.value c.in_ok-insert-in-Some.ensures.updates
    ∙ ap (λ m. map.insert m c.args.number c.in-Some.value) c.self.view_is ∙ ap (put_or c.args.self.now c.args.number) (sym c.in-Some.is)

pub returns-in-None-clause-ok : goal.returns-in-None-clause-ok
returns-in-None-clause-ok g c =
    removed c.self.inside.all c.remove.new.self c.args.number c.remove.ensures.updates
    ∙ ap (λ m. map.remove m c.args.number) c.self.view_is ∙ ap (put_or c.args.self.now c.args.number) (sym c.in-None.is)

pub invariant_of-self : goal.invariant_of-self
invariant_of-self g c =
    put_below c.insert.result 4294967296 c.args.number c.in-Some.value c.self.inside.all.entries c.insert.new.self.entries c.insert.ensures.entries c.insert.ensures.err c.ranges.number.fits c.self.invariant

pub invariant_of-self-in-None : goal.invariant_of-self-in-None
invariant_of-self-in-None g c =
    All-same (λ x. x < 4294967296) _ _ (ap keys_of c.remove.ensures.entries)
    (All-map-remove_entry (is_at (nat_cmp c.args.number)) (λ e. e.0) (λ x. x < 4294967296) c.self.inside.all.entries c.self.invariant)
