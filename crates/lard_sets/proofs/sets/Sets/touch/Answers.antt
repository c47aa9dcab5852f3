-- A target's own set in its place changes nothing, and a place for an empty set is put.
use Rattle.std.proofs.Common.{◌≡◌, ◌∙◌, sym, ap, true, false, is_some}
use Rattle.std.proofs.lemmas.Result.{on_ok_weaker}
use Rattle.lard_sets.specs.Sets.{has_place, put}
use Rattle.lard_sets.proofs.Flags.{no_flags}
use Rattle.lard_sets.proofs.Entries.{lookup-shown, put_same, none_there, not_there}
use Rattle.lard_sets.proofs.sets.Sets.touch.Goals as goal

-- what the look-up among the entries says of the pairs
there : (c : goal.Then-contains_key) → c.contains_key.result ≡ has_place c.args.self.now c.args.target.now
there c = c.contains_key.ensures ∙ ap is_some (lookup-shown c.self.inside.sets.entries c.args.target.now) ∙ ap (λ m. has_place m c.args.target.now) c.self.view_is

absent : (c : goal.After-insert) → has_place c.args.self.now c.args.target.now ≡ false
absent c = sym (c.contains_key.ensures ∙ ap is_some (lookup-shown c.self.inside.sets.entries c.args.target.now) ∙ ap (λ m. has_place m c.args.target.now) c.self.view_is) ∙ c.if-contains_key.false

pub returns-then-contains_key-clause-ok : goal.returns-then-contains_key-clause-ok
returns-then-contains_key-clause-ok c = sym (put_same c.args.self.now c.args.target.now (sym (there c) ∙ c.if-contains_key.true))

pub returns-clause-ok : goal.returns-clause-ok
returns-clause-ok c =
    let none = none_there c.args.self.now c.args.target.now (not_there c.args.self.now c.args.target.now (absent c)) in
    let members = no_flags c.none.result c.none.ensures in
    on_ok_weaker c.insert.result
    (λ e. e ∙ ap (λ m. put c.args.self.now c.args.target.now (record { members = m; modified = record { 0 = 0 } })) members
    ∙ ap (λ s. put c.args.self.now c.args.target.now s) (sym none))
    c.insert.ensures.ok

pub returns-clause-succeeds : goal.returns-clause-succeeds
returns-clause-succeeds c = λ h. let never : false ≡ true = sym (absent c) ∙ h in absurd (cc)
