-- What is written to a set that was found is put, and so is a new one.
use Rattle.std.proofs.Common.{◌≡◌, ◌∙◌, sym, ap, true, Some, None, is_some, unwrap_or, false}
use Rattle.std.proofs.lemmas.Result.{on_ok_weaker}
use Rattle.lard_sets.specs.declared.sets.ServerSet.{ServerSet}
use Rattle.lard_sets.specs.Sets.{no_servers, sets_shown, put, with_member}
use Rattle.lard_sets.proofs.Flags.{no_flags}
use Rattle.lard_sets.proofs.Entries.{found, written, none_there}
use Rattle.lard_sets.proofs.sets.Sets.add.Goals as goal

pub returns-in-Some-clause-ok : goal.returns-in-Some-clause-ok
returns-in-Some-clause-ok c =
    let there = found c.self.inside.sets.entries c.args.self.now c.args.target.now (Some c.in-Some.set.now) c.self.view_is c.in-Some.ensures.value in
    let kept = ap (λ o. (unwrap_or o no_servers).members) there in
    let new : ServerSet = record { members = c.with_member-set.result; modified = c.args.now } in
    written c.self.inside.sets.entries (c.get_mut.follows.lender new).entries c.args.self.now c.args.target.now c.in-Some.set.now new
    c.self.view_is c.in-Some.ensures.value (c.get_mut.follows.holds new).0
    ∙ ap (λ m. put c.args.self.now c.args.target.now (record { members = m; modified = c.args.now })) (c.with_member-set.ensures ∙ ap (λ m. with_member m c.args.n) (sym kept))

pub returns-clause-ok : goal.returns-clause-ok
returns-clause-ok c =
    let same = ap (λ m. sets_shown m.entries) c.get_mut.follows.holds-at-none ∙ c.self.view_is in
    let none = none_there c.args.self.now c.args.target.now (found c.self.inside.sets.entries c.args.self.now c.args.target.now None c.self.view_is c.in_default.ensures.value) in
    let members = c.with_member.ensures ∙ ap (λ m. with_member m c.args.n) (no_flags c.none.result c.none.ensures ∙ ap (λ (s : ServerSet). s.members) (sym none)) in
    on_ok_weaker c.insert.result
    (λ e. e ∙ ap (λ m. put m c.args.target.now (record { members = c.with_member.result; modified = c.args.now })) same
    ∙ ap (λ m. put c.args.self.now c.args.target.now (record { members = m; modified = c.args.now })) members)
    c.insert.ensures.ok

pub returns-clause-succeeds : goal.returns-clause-succeeds
returns-clause-succeeds c = λ there.
    let none = found c.self.inside.sets.entries c.args.self.now c.args.target.now None c.self.view_is c.in_default.ensures.value in
    let never : false ≡ true = sym (ap is_some none) ∙ there in
    absurd (cc)
