-- What is written to a set that was found is put; where none was found, nothing was written.
use Rattle.std.proofs.Common.{◌∙◌, sym, ap, cond, Bool, List, ℕ, Some, None, is_some, unwrap_or}
use Rattle.lard_sets.specs.declared.sets.ServerSet.{ServerSet}
use Rattle.lard_sets.specs.Sets.{no_servers, sets_shown, set_of, put, without_member}
use Rattle.lard_sets.proofs.Entries.{found, written}
use Rattle.lard_sets.proofs.sets.Sets.remove.Goals.{in-Some, in_default}
use Rattle.lard_sets.proofs.sets.Sets.remove.Goals as goal

pub returns : goal.returns
returns c =
    let left : ServerSet = record { members = without_member (set_of c.args.self.now c.args.target.now).members c.args.n; modified = c.args.now } in
    let after : Bool → List (List ℕ × ServerSet) = λ b. cond b (put c.args.self.now c.args.target.now left) c.args.self.now in
    elim c.match-get_mut.branch [
      | in-Some w ↦
          let there = found c.self.inside.sets.entries c.args.self.now c.args.target.now (Some w.in-Some.set.now) c.self.view_is w.in-Some.ensures.value in
          let kept = ap (λ o. (unwrap_or o no_servers).members) there in
          let new : ServerSet = record { members = w.without_member-set.result; modified = c.args.now } in
          ap (λ i. sets_shown i.sets.entries) w.self-inside-is
          ∙ written c.self.inside.sets.entries (c.get_mut.follows.lender new).entries c.args.self.now c.args.target.now w.in-Some.set.now new
          c.self.view_is w.in-Some.ensures.value (c.get_mut.follows.holds new).0
          ∙ ap (λ m. put c.args.self.now c.args.target.now (record { members = m; modified = c.args.now })) (w.without_member-set.ensures ∙ ap (λ m. without_member m c.args.n) (sym kept))
          ∙ ap after (sym (ap is_some there))
      | in_default w ↦
          let none = found c.self.inside.sets.entries c.args.self.now c.args.target.now None c.self.view_is w.in_default.ensures.value in
          ap (λ i. sets_shown i.sets.entries) w.self-inside-is
          ∙ ap (λ m. sets_shown m.entries) c.get_mut.follows.holds-at-none
          ∙ c.self.view_is
          ∙ ap after (sym (ap is_some none))
    ]
