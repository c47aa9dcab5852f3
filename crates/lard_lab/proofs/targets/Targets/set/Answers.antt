-- What is written to the target that was found is written among the pairs, and the sizes stay; where none was found, nothing was written.
use Rattle.std.proofs.Common.{◌≡◌, ◌∙◌, sym, ap, subst, Option, Some, IfSome, arith}
use Rattle.lard_lab.specs.declared.targets.Target.{Target}
use Rattle.lard_lab.specs.Targets.{targets_shown, target_at, targets_total, with_target}
use Rattle.lard_lab.proofs.Entries.{lookup-shown, none_written, shown-set_value, total_same}
use Rattle.lard_lab.proofs.targets.Targets.set.Goals.{in-Some, in_default}
use Rattle.lard_lab.proofs.targets.Targets.set.Goals as goal

-- the pairs once it is written
seen : (c : goal.Joined-get_mut) → targets_shown (c.get_mut.follows.lender c.args.target).entries ≡ with_target c.args.self.now c.args.path.now c.args.target
seen c =
    ap targets_shown (c.get_mut.follows.holds c.args.target).0
    ∙ shown-set_value c.self.inside.targets.entries c.args.path.now c.args.target
    ∙ ap (λ m. with_target m c.args.path.now c.args.target) c.self.view_is

-- the bytes before
sum : (c : goal.Joined-get_mut) → c.self.inside.bytes ≡ targets_total c.args.self.now
sum c = c.self.invariant.0 ∙ ap targets_total c.self.view_is

pub invariant_of-self : goal.invariant_of-self
invariant_of-self c =
    elim c.match-get_mut.branch [
      | in-Some w ↦
          let bytes : c.match-get_mut.self-inside.bytes ≡ c.self.inside.bytes = ap (λ i. i.bytes) w.self-inside-is in
          let there : target_at c.args.self.now c.args.path.now ≡ Some w.in-Some.kept.now =
          sym (w.in-Some.ensures.value ∙ lookup-shown c.self.inside.targets.entries c.args.path.now ∙ ap (λ m. target_at m c.args.path.now) c.self.view_is) in
          let size : c.args.target.size ≡ w.in-Some.kept.now.size = subst (λ (o : Option Target). IfSome o (λ old. c.args.target.size ≡ old.size)) there c.requires in
          let new : targets_total (targets_shown c.match-get_mut.self-inside.targets.entries) ≡ targets_total c.args.self.now =
          ap (λ i. targets_total (targets_shown i.targets.entries)) w.self-inside-is ∙ ap targets_total (seen c) ∙ total_same c.args.self.now c.args.path.now w.in-Some.kept.now c.args.target there size in
          (bytes ∙ sum c ∙ sym new, omega (arith, bytes, c.self.invariant.1))
      | in_default w ↦
          let bytes : c.match-get_mut.self-inside.bytes ≡ c.self.inside.bytes = ap (λ i. i.bytes) w.self-inside-is in
          let new : targets_total (targets_shown c.match-get_mut.self-inside.targets.entries) ≡ targets_total c.args.self.now =
          ap (λ i. targets_total (targets_shown i.targets.entries)) w.self-inside-is ∙ ap (λ m. targets_total (targets_shown m.entries)) c.get_mut.follows.holds-at-none ∙ ap targets_total c.self.view_is in
          (bytes ∙ sum c ∙ sym new, omega (arith, bytes, c.self.invariant.1))
    ]

pub returns : goal.returns
returns c =
    elim c.match-get_mut.branch [
      | in-Some w ↦ ap (λ i. targets_shown i.targets.entries) w.self-inside-is ∙ seen c
      | in_default w ↦
          ap (λ i. targets_shown i.targets.entries) w.self-inside-is
          ∙ ap (λ m. targets_shown m.entries) c.get_mut.follows.holds-at-none
          ∙ c.self.view_is
          ∙ sym (none_written c.args.self.now c.args.path.now c.args.target
          (sym (w.in_default.ensures.value ∙ lookup-shown c.self.inside.targets.entries c.args.path.now ∙ ap (λ m. target_at m c.args.path.now) c.self.view_is)))
    ]
