-- A request is assigned.
use Rattle.std.proofs.Common.{◌≡◌, ◌+◌, ◌<◌, ◌≤◌, ℕ, List, Some, ◌∙◌, ap, sym, subst, arith}
use Rattle.lard_loads.specs.Tally.{Tally, connected}
use Rattle.lard_lab.specs.declared.targets.Target.{Target}
use Rattle.lard_lab.specs.Desk.{Desk, desk_assigned, chosen_for}
use Rattle.lard_lab.specs.Sound.{IsDeskSound}
use Rattle.lard_lab.specs.Targets.{target_at, with_target}
use Rattle.lard_lab.proofs.Soundness.{assigned-sound}
use Rattle.lard_lab.proofs.assigner.Assigner.assign.Goals as goal

pub invariant_of-self : goal.invariant_of-self
invariant_of-self c =
    let old : Desk = record { policy = c.self.inside.policy; config = c.self.inside.config; time = c.self.inside.time; made = c.self.inside.made; loads = c.self.inside.loads; targets = c.self.inside.targets } in
    let number : c.in-Some.c ≡ c.self.inside.made + 1 = omega (arith, c.in-Some.ensures) in
    let loads : c.connect.new.self ≡ connected c.self.inside.loads (c.self.inside.made + 1) c.args.choice.node = c.connect.ensures ∙ ap (λ (k : ℕ). connected c.self.inside.loads k c.args.choice.node) number in
    let targets : c.set.new.self ≡ with_target c.self.inside.targets c.args.path.now (chosen_for c.args.target.now c.args.choice c.self.inside.time) =
    c.set.ensures ∙ ap (λ (t : Target). with_target c.self.inside.targets c.args.path.now t) c.chosen_for.ensures in
    let few : c.self.inside.made < 16384 = subst (λ (d : Desk). d.made < 16384) (sym c.self.view_is) c.requires.few in
    let there : target_at c.self.inside.targets c.args.path.now ≡ Some c.args.target.now = subst (λ (d : Desk). target_at d.targets c.args.path.now ≡ Some c.args.target.now) (sym c.self.view_is) c.requires.target in
    let node : c.args.choice.node ≤ c.self.inside.config.nodes = subst (λ (d : Desk). c.args.choice.node ≤ d.config.nodes) (sym c.self.view_is) c.requires.node in
    let sound : IsDeskSound (desk_assigned old c.args.path.now c.args.target.now c.args.choice) = assigned-sound old c.args.path.now c.args.target.now c.args.choice few there node c.self.invariant.1 in (
      c.self.invariant.0,
      subst (λ (l : Tally). IsDeskSound (record (desk_assigned old c.args.path.now c.args.target.now c.args.choice) { loads = l; targets = c.set.new.self })) (sym loads)
          (subst (λ (t : List (List ℕ × Target)). IsDeskSound (record (desk_assigned old c.args.path.now c.args.target.now c.args.choice) { targets = t })) (sym targets) sound),
    )
