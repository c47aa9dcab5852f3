-- One file more, or none.
use Rattle.std.proofs.Common.{◌≡◌, ℕ, ◌++◌, ◌∷◌, [], List, Result, Ok, Err, OnOk, OnErr, sym, subst}
use Rattle.lard_files.specs.declared.fault.FileFault.{FileFault}
use Rattle.lard_lab.specs.declared.targets.Target.{Target}
use Rattle.lard_lab.specs.Desk.{Desk}
use Rattle.lard_lab.specs.Sound.{IsDeskSound}
use Rattle.lard_lab.specs.Targets.{fresh_target}
use Rattle.lard_lab.proofs.Soundness.{added-sound}
use Rattle.lard_lab.proofs.assigner.Assigner.add.Goals as goal

-- both ways a sum goes
both : (d : Desk) (path : List ℕ) (size : ℕ) (new : List (List ℕ × Target)) (r : Result (Unit {0}) FileFault) → IsDeskSound d
    → OnOk r (new ≡ d.targets ++ (path, fresh_target size) ∷ []) → OnErr r (new ≡ d.targets) → IsDeskSound (record d { targets = new })
both d path size new (Ok _) s ok err = subst (λ (t : List (List ℕ × Target)). IsDeskSound (record d { targets = t })) (sym ok) (added-sound d path size s)
both d path size new (Err _) s ok err = subst (λ (t : List (List ℕ × Target)). IsDeskSound (record d { targets = t })) (sym err) s

pub invariant_of-self : goal.invariant_of-self
invariant_of-self c =
    let old : Desk = record { policy = c.self.inside.policy; config = c.self.inside.config; time = c.self.inside.time; made = c.self.inside.made; loads = c.self.inside.loads; targets = c.self.inside.targets } in
    (c.self.invariant.0, both old c.args.path.now c.args.size c.add.new.self c.add.result c.self.invariant.1 c.add.ensures.ok c.add.ensures.err)
