-- The world stands as long as memory suffices, and its journal obeys the laws.
use Rattle.std.proofs.Common.{◌∙◌, ap, sym, subst}
use Rattle.lard_rules.specs.Machine.{machine_step}
use Rattle.lard_laws.specs.Lawful.{IsLawful}
use Rattle.lard_world.specs.World.{WorldStanding}
use Rattle.lard_world.proofs.Runs.{run-steps, runs-on, step-leads, still-lawful}
use Rattle.lard_files.specs.Files.{file_at}
use Rattle.lard_settling.specs.Written.{written_out}
use Rattle.lard_world.proofs.world.World.step.Goals as goal

pub machine_step-done-requires-clause-sound : goal.machine_step-done-requires-clause-sound
machine_step-done-requires-clause-sound c = (c.self.invariant (ap (λ w. w.spoiled) c.self.view_is ∙ c.requires.usable)).sound

pub machine_step-done-requires-clause-set : goal.machine_step-done-requires-clause-set
machine_step-done-requires-clause-set c = (c.self.invariant (ap (λ w. w.spoiled) c.self.view_is ∙ c.requires.usable)).set

pub machine_step-done-requires-clause-closes : goal.machine_step-done-requires-clause-closes
machine_step-done-requires-clause-closes c = run-steps c.self.inside.machine (c.self.invariant (ap (λ w. w.spoiled) c.self.view_is ∙ c.requires.usable)) c.args.event

pub invariant_of-self : goal.invariant_of-self
invariant_of-self c = λ usable.
    let old = c.self.inside.machine in
    let new = c.machine_step-done.new.machine in
    let run = c.self.invariant (ap (λ w. w.spoiled) c.self.view_is ∙ c.requires.usable) in
    runs-on old new run (machine_step old c.args.event) (step-leads old new run c.args.event c.requires.ruled)
    c.machine_step-done.result c.machine_step-done.ensures.step c.machine_step-done.ensures.sound (sym c.is_short-self-inside.ensures ∙ usable)

pub returns-clause-lawful : goal.returns-clause-lawful
returns-clause-lawful c =
    let old = c.self.inside.machine in
    let new = c.machine_step-done.new.machine in
    let run = c.self.invariant (ap (λ w. w.spoiled) c.self.view_is ∙ c.requires.usable) in
    subst (λ (w : WorldStanding). IsLawful w.machine.config (file_at w.machine.files) (written_out new.journal)) c.self.view_is
    (still-lawful old new run (machine_step old c.args.event) (step-leads old new run c.args.event c.requires.ruled) c.machine_step-done.result c.machine_step-done.ensures.step)
