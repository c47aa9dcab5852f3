-- The world stands as long as memory suffices, and its journal obeys the laws.
use Rattle.std.proofs.Common.{◌∙◌, ap, sym, subst}
use Rattle.lard_laws.specs.Lawful.{IsLawful}
use Rattle.lard_world.specs.World.{WorldStanding}
use Rattle.lard_world.proofs.Runs.{inner-leads, run-steps, runs-on, still-lawful}
use Rattle.lard_files.specs.Files.{file_at}
use Rattle.lard_settling.specs.Steps.{inner_step}
use Rattle.lard_settling.specs.Written.{written_out}
use Rattle.lard_world.proofs.world.World.inner.Goals as goal

pub step_inside-done-requires-clause-sound : goal.step_inside-done-requires-clause-sound
step_inside-done-requires-clause-sound c = (c.self.invariant (ap (λ w. w.spoiled) c.self.view_is ∙ c.requires.usable)).sound

pub step_inside-done-requires-clause-set : goal.step_inside-done-requires-clause-set
step_inside-done-requires-clause-set c = (c.self.invariant (ap (λ w. w.spoiled) c.self.view_is ∙ c.requires.usable)).set

pub step_inside-done-requires-clause-closes : goal.step_inside-done-requires-clause-closes
step_inside-done-requires-clause-closes c = run-steps c.self.inside.machine (c.self.invariant (ap (λ w. w.spoiled) c.self.view_is ∙ c.requires.usable)) c.args.event

pub invariant_of-self : goal.invariant_of-self
invariant_of-self c = λ usable.
    let old = c.self.inside.machine in
    let new = c.step_inside-done.new.machine in
    let run = c.self.invariant (ap (λ w. w.spoiled) c.self.view_is ∙ c.requires.usable) in
    runs-on old new run (inner_step old c.args.event) (inner-leads old new run c.args.event c.requires.ruled)
    c.step_inside-done.result c.step_inside-done.ensures.step c.step_inside-done.ensures.sound (sym c.is_short-self-inside.ensures ∙ usable)

pub returns-clause-lawful : goal.returns-clause-lawful
returns-clause-lawful c =
    let old = c.self.inside.machine in
    let new = c.step_inside-done.new.machine in
    let run = c.self.invariant (ap (λ w. w.spoiled) c.self.view_is ∙ c.requires.usable) in
    subst (λ (w : WorldStanding). IsLawful w.machine.config (file_at w.machine.files) (written_out new.journal)) c.self.view_is
    (still-lawful old new run (inner_step old c.args.event) (inner-leads old new run c.args.event c.requires.ruled) c.step_inside-done.result c.step_inside-done.ensures.step)
