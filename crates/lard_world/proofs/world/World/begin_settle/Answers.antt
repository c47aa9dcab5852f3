-- The world stands as long as memory suffices, and its journal obeys the laws.
use Rattle.std.proofs.Common.{◌∙◌, ap, sym, subst}
use Rattle.lard_laws.specs.Lawful.{IsLawful}
use Rattle.lard_world.specs.World.{WorldStanding}
use Rattle.lard_world.proofs.Runs.{begun-leads, runs-on, still-lawful}
use Rattle.lard_files.specs.Files.{file_at}
use Rattle.lard_settling.specs.Steps.{settle_begun}
use Rattle.lard_settling.specs.Written.{written_out}
use Rattle.lard_world.proofs.world.World.begin_settle.Goals as goal

pub begin-done-requires : goal.begin-done-requires
begin-done-requires c = record { sound = (c.self.invariant (ap (λ w. w.spoiled) c.self.view_is ∙ c.requires.usable)).sound }

pub invariant_of-self : goal.invariant_of-self
invariant_of-self c = λ usable.
    let old = c.self.inside.machine in
    let new = c.begin-done.new.machine in
    let run = c.self.invariant (ap (λ w. w.spoiled) c.self.view_is ∙ c.requires.usable) in
    runs-on old new run (settle_begun old c.args.rounds) (begun-leads old new run c.args.rounds)
    c.begin-done.result c.begin-done.ensures.step c.begin-done.ensures.sound (sym c.is_short-self-inside.ensures ∙ usable)

pub returns-clause-lawful : goal.returns-clause-lawful
returns-clause-lawful c =
    let old = c.self.inside.machine in
    let new = c.begin-done.new.machine in
    let run = c.self.invariant (ap (λ w. w.spoiled) c.self.view_is ∙ c.requires.usable) in
    subst (λ (w : WorldStanding). IsLawful w.machine.config (file_at w.machine.files) (written_out new.journal)) c.self.view_is
    (still-lawful old new run (settle_begun old c.args.rounds) (begun-leads old new run c.args.rounds) c.begin-done.result c.begin-done.ensures.step)
