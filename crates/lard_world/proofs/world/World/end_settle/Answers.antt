-- The world stands where the closing record was appended, and rests where the rounds were enough.
use Rattle.std.proofs.Common.{◌≡◌, ◌∙◌, ap, sym, subst}
use Rattle.lard_rules.specs.declared.machine.Machine.{Machine}
use Rattle.lard_laws.specs.Lawful.{IsLawful}
use Rattle.lard_world.specs.Runs.{IsRun}
use Rattle.lard_world.specs.World.{WorldStanding}
use Rattle.lard_files.specs.Files.{file_at}
use Rattle.lard_settling.specs.Steps.{settle_closed}
use Rattle.lard_settling.specs.Written.{written_out}
use Rattle.lard_world.proofs.Runs.{closed-lawful, closed-rests, closed-run, where-done}
use Rattle.lard_world.proofs.world.World.end_settle.Goals as goal

pub invariant_of-self : goal.invariant_of-self
invariant_of-self c = λ fine.
    let old : Machine = c.self.inside.machine in
    let new : Machine = c.close-done.new.machine in
    let run = c.self.invariant (ap (λ w. w.spoiled) c.self.view_is ∙ c.requires.usable) in
    let closed : new ≡ settle_closed old c.args.rounds c.args.left = where-done c.close-done.result (new ≡ settle_closed old c.args.rounds c.args.left) c.close-done.ensures.ok (sym c.is_err-self-inside.ensures.value ∙ fine) in
    subst IsRun (sym closed) (closed-run old c.args.rounds c.args.left run)

pub returns-clause-enough : goal.returns-clause-enough
returns-clause-enough c =
    let old : Machine = c.self.inside.machine in
    let run = c.self.invariant (ap (λ w. w.spoiled) c.self.view_is ∙ c.requires.usable) in
    closed-rests old c.close-done.new.machine c.args.rounds c.args.left c.close-done.result run c.close-done.ensures.ok

pub returns-clause-lawful : goal.returns-clause-lawful
returns-clause-lawful c =
    let old : Machine = c.self.inside.machine in
    let new : Machine = c.close-done.new.machine in
    let run = c.self.invariant (ap (λ w. w.spoiled) c.self.view_is ∙ c.requires.usable) in
    subst (λ (w : WorldStanding). IsLawful w.machine.config (file_at w.machine.files) (written_out new.journal)) c.self.view_is
    (closed-lawful old new c.args.rounds c.args.left c.close-done.result run c.close-done.ensures.ok c.close-done.ensures.err)
