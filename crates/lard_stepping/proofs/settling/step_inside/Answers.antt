-- The record of the step's event, the first that it appended, is turned.
use Rattle.std.proofs.Common.{◌≡◌, ◌+◌, ◌∷◌, length, List, Ok, sym, ap, ◌∙◌, subst, arith, length-append}
use Rattle.lard_rules.specs.declared.machine.Machine.{Machine}
use Rattle.lard_stepping.specs.Sound.{IsMachineSound}
use Rattle.lard_stepping.proofs.Sound.{inner_sound}
use Rattle.lard_journal.specs.Inner.{turned_at}
use Rattle.lard_journal.specs.declared.rec.Rec.{Rec}
use Rattle.lard_journal.specs.declared.rec.Rec.TheVariants as rec
use Rattle.lard_settling.specs.Steps.{inner_given, inner_step}
use Rattle.lard_settling.proofs.Written.{step-appends}
use Rattle.lard_stepping.proofs.settling.step_inside.Goals as goal

pub turn_inner-requires : goal.turn_inner-requires
turn_inner-requires c =
    let old : Machine = c.args.machine.now in
    let new : Machine = c.machine_step.new.machine in
    let adds = step-appends old new c.args.event c.requires.ruled c.in_ok-machine_step.ensures.step in
    let grown : length new.journal ≡ length old.journal + length (rec.Event (old.events + 1) c.args.event ∷ adds.0) = ap length adds.1 ∙ length-append old.journal (rec.Event (old.events + 1) c.args.event ∷ adds.0) in
    record { there = omega (arith, grown, c.len-at.ensures) }

pub returns-clause-step : goal.returns-clause-step
unfolding inner_step
returns-clause-step c =
    let old : Machine = c.args.machine.now in
    let new : Machine = c.machine_step.new.machine in
    let turned : turned_at (length old.journal) new.journal ≡ c.turn_inner.new.self = ap (λ n. turned_at n new.journal) (sym c.len-at.ensures) ∙ sym c.turn_inner.ensures in
    ap (λ given. inner_given old given) c.in_ok-machine_step.ensures.step ∙ ap (λ (J : List Rec). Ok (record new { events = old.events; journal = J })) turned

pub returns-clause-sound : goal.returns-clause-sound
returns-clause-sound c =
    let old : Machine = c.args.machine.now in
    let new : Machine = c.machine_step.new.machine in
    let turned : turned_at (length old.journal) new.journal ≡ c.turn_inner.new.self = ap (λ n. turned_at n new.journal) (sym c.len-at.ensures) ∙ sym c.turn_inner.ensures in
    let adds = step-appends old new c.args.event c.requires.ruled c.in_ok-machine_step.ensures.step in
    let grown : length new.journal ≡ length old.journal + length (rec.Event (old.events + 1) c.args.event ∷ adds.0) = ap length adds.1 ∙ length-append old.journal (rec.Event (old.events + 1) c.args.event ∷ adds.0) in
    subst (λ (J : List Rec). IsMachineSound (record new { events = old.events; journal = J })) turned (inner_sound old new c.in_ok-machine_step.ensures.sound c.requires.sound.events (omega (arith, grown)))
