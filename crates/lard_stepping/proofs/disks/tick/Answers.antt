-- Sets that were changed before are changed before a later time, too.
use Rattle.std.proofs.Common.{◌+◌, [], ◌∷◌, sym, subst, arith}
use Rattle.lard_base.specs.declared.event.Event.TheVariants as event
use Rattle.lard_journal.specs.declared.rec.Rec.TheVariants as rec
use Rattle.lard_stepping.specs.Sound.{IsMachineSound}
use Rattle.lard_stepping.proofs.Sound.{passed_at}
use Rattle.lard_stepping.proofs.disks.tick.Goals as goal

pub returns-clause-sound : goal.returns-clause-sound
returns-clause-sound c =
    let m = c.args.machine.now in
    let s = c.requires.sound in
    let now = m.now + c.from.result in
    subst IsMachineSound (sym c.in_ok-note.ensures.ok) (passed_at m (event.Clock c.args.ms) (rec.Clock (record { 0 = now }) ∷ []) now s
    (λ target. omega (arith, s.clock target)) (omega (arith, s.time, c.ranges.ms.fits, c.from.ensures)))
