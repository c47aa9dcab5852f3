-- The event alone is recorded.
use Rattle.std.proofs.Common.{[], sym, subst}
use Rattle.lard_base.specs.declared.event.Event.TheVariants as event
use Rattle.lard_stepping.specs.Sound.{IsMachineSound}
use Rattle.lard_stepping.proofs.Sound.{passed_sound}
use Rattle.lard_stepping.proofs.settling.begin.Goals as goal

pub returns-clause-sound : goal.returns-clause-sound
returns-clause-sound c = subst IsMachineSound (sym c.in_ok-mark.ensures.ok) (passed_sound c.args.machine.now (event.Settle c.args.rounds) [] c.requires.sound)
