-- Records that are still to be told take nothing from the places.
use Rattle.std.proofs.Common.{◌+◌, length, arith}
use Rattle.lard_stepping.proofs.Sound.{sound_more}
use Rattle.lard_stepping.proofs.acting.conclude.Goals as goal

pub tell-requires-clause-sound : goal.tell-requires-clause-sound
tell-requires-clause-sound c =
    let m = c.args.machine.now in
    sound_more m (length m.journal) (length m.journal + length c.in_ok-out.out.notes) c.requires.sound (omega arith)
