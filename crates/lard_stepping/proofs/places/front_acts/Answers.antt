-- The front end's code can rely on what it kept.
use Rattle.std.proofs.Common.{◌+◌, length, arith}
use Rattle.lard_stepping.proofs.Sound.{front_sound, sound_more}
use Rattle.lard_stepping.proofs.places.front_acts.Goals as goal

pub tell-requires-clause-sound : goal.tell-requires-clause-sound
tell-requires-clause-sound c =
    let m = c.args.machine.now in
    let most = length m.journal + length c.in_ok-out.out.notes in
    front_sound most m c.step.new.state (sound_more m (length m.journal) most c.requires.sound (omega arith)) c.in_ok-out.ensures.sound c.in_ok-out.ensures.clock
