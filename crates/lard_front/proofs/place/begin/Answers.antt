-- The state at its beginning is sound.
use Rattle.std.proofs.Common.{rules}
use Rattle.lard_rules.proofs.FrontStepping.{begins_sound}
use Rattle.lard_front.proofs.place.begin.Goals as goal

pub returns-clause-sound : goal.returns-clause-sound
returns-clause-sound c = begins_sound c.args.config _ c.requires (search rules)
