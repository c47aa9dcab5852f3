-- By what holds of every state.
use Rattle.lard_laws.proofs.StepsLinking.{reached-linked, settings-stay}
use Rattle.lard_laws.proofs.states_are_told.Goals as goal

pub returns : goal.returns
returns c = record {
  settings = settings-stay;
  packets = λ config files m r. (reached-linked config files m r).is;
  responses = λ config files m r. (reached-linked config files m r).bytes;
}
