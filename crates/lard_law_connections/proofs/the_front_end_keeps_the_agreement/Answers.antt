-- By what each rule of the front end keeps.
use Rattle.lard_law_connections.proofs.BytesFronts.{admissions-keep, ends-kept, front-hears, timer-keeps}
use Rattle.lard_law_connections.proofs.the_front_end_keeps_the_agreement.Goals as goal

pub returns : goal.returns
returns c = record {
  segment = front-hears;
  timer = timer-keeps;
  end = ends-kept;
  admission = admissions-keep;
}
