-- By what each rule of a stay keeps.
use Rattle.lard_law_connections.proofs.BytesStays.{contents-keep, node-hears, offers-keep, reads-keep, tags-keep, timer-keeps}
use Rattle.lard_law_connections.proofs.a_node_keeps_the_agreement.Goals as goal

pub returns : goal.returns
returns c = record {
  offer = offers-keep;
  segment = node-hears;
  tag = tags-keep;
  content = contents-keep;
  disk = reads-keep;
  timer = timer-keeps;
}
