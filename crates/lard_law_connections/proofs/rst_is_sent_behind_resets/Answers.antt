-- By what each rule keeps.
use Rattle.lard_law_connections.proofs.ResetsRuns.{ends-follow, rst-follows}
use Rattle.lard_law_connections.proofs.rst_is_sent_behind_resets.Goals as goal

pub returns : goal.returns
returns c = record {
  ends = ends-follow;
  rst = rst-follows;
}
