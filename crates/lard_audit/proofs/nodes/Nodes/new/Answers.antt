-- There are 64 of them.
use Rattle.std.proofs.Common.{◌∙◌, ap, length}
use Rattle.std.proofs.lemmas.List.{length-replicate}
use Rattle.lard_audit.specs.Nodes.{idle}
use Rattle.lard_audit.proofs.nodes.Nodes.new.Goals as goal

pub invariant_of-result : goal.invariant_of-result
invariant_of-result c = ap length c.in_ok-idle_nodes.ensures ∙ length-replicate 64 (idle c.args.bytes)
