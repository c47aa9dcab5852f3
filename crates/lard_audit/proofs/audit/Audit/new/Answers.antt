-- Nothing was fed yet.
use Rattle.std.proofs.Common.{refl}
use Rattle.lard_audit.proofs.Auditing.{begun}
use Rattle.lard_audit.proofs.audit.Audit.new.Goals as goal

pub returns : goal.returns
returns c = begun _ c.args.cfg c.new-packets.ensures.sent c.new-packets.ensures.lost c.new-owners.ensures c.in_ok-books.ensures c.in_ok-nodes.ensures refl c.new-targets.ensures
