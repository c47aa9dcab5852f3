-- What was held under the key is dropped, and then the message is held.
use Rattle.lard_resend.proofs.Renewed.{renewing}
use Rattle.lard_resend.proofs.pending.Pending.renew.Goals as goal

pub returns-clause-ok : goal.returns-clause-ok
returns-clause-ok c = renewing c.args.self.now c.settle.new.self c.hold.new.self c.args.key.c (record { kind = c.args.key.kind; r = c.args.key.r; to = c.args.to; bytes = c.args.bytes }) c.hold.result c.settle.ensures.after c.hold.ensures.ok
