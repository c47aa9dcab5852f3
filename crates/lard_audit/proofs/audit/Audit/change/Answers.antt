-- What a packet that is sent asks for follows from the rules that are kept.
use Rattle.std.proofs.Common.{sym, ap, ◌∙◌}
use Rattle.lard_journal.specs.declared.rec.Rec.TheVariants as rec
use Rattle.lard_audit.specs.State.{broken_at}
use Rattle.lard_audit.proofs.Auditing.{keeps-all}
use Rattle.lard_audit.proofs.audit.Audit.change.Goals as goal

pub send-requires : goal.send-requires
send-requires c = (keeps-all c.args.self.now (rec.Sent c.in-Sent.k c.in-Sent.from c.in-Sent.to c.in-Sent.bytes) (ap (broken_at c.args.self.now) (sym c.in-Sent.is) ∙ c.requires)).sent
