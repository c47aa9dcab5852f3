-- An open client answers nothing at once, and what it accepts lies in the data.
use Rattle.lard_client.proofs.Accepted.{part_within, no_reply}
use Rattle.lard_client.specs.Leaving.{IsHeld, IsWritable}
use Rattle.lard_segment.specs.Segment.{said}
use Rattle.lard_client.proofs.client.Client.arrive.Goals as goal

pub returns-in-Open-clause-part : goal.returns-in-Open-clause-part
returns-in-Open-clause-part c = part_within c.args.self.now (said c.args.segment.now) c.hear.result c.hear.new.self c.hear.ensures

pub returns-in-Open-clause-held : goal.returns-in-Open-clause-held
returns-in-Open-clause-held c = no_reply c.args.self.now (said c.args.segment.now) c.hear.result c.hear.new.self (IsHeld c.hear.new.self) c.hear.ensures

pub returns-in-Open-clause-writable : goal.returns-in-Open-clause-writable
returns-in-Open-clause-writable c = no_reply c.args.self.now (said c.args.segment.now) c.hear.result c.hear.new.self IsWritable c.hear.ensures
