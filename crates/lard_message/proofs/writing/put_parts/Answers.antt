-- Three writes.
use Rattle.lard_message.proofs.Written.{three}
use Rattle.lard_message.proofs.writing.put_parts.Goals as goal

pub returns : goal.returns
returns c =
    three c.put_counted.result _ _ _ _ _ _ _ c.in_ok-put_first.ensures c.in_ok-put_second.ensures (rw c.as_slice-unread.ensures at c.put_counted.ensures)
