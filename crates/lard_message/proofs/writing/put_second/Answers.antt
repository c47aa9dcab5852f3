-- Five writes.
use Rattle.lard_message.proofs.Written.{five}
use Rattle.lard_message.proofs.writing.put_second.Goals as goal

pub returns : goal.returns
returns c =
    five c.put_number-3.result _ _ _ _ _ _ _ _ _ _ _
    c.in_ok-put_short.ensures c.in_ok-put_number.ensures c.in_ok-put_number-2.ensures c.in_ok-put_short-2.ensures
    c.put_number-3.ensures
