-- What was read is the front of what was left.
use Rattle.lard_base.proofs.Pieces.{read_part}
use Rattle.lard_base.proofs.sure.SureSourceSource.read.Goals as goal

pub returns-clause-bytes : goal.returns-clause-bytes
returns-clause-bytes c = read_part _ _ _ _ _ _ _ c.as_slice.ensures c.self.view_is c.copy_from_slice.ensures.after c.min-n.ensures
