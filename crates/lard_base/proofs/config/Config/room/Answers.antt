-- The ranges bound the room.
use Rattle.std.proofs.Common.{arith}
use Rattle.lard_base.proofs.Ranges.{room_bound}
use Rattle.lard_base.proofs.config.Config.room.Goals as goal

pub overflow_sub-result : goal.overflow_sub-result
overflow_sub-result c = (room_bound _ c.requires).some_node

pub overflow_mul-result : goal.overflow_mul-result
overflow_mul-result c = let h = room_bound _ c.requires in omega (arith, h)

pub overflow_add-result : goal.overflow_add-result
overflow_add-result c = let h = room_bound _ c.requires in omega (arith, h)

pub overflow_sub-result-2 : goal.overflow_sub-result-2
overflow_sub-result-2 c = let h = room_bound _ c.requires in omega (arith, h)

pub returns-clause-most : goal.returns-clause-most
returns-clause-most c = let h = room_bound _ c.requires in omega (arith, h)
