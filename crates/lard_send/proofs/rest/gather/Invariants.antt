-- What is filled, and then what is wanted of the parts that are left, is all that was wanted.
use Rattle.std.proofs.Common.{◌≡◌, ◌-◌, ◌≤◌, ◌++◌, length, take, drop}
use Rattle.std.specs.List.{concat}
use Rattle.std.specs.VecDeque.Iter.{deque_iter_rest}
use Rattle.lard_send.proofs.rest.gather.Given as goal

abbrev pub invariant-loop-part : goal.invariant-loop-part
invariant-loop-part l = record {
  within : l.filled ≤ length l.buf;
  wanted : take l.filled l.buf ++ take (length l.buf - l.filled) (drop l.skip (concat (deque_iter_rest l.part-iterator)))
      ≡ take (length l.fn.buf) (drop l.fn.skip (concat l.parts.items));
}
