-- What was read stands at the end.
use Rattle.std.proofs.Common.{◌++◌, take, ap, ◌∙◌}
use Rattle.lard_lines.proofs.lines.add_read.Goals as goal

pub returns-in-Ok-extend_from_slice-clause-taken : goal.returns-in-Ok-extend_from_slice-clause-taken
returns-in-Ok-extend_from_slice-clause-taken g c = record {
  taken = take c.in-Ok.taken c.read.new.buf;
  consumed = c.in-Ok.ensures.bytes.0;
  text = c.in-Ok-extend_from_slice.ensures.items ∙ ap (λ xs. xs ++ take c.in-Ok.taken c.read.new.buf) c.reserve.ensures.items;
}
