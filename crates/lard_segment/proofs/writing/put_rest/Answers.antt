-- The options and the data, one behind the other, and the rest as it was.
use Rattle.lard_segment.proofs.Written.{behind}
use Rattle.lard_segment.specs.Options.{option_bytes}
use Rattle.lard_segment.proofs.writing.put_rest.Goals as goal

pub returns-clause-bytes : goal.returns-clause-bytes
returns-clause-bytes c = behind (option_bytes c.args.mss) c.args.payload.now c.args.buf.now c.put_options-len.new.buf c.put_payload.new.buf c.put_options-len.result c.put_options-len.ensures.len c.put_options-len.ensures.bytes c.put_payload.ensures
