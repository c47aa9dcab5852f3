-- The parts in the order in which they are written make the spelling.
use Rattle.std.proofs.Common.{◌-◌, length, ◌∙◌, sym, arith}
use Rattle.lard_segment.specs.Segment.{Said, said}
use Rattle.lard_segment.proofs.Written.{length-spelled, length-spelled-most, written}
use Rattle.lard_segment.proofs.writing.encode.Goals as goal

pub returns-clause-len : goal.returns-clause-len
returns-clause-len c = c.put_rest-len.ensures.len ∙ sym (length-spelled c.args.c c.args.dir (said c.args.segment.now))

pub returns-clause-bytes : goal.returns-clause-bytes
returns-clause-bytes c =
    let s : Said = said c.args.segment.now in
    written c.args.c c.args.dir s c.args.buf.now c.put_rest-len.new.buf c.put_fixed.new.buf c.put_checksum.new.buf c.put_rest-len.result (c.put_rest-len.result - length s.payload) c.checksum-agreeing.result
    (omega (arith, c.requires.room)) c.put_rest-len.ensures.len (omega (arith, c.put_rest-len.ensures.len)) c.put_rest-len.ensures.bytes c.put_fixed.ensures (c.checksum-agreeing.ensures c.args.dir) c.put_checksum.ensures

pub returns-clause-within : goal.returns-clause-within
returns-clause-within c = (omega (arith, c.put_rest-len.ensures.len), omega (arith, returns-clause-len c, length-spelled-most c.args.c c.args.dir (said c.args.segment.now) c.requires.small_payload))
