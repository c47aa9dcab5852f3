-- The checksum's field is taken off the sum of all words.
use Rattle.std.proofs.Common.{◌∙◌, arith}
use Rattle.lard_segment.proofs.Sums.{words_sum-blanked, checksum_of-sums}
use Rattle.lard_segment.proofs.checksum.checksum.Goals as goal

pub overflow_sub-total : goal.overflow_sub-total
overflow_sub-total c = omega (arith, words_sum-blanked c.args.bytes.now c.requires.header, c.sum.ensures.value, c.from-field.ensures, c.word.ensures)

pub returns : goal.returns
returns c = λ dir.
    checksum_of-sums c.args.c dir c.args.bytes.now c.pseudo_sum.result c.sum.result c.from-field.result c.requires.header (c.pseudo_sum.ensures.value dir)
    c.sum.ensures.value (c.from-field.ensures ∙ c.word.ensures)
