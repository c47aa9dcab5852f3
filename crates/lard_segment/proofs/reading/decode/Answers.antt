-- Where no fault applies, each part is read at its place.
use Rattle.std.proofs.Common.{arith, ◌∙◌, sym, Ok, eq-eqb}
use Rattle.std.proofs.lemmas.List.{take_rest}
use Rattle.std.proofs.lemmas.Bool.Decides.{nat_tests}
use Rattle.lard_segment.proofs.InOrder.{in_order, at_places}
use Rattle.lard_segment.proofs.Decoded.{length-decoded, mss-decoded}
use Rattle.lard_segment.proofs.reading.decode.Goals as goal

pub returns-clause-given : goal.returns-clause-given
returns-clause-given c = in_order c.args.bytes.now c.args.c c.args.dir c.in-Some.begins (Ok c.in_ok-mss.mss) (grind (arith, nat_tests)) (eq-eqb _ _ (sym c.word.ensures ∙ c.if-word-checksum.false ∙ c.checksum.ensures c.args.dir)) (cc) (sym c.in-Some.ensures.value) (sym c.mss_of.ensures ∙ c.in_ok-mss.was)
    ∙ at_places c.args.bytes.now c.in-Some.begins _ c.number.ensures c.number-2.ensures c.flags.ensures c.word-2.ensures (take_rest c.args.bytes.now c.in-Some.begins)

pub returns-clause-size : goal.returns-clause-size
returns-clause-size c = mss-decoded c.args.bytes.now c.args.c c.args.dir _ (returns-clause-given c)

pub returns-clause-within : goal.returns-clause-within
returns-clause-within c = length-decoded c.args.bytes.now c.args.c c.args.dir _ (returns-clause-given c)
