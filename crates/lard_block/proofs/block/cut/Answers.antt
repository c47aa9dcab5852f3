-- The code is the definition, and its places lie within the bytes.
use Rattle.std.proofs.Common.{◌∙◌, sym, subst, Some, None, length}
use Rattle.lard_block.specs.Blocks.{IsWithin}
use Rattle.lard_block.proofs.Cutting.{cut-code, cut-within, more-awaited, none-in-time}
use Rattle.lard_block.proofs.block.cut.Goals as goal

pub returns-in-Some-clause-value : goal.returns-in-Some-clause-value
returns-in-Some-clause-value c = cut-code c.args.bytes.now c.leading_pairs-skip.result c.min.result (Some c.in-Some.len) c.leading_pairs-skip.ensures.value c.min.ensures c.in-Some.ensures

pub returns-in-Some-clause-within : goal.returns-in-Some-clause-within
returns-in-Some-clause-within c = subst (λ f. IsWithin f (length c.args.bytes.now)) (sym (returns-in-Some-clause-value c)) (cut-within c.args.bytes.now)

pub returns-in-None-clause-value : goal.returns-in-None-clause-value
returns-in-None-clause-value c = more-awaited c.leading_pairs-skip.result _ c.if-rest-lt-MAX_HEAD_BYTES.true
    ∙ cut-code c.args.bytes.now c.leading_pairs-skip.result c.min.result None c.leading_pairs-skip.ensures.value c.min.ensures c.in-None.ensures

pub returns-in-None-clause-within : goal.returns-in-None-clause-within
returns-in-None-clause-within c = subst (λ f. IsWithin f (length c.args.bytes.now)) (sym (returns-in-None-clause-value c)) (cut-within c.args.bytes.now)

pub returns-in-None-2-clause-value : goal.returns-in-None-2-clause-value
returns-in-None-2-clause-value c = none-in-time c.leading_pairs-skip.result _ c.if-rest-lt-MAX_HEAD_BYTES.false
    ∙ cut-code c.args.bytes.now c.leading_pairs-skip.result c.min.result None c.leading_pairs-skip.ensures.value c.min.ensures c.in-None-2.ensures

pub returns-in-None-2-clause-within : goal.returns-in-None-2-clause-within
returns-in-None-2-clause-within c = subst (λ f. IsWithin f (length c.args.bytes.now)) (sym (returns-in-None-2-clause-value c)) (cut-within c.args.bytes.now)
