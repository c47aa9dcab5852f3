-- Each turn adds one byte.
use Rattle.std.proofs.Common.{◌+◌, ◌%◌, ◌∷◌, [], ◌++◌, length, sym, ap, ◌∙◌, arith}
use Rattle.lard_generate.specs.Files.{generated_content}
use Rattle.lard_generate.proofs.Listing.{listed_none, listed_more, length-listed}
use Rattle.lard_generate.proofs.files.content.Goals as goal

pub loop-j-init : goal.loop-j-init
loop-j-init c = c.in_ok-content.ensures.items ∙ sym (listed_none (λ j. (c.args.i + j) % 256))

pub loop-j-preserved : goal.loop-j-preserved
loop-j-preserved c =
    c.in_ok-push.ensures.items
    ∙ ap (λ bytes. bytes ++ c.byte.result ∷ []) c.loop-j.invariant
    ∙ ap (λ byte. generated_content c.args.i c.loop-j.j ++ byte ∷ []) c.byte.ensures
    ∙ sym (listed_more (λ j. (c.args.i + j) % 256) c.loop-j.j)

pub returns-clause-size : goal.returns-clause-size
returns-clause-size c = let count = length-listed (λ j. (c.args.i + j) % 256) c.loop-j.j in ap length c.loop-j.invariant ∙ count ∙ omega arith
