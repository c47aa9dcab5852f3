-- Each turn adds one file, which may be added.
use Rattle.std.proofs.Common.{◌∷◌, [], ◌++◌, sym, ap, ◌∙◌, arith}
use Rattle.std.specs.Prelude.{slice_index}
use Rattle.lard_files.specs.Files.{add_check}
use Rattle.lard_generate.specs.Files.{generated_file, generated_path}
use Rattle.lard_generate.proofs.Listing.{listed_none, listed_more}
use Rattle.lard_generate.proofs.Paths.{may_be_added}
use Rattle.lard_generate.proofs.files.files.Goals as goal

pub loop-i-init : goal.loop-i-init
loop-i-init c = c.new-files.ensures ∙ sym (listed_none (generated_file c.args.sizes.now))

pub add-requires-clause-allowed : goal.add-requires-clause-allowed
add-requires-clause-allowed c =
    let sizes = c.args.sizes.now in
    ap (λ files. add_check files (generated_path c.loop-i.i) (slice_index sizes c.loop-i.i)) c.loop-i.invariant
    ∙ may_be_added sizes c.loop-i.i c.requires.count (omega arith) c.requires.small

pub loop-i-preserved : goal.loop-i-preserved
loop-i-preserved c =
    let file = generated_file c.args.sizes.now in
    c.in_ok-add.ensures ∙ ap (λ files. files ++ file c.loop-i.i ∷ []) c.loop-i.invariant ∙ sym (listed_more file c.loop-i.i)
