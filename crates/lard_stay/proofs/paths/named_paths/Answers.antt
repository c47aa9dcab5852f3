-- One more request was looked at.
use Rattle.std.proofs.Common.{arith}
use Rattle.lard_files.specs.Files.{file_at}
use Rattle.lard_stay.proofs.Naming.{named_more}
use Rattle.lard_stay.proofs.paths.named_paths.Goals as goal

pub loop-entry-preserved : goal.loop-entry-preserved
loop-entry-preserved c = record {
  all = named_more (file_at c.args.files.now) c.args.batch.now c.loop-entry.entry-index c.entry-item.result c.loop-entry.paths c.push_named.new.paths _
      c.loop-entry-test.true c.entry-item.is c.in_ok-push_named.ensures.paths c.loop-entry.invariant.all;
  few = omega (arith, c.loop-entry.invariant.few, c.in_ok-push_named.ensures.few);
  short = c.in_ok-push_named.ensures.short c.loop-entry.invariant.short;
}
