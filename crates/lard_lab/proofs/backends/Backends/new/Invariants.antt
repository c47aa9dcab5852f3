-- So many nodes were made.
use Rattle.std.proofs.Common.{◌≡◌, replicate}
use Rattle.lard_lab.specs.Backends.{cold}
use Rattle.lard_lab.proofs.backends.Backends.new.Given as goal

abbrev pub invariant-loop : goal.invariant-loop
invariant-loop l = l.all.items ≡ replicate l.counter (cold l.bytes)
