use Rattle.std.proofs.Common.{◌≡◌, ◌+◌, ◌≤◌, length, drop}
use Rattle.lard_files.specs.Files.{file_at}
use Rattle.lard_rules.specs.Stay.{named_paths}
use Rattle.lard_stay.proofs.paths.count_named.Given as goal

-- those that were counted and those that are left are all
abbrev pub invariant-loop-entry : goal.invariant-loop-entry
invariant-loop-entry l = record {
  all : l.count + length (named_paths (file_at l.files) (drop l.entry-index l.batch)) ≡ length (named_paths (file_at l.files) l.batch);
  few : l.count ≤ l.entry-index;
}
