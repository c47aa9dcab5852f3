use Rattle.std.proofs.Common.{◌≡◌, ◌++◌, ◌≤◌, All, length, drop}
use Rattle.lard_files.specs.Files.{file_at}
use Rattle.lard_rules.specs.Stay.{named_paths}
use Rattle.lard_stay.specs.Work.{IsPath}
use Rattle.lard_stay.proofs.paths.named_paths.Given as goal

-- those that were found and those that are left are all
abbrev pub invariant-loop-entry : goal.invariant-loop-entry
invariant-loop-entry l = record {
  all : l.paths ++ named_paths (file_at l.files) (drop l.entry-index l.batch) ≡ named_paths (file_at l.files) l.batch;
  few : length l.paths ≤ l.entry-index;
  short : All IsPath l.paths;
}
