-- The pairs so far, and those from here on, are all.
use Rattle.std.proofs.Common.{◌≡◌, ◌+◌, ◌≤◌, drop}
use Rattle.lard_request.specs.Verdict.{pairs_in}
use Rattle.lard_request.proofs.lines.count_pairs.Given as goal

abbrev pub invariant-loop-at : goal.invariant-loop-at
invariant-loop-at l = (l.count ≤ l.at) × (l.count + pairs_in (drop l.at l.bytes) ≡ pairs_in l.bytes)
