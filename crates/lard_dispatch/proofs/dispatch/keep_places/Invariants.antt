use Rattle.std.proofs.Common.{◌≡◌, ◌≤◌, length, drop, take}
use Rattle.lard_dispatch.specs.Calls.{all_touched}
use Rattle.lard_dispatch.proofs.dispatch.keep_places.Given as goal

abbrev pub invariant-loop-path : goal.invariant-loop-path
invariant-loop-path l =
    (all_touched l.sets (drop l.path-index l.paths) ≡ all_touched l.initial.sets l.paths)
    × (take l.count l.sets ≡ l.initial.sets) × (l.count ≤ length l.sets)
