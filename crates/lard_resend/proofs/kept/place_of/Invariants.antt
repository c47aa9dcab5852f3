-- The place among the rest, behind those that were passed, is the place among all.
use Rattle.std.proofs.Common.{◌≡◌, ◌+◌, drop}
use Rattle.lard_resend.specs.Kept.{kept_place_of}
use Rattle.lard_resend.proofs.kept.place_of.Given as goal

abbrev pub invariant-loop-at : goal.invariant-loop-at
invariant-loop-at l = kept_place_of l.kind l.r (drop l.at l.all) + l.at ≡ kept_place_of l.kind l.r l.all
