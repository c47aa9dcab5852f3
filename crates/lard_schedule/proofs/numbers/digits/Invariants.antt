use Rattle.std.proofs.Common.{◌≡◌, ◌≤◌, drop}
use Rattle.lard_schedule.specs.Words.{digits_on}
use Rattle.lard_schedule.proofs.numbers.digits.Given as goal

-- the number so far and the digits that are left give what all digits give
abbrev pub invariant-loop-digit : goal.invariant-loop-digit
invariant-loop-digit l = (digits_on l.most l.number (drop l.digit-index l.word) ≡ digits_on l.most 0 l.word) × (l.number ≤ l.most)
