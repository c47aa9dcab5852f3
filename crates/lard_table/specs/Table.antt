-- What is looked up in a finite map that is kept in a table, and what is done to it.
use Rattle.std.specs.Prelude.{◌≡◌, ℕ, ◌<◌, Option, Some, None}
use Rattle.std.specs.FinMap.{FinMap, get, insert, remove}
use Rattle.std.specs.Ordering.{nat_cmp}

-- The value of some number was taken out.
pub record TakesOut {V : Type 0} (old new : FinMap nat_cmp V) (value : V) : Type 0 where
  pub number : ℕ
  pub found : get old number ≡ Some value
  pub rest : new ≡ remove old number

-- no number above this one has a value
abbrev pub IsLast : {V : Type 0} → FinMap nat_cmp V → ℕ → Type 0
IsLast m number = (above : ℕ) → number < above → get m above ≡ None

-- next is the least number above this one that has a value
pub record IsNextAbove {V : Type 0} (m : FinMap nat_cmp V) (number next : ℕ) (value : V) : Type 0 where
  pub above : number < next
  pub found : get m next ≡ Some value
  pub least : (between : ℕ) → number < between → between < next → get m between ≡ None

-- a map in which a number is set to a value, or to none
abbrev pub put_or : {V : Type 0} → FinMap nat_cmp V → ℕ → Option V → FinMap nat_cmp V
put_or m number None = remove m number
put_or m number (Some value) = insert m number value
