-- When a source or a sink may answer that it failed.
use Rattle.std.specs.Prelude.{◌≡◌, ℕ, ◌≤◌, ◌+◌, ◌-◌, ◌^◌, min, OnOk, OnErr, Result, Ok, Err}

-- a count with one more, which stays at the greatest u64
abbrev pub raised : ℕ → ℕ
raised count = min (count + 1) (2 ^ 64 - 1)

-- the count rose, or stands at the greatest u64
abbrev pub Rose : ℕ → ℕ → Type 0
Rose before now = raised before ≤ now

-- the count of faults never falls, an answer that something failed has a cause, and every other leaves the count
pub record HasCause {T E : Type 0} (before now : ℕ) (result : Result T E) : Type 0 where
  pub later : before ≤ now
  pub failed : OnErr result (Rose before now)
  pub same : OnOk result (now ≡ before)

-- a count of faults after an answer
abbrev pub faults_counted : {T E : Type 0} → ℕ → Result T E → ℕ
faults_counted count (Ok _) = count
faults_counted count (Err _) = raised count
