-- The same of tests over states and jobs that have numbers, since a contract cannot range over types and facts.
use Rattle.std.specs.Prelude.{◌≡◌, ℕ, Bool, true}
use Rattle.lard_rounds.specs.Rounds.{ComesToRest, Game, Owes}

pub record Tests : Type 0 where
  pub on_way : ℕ → ℕ → Bool
  pub queued : ℕ → ℕ → Bool
  pub sent : ℕ → ℕ
  pub delivers : ℕ → ℕ → ℕ → Bool
  pub completes : ℕ → ℕ → ℕ → Bool
  pub fires : ℕ → ℕ → Bool
  pub begins : ℕ → ℕ → Bool
  pub is_quiet : ℕ → Bool
  pub good : ℕ → Bool
  pub units : ℕ → ℕ
  pub chain : ℕ → ℕ → ℕ
  pub job_chain : ℕ → ℕ → ℕ
  pub near : ℕ → ℕ → ℕ → Bool
  pub job_near : ℕ → ℕ → ℕ → Bool

-- the machine that passes them
abbrev pub tested : Tests → Game ℕ ℕ
tested t = record {
  on_way = λ m k. t.on_way m k ≡ true;
  queued = λ m j. t.queued m j ≡ true;
  sent = t.sent;
  delivers = λ m k n. t.delivers m k n ≡ true;
  completes = λ m j n. t.completes m j n ≡ true;
  fires = λ m n. t.fires m n ≡ true;
  begins = λ m n. t.begins m n ≡ true;
  is_quiet = λ m. t.is_quiet m ≡ true;
  good = λ m. t.good m ≡ true;
  units = t.units;
  chain = t.chain;
  job_chain = t.job_chain;
  near = λ m d k. t.near m d k ≡ true;
  job_near = λ m d j. t.job_near m d j ≡ true;
}

-- What owes as much comes to rest.
abbrev pub MachinesComeToRest : Type 0
MachinesComeToRest = (t : Tests) (longest reach : ℕ) → Owes (tested t) longest reach → ComesToRest (tested t) longest reach
