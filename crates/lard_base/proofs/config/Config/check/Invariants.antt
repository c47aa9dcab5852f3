-- What was checked is in its range, and the rest gives the answer.
use Rattle.std.proofs.Common.{◌≡◌, IsTrue, All, take, drop}
use Rattle.lard_base.specs.Config.{all_keys, is_in_range, value_of, checked_from, config_check}
use Rattle.lard_base.proofs.config.Config.check.Given as goal

abbrev pub invariant-loop-key : goal.invariant-loop-key
invariant-loop-key l = record {
  rest : checked_from l.self (drop l.key-index all_keys) ≡ config_check l.self;
  passed : All (λ key. IsTrue (is_in_range key (value_of l.self key))) (take l.key-index all_keys);
}
