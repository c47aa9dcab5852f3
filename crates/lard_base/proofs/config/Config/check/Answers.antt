-- Each key is tested in turn.
use Rattle.std.proofs.Common.{sym, ◌∙◌, IsTrue}
use Rattle.std.proofs.lemmas.List.Elements.{All-more}
use Rattle.std.proofs.lemmas.Result.{err_from_is_err_and}
use Rattle.lard_base.specs.declared.config.Key.TheVariants.{Nodes}
use Rattle.lard_base.specs.Config.{all_keys, is_in_range, value_of}
use Rattle.lard_base.proofs.Ranges.{stops_at, goes_at, passed_all}
use Rattle.lard_base.proofs.config.Config.check.Goals as goal

pub returns-in_err-check-clause-answer : goal.returns-in_err-check-clause-answer
returns-in_err-check-clause-answer c =
    let p = err_from_is_err_and c.from_residual.result c.from_residual.ensures.1 in
    let e = rw c.get.ensures at c.check.ensures in
    rw (p.1, p.2) (sym (stops_at c.args.self.now all_keys c.loop-key.key-index Nodes c.in_err-check.field-0.0 c.loop-key-test.true (sym e ∙ c.in_err-check.was)) ∙ c.loop-key.invariant.rest)

pub loop-key-preserved : goal.loop-key-preserved
loop-key-preserved c =
    let e = rw c.get.ensures at c.check.ensures in
    let g = goes_at c.args.self.now all_keys c.loop-key.key-index Nodes c.loop-key-test.true (sym e ∙ c.in_ok-check.was) in record {
      rest = g.0 ∙ c.loop-key.invariant.rest;
      passed = All-more (λ key. IsTrue (is_in_range key (value_of c.args.self.now key))) all_keys c.loop-key.key-index Nodes c.loop-key-test.true c.loop-key.invariant.passed g.1;
    }

pub room-requires : goal.room-requires
room-requires c = passed_all c.args.self.now c.loop-key.key-index c.loop-key-test.false c.loop-key.invariant.passed

pub returns-clause-in_range : goal.returns-clause-in_range
returns-clause-in_range c = passed_all c.args.self.now c.loop-key.key-index c.loop-key-test.false c.loop-key.invariant.passed
