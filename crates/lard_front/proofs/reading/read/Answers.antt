-- Each turn is one of the definition's.
use Rattle.std.proofs.Common.{None, sym, ap, ◌∙◌}
use Rattle.lard_rules.proofs.FrontTurns.{less-left, reads-last, reads-none, reads-on}
use Rattle.lard_front.specs.Hand.{reading_of, step_seen}
use Rattle.lard_serving.specs.Serving.{env_seen}
use Rattle.lard_front.proofs.reading.read.Goals as goal

pub reading-smaller : goal.reading-smaller
reading-smaller c =
    less-left (env_seen c.args.env.now) (reading_of c.reading.endpoint c.reading.service None) (reading_of c.turn.new.endpoint c.turn.new.service None)
    (ap (step_seen c.turn.new.endpoint c.turn.new.service) (sym c.in-On.is) ∙ c.in_ok-turn.ensures.turn)

pub reading-preserved : goal.reading-preserved
reading-preserved c = record {
  goes_on = reads-on (env_seen c.args.env.now) (reading_of c.reading.endpoint c.reading.service None) (reading_of c.turn.new.endpoint c.turn.new.service None)
      (sym c.may_read.ensures.test ∙ c.reading-test.true) (ap (step_seen c.turn.new.endpoint c.turn.new.service) (sym c.in-On.is) ∙ c.in_ok-turn.ensures.turn) ∙ c.reading.invariant.goes_on;
  counted = c.in_ok-turn.ensures.counted;
}

pub returns-in-Last-clause-read : goal.returns-in-Last-clause-read
returns-in-Last-clause-read c =
    reads-last (env_seen c.args.env.now) (reading_of c.reading.endpoint c.reading.service None) (reading_of c.turn.new.endpoint c.turn.new.service c.in-Last.target)
    (sym c.may_read.ensures.test ∙ c.reading-test.true) (ap (step_seen c.turn.new.endpoint c.turn.new.service) (sym c.in-Last.is) ∙ c.in_ok-turn.ensures.turn) ∙ c.reading.invariant.goes_on

pub returns-clause-read : goal.returns-clause-read
returns-clause-read c =
    reads-none (env_seen c.args.env.now) (reading_of c.reading.endpoint c.reading.service None) (sym c.may_read.ensures.test ∙ c.reading-test.false) ∙ c.reading.invariant.goes_on
