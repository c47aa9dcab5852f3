-- Each turn is one of the definition's.
use Rattle.std.proofs.Common.{refl, sym, ◌∙◌}
use Rattle.lard_stay.specs.Work.{stay_env_seen, work_seen}
use Rattle.lard_stay.proofs.Falling.{left, read_last, read_less, read_on, served, stopped}
use Rattle.lard_stay.proofs.turns.go_on.Goals as goal

pub turns-preserved-in_ok-serve-in-Serve : goal.turns-preserved-in_ok-serve-in-Serve
turns-preserved-in_ok-serve-in-Serve c = record {
  turns = served (stay_env_seen c.args.env.now) (work_seen c.turns.endpoint c.turns.work) _ (sym c.in-Serve.ensures.next) c.in_ok-serve-in-Serve.ensures.served ∙ c.turns.invariant.turns;
  sound = c.in_ok-serve-in-Serve.ensures.sound;
  jobs = c.in_ok-serve-in-Serve.ensures.jobs ∙ c.turns.invariant.jobs;
  wants = c.in_ok-serve-in-Serve.ensures.wants ∙ c.turns.invariant.wants;
}

pub returns-then-not-branch-clause-turns : goal.returns-then-not-branch-clause-turns
returns-then-not-branch-clause-turns c =
    read_last (stay_env_seen c.args.env.now) (work_seen c.turns.endpoint c.turns.work) _ c.in_ok-read-in-Read.field-0 (sym c.in-Read.ensures.next) c.if-env.false c.in_ok-read-in-Read.ensures.turn c.if-not-branch.true ∙ c.turns.invariant.turns

pub turns-smaller : goal.turns-smaller
turns-smaller c =
    read_less (stay_env_seen c.args.env.now) (work_seen c.turns.endpoint c.turns.work) (work_seen c.read.new.endpoint c.read.new.work) c.in_ok-read-in-Read.field-0 (sym c.in-Read.ensures.next) c.in_ok-read-in-Read.ensures.turn c.if-not-branch.false

pub turns-preserved : goal.turns-preserved
turns-preserved c = record {
  turns = read_on (stay_env_seen c.args.env.now) (work_seen c.turns.endpoint c.turns.work) _ c.in_ok-read-in-Read.field-0 (sym c.in-Read.ensures.next) c.if-env.false c.in_ok-read-in-Read.ensures.turn c.if-not-branch.false ∙ c.turns.invariant.turns;
  sound = c.in_ok-read-in-Read.ensures.sound;
  jobs = c.in_ok-read-in-Read.ensures.same refl ∙ c.turns.invariant.jobs;
  wants = c.in_ok-read-in-Read.ensures.wants ∙ c.turns.invariant.wants;
}

pub returns-in-Stop-clause-turns : goal.returns-in-Stop-clause-turns
returns-in-Stop-clause-turns c = stopped (stay_env_seen c.args.env.now) (work_seen c.turns.endpoint c.turns.work) (sym c.in-Stop.ensures.next) ∙ c.turns.invariant.turns

pub returns-then-env-clause-turns : goal.returns-then-env-clause-turns
returns-then-env-clause-turns c = left (stay_env_seen c.args.env.now) (work_seen c.turns.endpoint c.turns.work) (sym c.in-Read.ensures.next) c.if-env.true ∙ c.turns.invariant.turns
