-- What the cache has is a hit, and else a job of the disk reads it.
use Rattle.std.proofs.Common.{[], ◌∷◌, ◌++◌, refl, sym, ap, ◌∙◌, arith}
use Rattle.lard_cache.specs.Recency.{has_path}
use Rattle.lard_rules.specs.Stay.{own_job}
use Rattle.lard_stay.specs.Work.{stay_env_seen, work_seen}
use Rattle.lard_stay.proofs.Entering.{entered-one, hit-started, one-longer, queue-started}
use Rattle.lard_stay.proofs.starting.start_here.Goals as goal

pub returns-then-has-clause-started : goal.returns-then-has-clause-started
returns-then-has-clause-started c =
    let has = ap (has_path c.args.env.now.cache.now.entries) (sym c.as_slice.ensures) ∙ sym c.has.ensures ∙ c.if-has.true in
    λ b. hit-started (stay_env_seen c.args.env.now) c.args.r c.args.path c.args.verdict (work_seen b c.args.work.now) has
    c.in_ok-push.ensures.ok c.in_ok-push-2.ensures.ok

pub returns-then-has-clause-entered : goal.returns-then-has-clause-entered
returns-then-has-clause-entered c =
    entered-one c.args.work.now c.push.new.self c.push-then-has.new.self c.args.work.now.jobs _ c.in_ok-push-2.ensures.ok (omega arith)

pub returns-then-has-clause-wants : goal.returns-then-has-clause-wants
returns-then-has-clause-wants c = refl

pub returns-clause-started : goal.returns-clause-started
returns-clause-started c =
    let env = stay_env_seen c.args.env.now in
    let has = ap (has_path c.args.env.now.cache.now.entries) (sym c.as_slice.ensures) ∙ sym c.has.ensures ∙ c.if-has.false in
    let queued = c.in_ok-push-4.ensures.ok ∙ ap (λ p. c.args.work.now.jobs ++ own_job env c.args.r p ∷ []) c.in_ok-copy.ensures in
    λ b. queue-started env c.args.r c.args.path c.args.verdict (work_seen b c.args.work.now) has c.in_ok-push-3.ensures.ok c.in_ok-push-5.ensures.ok queued

pub returns-clause-entered : goal.returns-clause-entered
returns-clause-entered c =
    entered-one c.args.work.now c.push-2.new.self c.push-4.new.self c.push-3.new.self _ c.in_ok-push-5.ensures.ok
    (one-longer c.args.work.now.jobs _ c.in_ok-push-4.ensures.ok)

pub returns-clause-wants : goal.returns-clause-wants
returns-clause-wants c = refl
