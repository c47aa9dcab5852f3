-- The first batch is read, and the stay goes on.
use Rattle.std.proofs.Common.{◌≡◌, true, ap, ◌∙◌}
use Rattle.lard_back.proofs.Adopted.{begun-is, first-sound, first_stay, noted-sound}
use Rattle.lard_rules.specs.declared.stay.Stay.{Stay}
use Rattle.lard_rules.specs.Node.{work_of}
use Rattle.lard_rules.specs.Stay.{Work, goes_on, reads_batch}
use Rattle.lard_rules.specs.Loop.{state_of}
use Rattle.lard_stay.specs.Work.{stay_env_seen}
use Rattle.lard_back.proofs.offers.start.Goals as goal

pub begin-requires-clause-sound : goal.begin-requires-clause-sound
begin-requires-clause-sound c =
    let b = c.args.endpoint.now in
    let served = c.args.parts.now.served in
    let stay : Stay = record { served = served; batch = c.new.result; asks = 0 } in
    let first : stay ≡ first_stay served = λ i. record { served = served; batch = c.new.ensures i; asks = 0 } in
    noted-sound b c.new-work.result c.push.new.self (c.new-work.ensures.sound b (first-sound c.args.parts.now b stay first c.requires.adopted c.requires.valid))

pub returns-clause-work : goal.returns-clause-work
returns-clause-work c =
    let env = stay_env_seen c.args.env.now in
    let b = c.args.endpoint.now in
    let served = c.args.parts.now.served in
    let seen = c.new-work.ensures.seen b ∙ (λ i. work_of b (record { served = served; batch = c.new.ensures i; asks = 0 })) in
    c.in_ok-begin.ensures.turns ∙ ap (λ (w : Work). goes_on env (state_of (reads_batch env true w))) (begun-is env c.args.parts.now b c.new-work.result c.push.new.self seen c.requires.adopted c.in_ok-push.ensures.ok)
