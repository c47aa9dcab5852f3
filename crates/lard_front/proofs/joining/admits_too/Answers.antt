-- The head is handed off, and its timers stand in the order of the numbers.
use Rattle.std.proofs.Common.{ap, ◌∙◌}
use Rattle.lard_rules.specs.Front.{front_admitted}
use Rattle.lard_rules.specs.declared.places.Out.{Out}
use Rattle.lard_rules.specs.FrontPlace.{front_env, front_part, in_order}
use Rattle.lard_front.proofs.Joined.{too_is}
use Rattle.lard_front.specs.Place.{front_setting_seen}
use Rattle.lard_front.proofs.joining.admits_too.Goals as goal

pub returns-clause-out : goal.returns-clause-out
returns-clause-out c =
    let s = c.args.state.now in
    let d = c.args.next.0 in
    let o = front_admitted (front_env (front_setting_seen c.args.setting.now) s d 0) (front_part s d) c.args.next.1 in
    ap (λ (out : Out). (c.hand_head.new.state, out)) c.out_of.ensures.out
    ∙ too_is s c.args.turn c.args.timers c.args.c d o c.in_ok-head.ensures.turn c.in_ok-all.ensures.turn c.in_ok-head.ensures.timers
    (c.in_ok-in_order.ensures ∙ ap (λ h. in_order c.args.c h c.args.timers c.in_ok-head.field-0.timers) c.in_ok-head.ensures.c)
