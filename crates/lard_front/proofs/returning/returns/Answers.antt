-- It is held behind the head of the line, and free.
use Rattle.std.proofs.Common.{◌++◌, ap, ◌∙◌}
use Rattle.lard_rules.specs.declared.front.FrontTurn.{FrontTurn}
use Rattle.lard_front.proofs.Returned.{holds_again, is_free_again, out_with, together_is}
use Rattle.lard_front.specs.Place.{front_setting_seen}
use Rattle.lard_front.specs.Returned.{freed_notes}
use Rattle.lard_front.proofs.returning.returns.Goals as goal

pub read_held-requires-clause-holds : goal.read_held-requires-clause-holds
read_held-requires-clause-holds c =
    holds_again (front_setting_seen c.args.setting.now) c.args.state.now c.args.back.now c.args.from c.requires.back
    c.make_room.new.state c.in_ok-head.head c.in_ok-head.ensures.head

pub read_held-requires-clause-free : goal.read_held-requires-clause-free
read_held-requires-clause-free c =
    is_free_again (front_setting_seen c.args.setting.now) c.args.state.now c.args.back.now c.args.from c.requires.back
    c.make_room.new.state c.in_ok-head.head c.in_ok-head.ensures.head
    c.requires.clock

pub returns-clause-out : goal.returns-clause-out
returns-clause-out c =
    let t = c.args.state.now in
    let r = c.args.back.now in
    let from = c.args.from in
    let noted = c.in_ok-head.ensures.notes ∙ ap (λ (x : FrontTurn). x.notes ++ freed_notes t.dispatch r from) c.requires.plain in
    out_with c.read_held.new.state _ _
    (together_is (front_setting_seen c.args.setting.now) t r from c.args.said.messages c.in_ok-head.ensures.head c.in_ok-read.ensures.turn noted)
    c.put_together.result c.put_together.ensures.out
