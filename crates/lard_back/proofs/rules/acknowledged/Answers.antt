-- What told that the stay is over has its answer, and is not told again.
use Rattle.std.proofs.Common.{◌≡◌, ap, sym, ◌∙◌}
use Rattle.lard_back.proofs.Acknowledged.{acked, acked-by, acked-sound}
use Rattle.lard_base.specs.declared.place.TimerKind.{TimerKind}
use Rattle.lard_resend.specs.Pending.{pending_settled}
use Rattle.lard_rules.specs.declared.node.NodeState.{NodeState}
use Rattle.lard_rules.specs.Node.{node_saying}
use Rattle.lard_back.proofs.rules.acknowledged.Goals as goal

pub returns-clause-ok : goal.returns-clause-ok
returns-clause-ok c =
    let s = c.args.state.now in
    let settled = c.settle.ensures.after ∙ ap (λ (kind : TimerKind). pending_settled s.kept c.args.at.now.c kind 0) c.told_kind-kind.ensures in
    let t : NodeState = record s { conns = c.is_awaited.new.conns; kept = c.settle.new.self } in
    let is : t ≡ acked s c.args.at.now c.args.back = λ i. record s { conns = c.is_awaited.ensures.after i; kept = settled i } in
    acked-by s t c.tell_turn.new.state c.args.at.now c.args.back c.running-was.result c.saying.result c.tell_turn.result is c.running-was.ensures (c.saying.ensures ∙ ap node_saying c.new.ensures) c.requires.sound
    (sym c.is_awaited.ensures.value ∙ c.if-not-is_awaited.false) c.tell_turn.ensures.ok

pub returns-clause-sound : goal.returns-clause-sound
returns-clause-sound c =
    let s = c.args.state.now in
    let settled = c.settle.ensures.after ∙ ap (λ (kind : TimerKind). pending_settled s.kept c.args.at.now.c kind 0) c.told_kind-kind.ensures in
    let t : NodeState = record s { conns = c.is_awaited.new.conns; kept = c.settle.new.self } in
    let is : t ≡ acked s c.args.at.now c.args.back = λ i. record s { conns = c.is_awaited.ensures.after i; kept = settled i } in
    acked-sound s t c.tell_turn.new.state c.args.at.now c.args.back c.running-was.result c.saying.result c.tell_turn.result is c.requires.sound
    (sym c.is_awaited.ensures.value ∙ c.if-not-is_awaited.false) c.tell_turn.ensures.ok
