-- The Ask is dropped, and the nodes start its requests.
use Rattle.std.proofs.Common.{◌≡◌, ap, sym, subst, ◌∙◌}
use Rattle.lard_back.proofs.Deeds.{tag-by, unasked-sound}
use Rattle.lard_back.specs.Hand.{HeldMessages}
use Rattle.lard_back.specs.Place.{node_setting_seen}
use Rattle.lard_back.specs.Sound.{IsNodeSound}
use Rattle.lard_base.specs.declared.place.TimerKind.TheVariants.{Ask}
use Rattle.lard_resend.specs.declared.kept.PendingKey.{PendingKey}
use Rattle.lard_resend.specs.Pending.{pending_settled}
use Rattle.lard_back.proofs.rules.tagged.Goals as goal

pub assign-requires-clause-sound : goal.assign-requires-clause-sound
assign-requires-clause-sound c =
    let is : c.settle.new.self ≡ pending_settled c.args.state.now.kept c.args.at.now.c Ask 0 =
    c.settle.ensures.after ∙ ap (λ (key : PendingKey). pending_settled c.args.state.now.kept key.c key.kind key.r) c.ask_of.ensures in
    subst (λ (m : HeldMessages). IsNodeSound (record c.args.state.now { kept = m })) (sym is) (unasked-sound c.args.state.now c.args.at.now.c c.requires.sound)

pub returns-clause-ok : goal.returns-clause-ok
returns-clause-ok c =
    let is : c.settle.new.self ≡ pending_settled c.args.state.now.kept c.args.at.now.c Ask 0 =
    c.settle.ensures.after ∙ ap (λ (key : PendingKey). pending_settled c.args.state.now.kept key.c key.kind key.r) c.ask_of.ensures in
    tag-by (node_setting_seen c.args.setting.now) c.args.state.now c.args.at.now c.args.number c.args.nodes.now c.assign.new.state c.assign.result c.assign.ensures.acted
    (λ i. record c.args.state.now { kept = is i }) c.running-was.ensures c.requires.node c.requires.sound (sym c.awaits.ensures ∙ c.if-not-awaits.false)
