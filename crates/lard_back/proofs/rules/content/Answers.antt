-- The Fetch is dropped, and its content makes the request ready.
use Rattle.std.proofs.Common.{sym, ◌∙◌}
use Rattle.lard_back.proofs.Deeds.{come-by, come-sound}
use Rattle.lard_back.specs.Place.{node_setting_seen}
use Rattle.lard_back.proofs.rules.content.Goals as goal

pub bring-requires-clause-sound : goal.bring-requires-clause-sound
bring-requires-clause-sound c =
    come-sound c.args.state.now c.args.at.now.c c.args.from c.args.at.now.epoch.0 c.args.r (λ i. record c.args.state.now { fetches = c.on_content.ensures.after i })
    (sym c.on_content.ensures.value ∙ c.if-not-on_content.false) c.requires.sound

pub returns-clause-ok : goal.returns-clause-ok
returns-clause-ok c =
    come-by (node_setting_seen c.args.setting.now) c.args.state.now c.args.at.now c.args.from c.args.r c.bring.new.state c.bring.result c.bring.ensures.acted
    (λ i. record c.args.state.now { fetches = c.on_content.ensures.after i }) c.running-was.ensures c.requires.node c.requires.sound
    (sym c.is_here.ensures ∙ c.if-not-is_here.false) (sym c.on_content.ensures.value ∙ c.if-not-on_content.false)
