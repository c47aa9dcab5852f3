-- What does not decode is dropped.
use Rattle.std.proofs.Common.{◌≡◌, Result, Ok, Err, IfOk, OnOk, sym, ap, ◌∙◌}
use Rattle.lard_back.specs.Place.{node_setting_seen}
use Rattle.lard_base.specs.declared.errors.NoMemory.{NoMemory}
use Rattle.lard_base.specs.declared.place.Place.{Place}
use Rattle.lard_message.specs.declared.fault.MsgFault.{MsgFault}
use Rattle.lard_message.specs.declared.message.Message.{Message}
use Rattle.lard_message.specs.Reading.{GivesMessage, decoded_message}
use Rattle.lard_rules.specs.declared.node.NodeState.{NodeState}
use Rattle.lard_rules.specs.NodePlace.{NodeSetting, node_gets}
use Rattle.lard_rules.specs.declared.places.Out.{Out}
use Rattle.lard_rules.specs.Outs.{nothing_done}
use Rattle.lard_back.proofs.hearing.get.Goals as goal

dropped : (k : NodeSetting) (s : NodeState) (from : Place) (fault : MsgFault) (given : Result Message MsgFault) (r : Result Out NoMemory) → IfOk r (λ out. out ≡ nothing_done)
    → OnOk r ((given : Result Message MsgFault) → GivesMessage (Err fault) given → given ≡ Err fault) → GivesMessage (Err fault) given → IfOk r (λ out. (s, out) ≡ node_gets k s from given)
dropped k s from fault given (Ok out) nothing none gives = (λ i. (s, nothing i)) ∙ ap (node_gets k s from) (sym (none given gives))
dropped k s from fault given (Err e) nothing none gives = tt

pub returns-in-Err-clause-ok : goal.returns-in-Err-clause-ok
returns-in-Err-clause-ok c =
    dropped (node_setting_seen c.args.setting.now) c.args.state.now c.args.from c.in-Err.fault (decoded_message c.args.bytes.now) c.unread.result c.unread.ensures.out c.unread.ensures.none c.in-Err.ensures.exact
