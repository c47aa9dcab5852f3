-- Which messages of other places are awaited.
use Rattle.std.specs.Prelude.{ℕ, Bool, false, List, Option, Some, None, if◌then◌else◌}
use Rattle.std.specs.FinMap.{get}
use Rattle.lard_back.specs.declared.hand.At.{At}
use Rattle.lard_endpoint.specs.Control.{ControlBlock}
use Rattle.lard_handoff_back.specs.Leaving.{awaits_ended, awaits_given}
use Rattle.lard_handoff_back.specs.Table.{Table, beside_in}
use Rattle.lard_rules.specs.declared.node.NodeState.{NodeState}
use Rattle.lard_rules.specs.declared.stay.Stay.{Stay}
use Rattle.lard_rules.specs.Node.{is_tag_awaited}
use Rattle.lard_rules.specs.NodePlace.{NodeSetting, node_env, node_part}

-- whether a Tag counts
abbrev pub awaits : NodeSetting → NodeState → At → ℕ → List ℕ → Option (ControlBlock × Stay) → Bool
awaits k s at number nodes None = false
awaits k s at number nodes (Some x) = is_tag_awaited (node_env k s at.c at.epoch.0) number nodes (node_part s at.c) x.1

-- whether an EndedAck, or a Given, counts
abbrev pub awaits_answer : Bool → ℕ → Table → ℕ → Bool
awaits_answer back e t c = if back then awaits_given e (get t.rows c) (beside_in t c) else awaits_ended e (get t.rows c) (beside_in t c)
