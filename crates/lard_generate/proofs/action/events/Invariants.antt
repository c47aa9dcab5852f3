use Rattle.std.proofs.Common.{◌≡◌, map, take}
use Rattle.lard_generate.specs.Clients.{action_event}
use Rattle.lard_generate.proofs.action.events.Given as goal

abbrev pub invariant-loop-action : goal.invariant-loop-action
invariant-loop-action l = l.events ≡ map action_event (take l.action-index l.actions)
