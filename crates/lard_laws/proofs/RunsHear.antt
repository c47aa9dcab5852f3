-- What a run's packets bring to the front end may come: where one closes a node, another one is open.
use Rattle.std.proofs.Common.{◌≡◌, ℕ, List, Some, refl}
use Rattle.lard_base.specs.declared.event.Event.TheVariants as event
use Rattle.lard_law_connections.proofs.LeaversRuns.{may-come}
use Rattle.lard_law_view.specs.Prelude.{Config, Front, IsReached, Machine, MayClose, Node, Packet, packet_at}
use Rattle.lard_rules.specs.declared.front.FrontIn.TheVariants as input

pub run-hears : (config : Config) (files : List (List ℕ × List ℕ)) (m : Machine) → IsReached config files m → (k : ℕ) (p : Packet) (n : ℕ)
    → packet_at m.net k ≡ Some p → p.from ≡ Node n → p.to ≡ Front → MayClose m.front (input.Message n p.bytes)
run-hears config files m r k p n at sender goal = may-come config files m r (event.Deliver k) (input.Message n p.bytes) (k, p, refl, at, sender, goal, refl)
