-- The packet that was found came to its place.
use Rattle.lard_net.specs.Net.{lent_packet}
use Rattle.lard_stepping.proofs.Delivered.{delivered_is}
use Rattle.lard_stepping.proofs.packets.deliver.Goals as goal

pub returns-clause-step : goal.returns-clause-step
returns-clause-step c =
    delivered_is c.args.machine.now c.bring.new.machine c.args.k (lent_packet c.in-Some.packet) c.in_ok-bytes.bytes
    c.in-Some.ensures.packet c.if-packet.false c.in_ok-bytes.ensures c.in_ok-bring.ensures.ok
