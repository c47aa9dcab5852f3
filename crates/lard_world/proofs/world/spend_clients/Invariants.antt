use Rattle.std.specs.FinMap as table
use Rattle.lard_world.proofs.world.spend_clients.Given as goal

abbrev pub decreases-loop-station : goal.decreases-loop-station
decreases-loop-station l = table.len l.clients
