-- Nothing has been decided.
use Rattle.std.proofs.Common.{sym, subst, List, [], arith}
use Rattle.lard_base.proofs.Ranges.{room_bound}
use Rattle.lard_loads.specs.Tally.{Tally, tally_start}
use Rattle.lard_dispatch.specs.declared.line.Waiting.{Waiting}
use Rattle.lard_dispatch.specs.Sound.{AreBefore, IsDispatcherSound}
use Rattle.lard_dispatch.proofs.Servers.{Sets}
use Rattle.lard_dispatch.proofs.Soundness.{begun-sound}
use Rattle.lard_dispatch.proofs.dispatch.Dispatch.new.Goals as goal

pub invariant_of-result : goal.invariant_of-result
invariant_of-result c = (
  c.room-room.ensures.room,
  subst (λ (t : Tally). IsDispatcherSound (record { config = c.args.config; books = record { loads = t; sets = c.new-sets.result; line = c.in_ok-line.line } })) (sym c.in_ok-loads.ensures)
      (subst (λ (all : Sets). IsDispatcherSound (record { config = c.args.config; books = record { loads = tally_start c.args.config.nodes; sets = all; line = c.in_ok-line.line } })) (sym c.new-sets.ensures)
      (subst (λ (line : List Waiting). IsDispatcherSound (record { config = c.args.config; books = record { loads = tally_start c.args.config.nodes; sets = []; line = line } })) (sym c.in_ok-line.ensures)
      (begun-sound c.args.config c.requires (room_bound c.args.config c.in-Ok.ensures.in_range).some_node))),
)

pub returns-clause-clock : goal.returns-clause-clock
returns-clause-clock c = subst (AreBefore 0) (sym c.new-sets.ensures) (λ target. omega arith)
