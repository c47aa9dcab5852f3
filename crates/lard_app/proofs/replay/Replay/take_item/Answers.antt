-- A file is added or not, and nothing is written.
use Rattle.std.proofs.Common.{Ok, ap, sym, subst, length}
use Rattle.lard_law_view.specs.Prelude.{add_check}
use Rattle.lard_app.specs.Replay.{HaltsAt, PassesLine, filed, item_gain, machine_behind, taken_item}
use Rattle.lard_app.specs.Seen.{replay_seen}
use Rattle.lard_app.proofs.Adding.{adds-passes}
use Rattle.lard_app.proofs.Halts.{there-halts}
use Rattle.lard_schedule.specs.declared.item.Item.{Item}
use Rattle.lard_app.proofs.replay.Replay.take_item.Goals as goal

pub returns-in-File-clause-taken : goal.returns-in-File-clause-taken
returns-in-File-clause-taken g c =
    subst (λ (x : Item). PassesLine (taken_item (replay_seen c.args.self.now) x) (item_gain (replay_seen c.args.self.now) x) (g.K.Sink.written c.args.sink.now) (g.K.Sink.written c.args.sink.now) (replay_seen c.file.new.self) c.file.result)
    (sym c.in-File.is)
    (adds-passes (filed (replay_seen c.args.self.now) c.in-File.path c.in-File.bytes (add_check c.args.self.now.files c.in-File.path (length c.in-File.bytes))) (replay_seen c.file.new.self) (g.K.Sink.written c.args.sink.now) c.file.result c.file.ensures.filed)

pub returns-in-Set-clause-halts : goal.returns-in-Set-clause-halts
returns-in-Set-clause-halts g c =
    subst (λ (x : Item). HaltsAt (machine_behind c.args.self.now.world.machine (Ok x)) c.set.new.self.world.machine c.set.result) (sym c.in-Set.is)
    (there-halts _ _ c.set.result (ap (λ w. w.machine) c.set.ensures.world))

pub returns-in-File-clause-halts : goal.returns-in-File-clause-halts
returns-in-File-clause-halts g c =
    subst (λ (x : Item). HaltsAt (machine_behind c.args.self.now.world.machine (Ok x)) c.file.new.self.world.machine c.file.result) (sym c.in-File.is)
    (there-halts _ _ c.file.result (ap (λ w. w.machine) c.file.ensures.world))
