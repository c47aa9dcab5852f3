-- The rule was followed on the station that was taken out.
use Rattle.std.proofs.Common.{[], ◌∷◌, refl, sym}
use Rattle.lard_base.specs.declared.event.Event.TheVariants.{Deliver}
use Rattle.lard_journal.specs.declared.rec.Rec.TheVariants.{Got}
use Rattle.lard_rules.specs.Client.{client_gets}
use Rattle.lard_rules.specs.Machine.{machine_to_client}
use Rattle.lard_rules.specs.declared.machine.Machine.{Machine}
use Rattle.lard_segment.specs.Segment.{decoded}
use Rattle.lard_segment.specs.declared.segment.Dir.TheVariants.{ToClient}
use Rattle.lard_stepping.proofs.Lent.{client_done}
use Rattle.lard_stepping.proofs.packets.to_client.Goals as goal

pub returns-clause-ok : goal.returns-clause-ok
returns-clause-ok c =
    let x = c.in-Some.acting.station in
    sym (client_done (machine_to_client c.args.machine.now c.args.k c.args.bytes.now c.args.c) (λ (m : Machine). m) c.args.machine.now c.take_out.new.machine c.put_back.new.machine (Deliver c.args.k) (Got c.args.k ∷ []) c.args.c
    c.in-Some.acting.c x c.in-Some.acting.was_armed (c.receive.new.client, c.in_ok-turn.turn) (client_gets x.client (decoded c.args.bytes.now c.args.c ToClient)) refl c.in-Some.ensures.found c.in-Some.ensures.same
    c.in-Some.ensures.armed c.in-Some.ensures.after c.in_ok-turn.ensures.turn c.in_ok-put_back.ensures.ok)
