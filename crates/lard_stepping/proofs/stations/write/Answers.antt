-- The rule was followed on the station that was taken out, of which the limit was tested.
use Rattle.std.proofs.Common.{◌≡◌, ℕ, ◌≤◌, [], Ok, Err, Result, Some, Option, false, cond, nat_lt, ap, ◌∙◌, arith}
use Rattle.std.proofs.lemmas.Bool.Decides.{nat_tests}
use Rattle.std.specs.FinMap as table
use Rattle.lard_client.specs.Control.{written_len}
use Rattle.lard_rules.specs.Client.{client_writes}
use Rattle.lard_rules.specs.Machine.{client_goes_on, machine_wrote}
use Rattle.lard_rules.specs.declared.fault.StepFault.{StepFault}
use Rattle.lard_rules.specs.declared.fault.StepFault.TheVariants.{Limit}
use Rattle.lard_rules.specs.declared.fault.What.TheVariants.{Stream}
use Rattle.lard_rules.specs.declared.machine.Machine.{Machine}
use Rattle.lard_rules.specs.declared.places.Station.{Station}
use Rattle.lard_stepping.proofs.Lent.{client_done}
use Rattle.lard_stepping.proofs.stations.write.Goals as goal

within : (most len : ℕ) → len ≤ most → nat_lt most len ≡ false
within most len h = grind (arith, nat_tests)

one_station : (o : Option Station) (x y : Station) → Some x ≡ o → o ≡ Some y → x ≡ y
one_station o x y e f = let both : Some x ≡ Some y = e ∙ f in cc

pub returns-clause-step : goal.returns-clause-step
unfolding machine_wrote
returns-clause-step c =
    let m = c.args.machine.now in
    let x = c.in-Some-take_out.acting.station in
    let seen : c.in-Some.station.now ≡ x = one_station (table.get m.clients c.args.c) c.in-Some.station.now x (c.in-Some.ensures ∙ ap (λ n. table.get m.clients n) c.number.ensures.value) c.in-Some-take_out.ensures.found in
    let len : c.written_len.result ≡ written_len x.client c.args.bytes = c.written_len.ensures ∙ ap (λ (s : Station). written_len s.client c.as_slice.result.now) seen ∙ ap (written_len x.client) c.as_slice.ensures in
    let fits : nat_lt m.config.stream (written_len x.client c.args.bytes) ≡ false = within m.config.stream (written_len x.client c.args.bytes) (omega (arith, len, c.if-from-written_len.false, c.from.ensures)) in
    client_done (machine_wrote m c.args.event c.args.c c.args.bytes) Ok m c.take_out.new.machine c.put_back.new.machine c.args.event [] c.args.c c.in-Some-take_out.acting.c x c.in-Some-take_out.acting.was_armed
    (c.write.new.client, c.in_ok-turn.turn) (client_writes x.client c.args.bytes)
    (ap (λ t. cond {A = Result Machine StepFault} t (Err (Limit Stream)) (Ok (client_goes_on m c.args.event [] c.args.c x (client_writes x.client c.args.bytes)))) fits)
    c.in-Some-take_out.ensures.found c.in-Some-take_out.ensures.same c.in-Some-take_out.ensures.armed c.in-Some-take_out.ensures.after c.in_ok-turn.ensures.turn c.in_ok-put_back.ensures.ok
