-- Each turn sends the next segment, until none is left.
use Rattle.std.proofs.Common.{◌≡◌, [], ◌∷◌, ◌++◌, None, length, sym, ap, ◌∙◌, subst, arith, length-append}
use Rattle.lard_client.specs.Control.{ClientBlock}
use Rattle.lard_client.specs.Leaving.{client_emitted, client_after_emit}
use Rattle.lard_rules.specs.Speaking.{AreShort, client_speaks, to_front}
use Rattle.lard_rules.proofs.Packets.{short_push}
use Rattle.lard_rules.proofs.Saying.{client-more, client-done}
use Rattle.lard_serving.proofs.Loops.{sent_more, sent_all}
use Rattle.lard_station.proofs.speaking.client_speak.Goals as goal

pub loop-ready-preserved : goal.loop-ready-preserved
loop-ready-preserved c =
    let b = c.loop-ready.client in
    let new = c.emit.new.self in
    let r = c.in-Some.ready in
    let packet = c.in_ok-to_front.field-0 in
    let more = sent_more (client_speaks) b new (client_after_emit b) c.loop-ready.sends c.push.new.self packet (to_front (client_after_emit b) r)
    (client-more b r c.loop-ready.invariant.sound (sym c.in-Some.ensures.ready)) c.in-Some.ensures.after
    (c.in_ok-to_front.ensures.packet ∙ ap (λ x. to_front x r) c.in-Some.ensures.after) c.in_ok-push.ensures.ok in
    record {
      said = more.0 ∙ c.loop-ready.invariant.said;
      after = more.1 ∙ c.loop-ready.invariant.after;
      sound = c.law-in-Some.ensures.sending;
      short = subst AreShort (sym c.in_ok-push.ensures.ok) (short_push c.loop-ready.sends packet c.loop-ready.invariant.short c.in_ok-to_front.ensures.short);
      few = omega (arith, c.loop-ready.invariant.few, c.in-Some.ensures.falls, ap length c.in_ok-push.ensures.ok, length-append c.loop-ready.sends (packet ∷ []));
    }

-- at the end all was sent
all_sent : (c : goal.In_default) → (c.loop-ready.sends ≡ c.args.before ++ (client_speaks c.args.client.now).0) × (c.emit.new.self ≡ (client_speaks c.args.client.now).1)
all_sent c =
    let b = c.loop-ready.client in
    let none : client_emitted b ≡ None = sym c.emit.ensures.ready ∙ c.in_default.is in
    let same : b ≡ c.emit.new.self = sym c.in_default.ensures.none in
    sent_all (client_speaks) b c.emit.new.self c.loop-ready.sends (c.args.before ++ (client_speaks c.args.client.now).0) (client_speaks c.args.client.now).1
    (client-done b none ∙ ap (λ (x : ClientBlock). ([], x)) same) c.loop-ready.invariant.said c.loop-ready.invariant.after

pub returns-clause-sends : goal.returns-clause-sends
returns-clause-sends c = (all_sent c).0

pub returns-clause-after : goal.returns-clause-after
returns-clause-after c = (all_sent c).1
