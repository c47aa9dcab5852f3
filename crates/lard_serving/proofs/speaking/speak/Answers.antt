-- Each turn sends the next segment, until none is left.
use Rattle.std.proofs.Common.{◌≡◌, [], ◌∷◌, ◌++◌, None, length, sym, ap, ◌∙◌, subst, arith, length-append}
use Rattle.lard_endpoint.specs.Control.{ControlBlock}
use Rattle.lard_endpoint.specs.Leaving.{emitted, after_emit}
use Rattle.lard_rules.specs.Speaking.{AreShort, speaks, to_client}
use Rattle.lard_rules.proofs.Packets.{short_push}
use Rattle.lard_rules.proofs.Saying.{speaks-more, speaks-done, emit-rests}
use Rattle.lard_serving.proofs.Loops.{sent_more, sent_all}
use Rattle.lard_serving.proofs.speaking.speak.Goals as goal

pub loop-ready-preserved : goal.loop-ready-preserved
loop-ready-preserved c =
    let b = c.loop-ready.endpoint in
    let new = c.emit.new.self in
    let r = c.in-Some.ready in
    let packet = c.in_ok-to_client.field-0 in
    let more = sent_more (speaks c.args.c) b new (after_emit b) c.loop-ready.sends c.push.new.self packet (to_client c.args.c (after_emit b) r)
    (speaks-more c.args.c b r c.loop-ready.invariant.sound (sym c.in-Some.ensures.ready)) c.in-Some.ensures.after
    (c.in_ok-to_client.ensures.packet ∙ ap (λ x. to_client c.args.c x r) c.in-Some.ensures.after) c.in_ok-push.ensures.ok in
    record {
      said = more.0 ∙ c.loop-ready.invariant.said;
      after = more.1 ∙ c.loop-ready.invariant.after;
      sound = c.law-in-Some.ensures;
      short = subst AreShort (sym c.in_ok-push.ensures.ok) (short_push c.loop-ready.sends packet c.loop-ready.invariant.short c.in_ok-to_client.ensures.short);
      few = omega (arith, c.loop-ready.invariant.few, c.in-Some.ensures.ends, ap length c.in_ok-push.ensures.ok, length-append c.loop-ready.sends (packet ∷ []));
    }

-- at the end all was sent
all_sent : (c : goal.In_default) → (c.loop-ready.sends ≡ c.args.before ++ (speaks c.args.c c.args.endpoint.now).0) × (c.emit.new.self ≡ (speaks c.args.c c.args.endpoint.now).1)
all_sent c =
    let b = c.loop-ready.endpoint in
    let none : emitted b ≡ None = sym c.emit.ensures.ready ∙ c.in_default.is in
    let same : b ≡ c.emit.new.self = sym (c.emit.ensures.after ∙ emit-rests b none) in
    sent_all (speaks c.args.c) b c.emit.new.self c.loop-ready.sends (c.args.before ++ (speaks c.args.c c.args.endpoint.now).0) (speaks c.args.c c.args.endpoint.now).1
    (speaks-done c.args.c b none ∙ ap (λ (x : ControlBlock). ([], x)) same) c.loop-ready.invariant.said c.loop-ready.invariant.after

pub returns-clause-sends : goal.returns-clause-sends
returns-clause-sends c = (all_sent c).0

pub returns-clause-after : goal.returns-clause-after
returns-clause-after c = (all_sent c).1
