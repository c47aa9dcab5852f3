-- Each turn sends the next segment, until none is left or a plain ACK comes.
use Rattle.std.proofs.Common.{◌≡◌, Bool, true, false, cond, List, [], ◌∷◌, None, length, sym, ap, ◌∙◌, subst, arith, length-append, ℕ}
use Rattle.lard_base.specs.declared.place.Place.{Place}
use Rattle.lard_endpoint.specs.Control.{ControlBlock}
use Rattle.lard_endpoint.specs.Leaving.{emitted, after_emit}
use Rattle.lard_rules.specs.Speaking.{AreShort, has_symbol, speaks_symbols, to_client}
use Rattle.lard_rules.proofs.Packets.{short_push}
use Rattle.lard_rules.proofs.Saying.{symbols-more, symbols-done, emit-rests}
use Rattle.lard_serving.proofs.Loops.{sent_more, sent_all}
use Rattle.lard_serving.proofs.speaking.speak_symbols.Goals as goal

pub loop-ready-preserved : goal.loop-ready-preserved
loop-ready-preserved c =
    let b = c.loop-ready.endpoint in
    let new = c.emit.new.self in
    let r = c.in-Some.ready in
    let packet = c.in_ok-to_client.field-0 in
    let choice = λ (t : Bool). cond {A = List (Place × List ℕ) × ControlBlock} t (to_client c.args.c (after_emit b) r ∷ (speaks_symbols c.args.c (after_emit b)).0, (speaks_symbols c.args.c (after_emit b)).1) ([], after_emit b) in
    let turn : speaks_symbols c.args.c b ≡ choice (has_symbol r) = symbols-more c.args.c b r c.loop-ready.invariant.sound (sym c.in-Some.ensures.ready) in
    let test : has_symbol r ≡ true = sym c.has_symbol.ensures ∙ c.if-not-has_symbol.false in
    let more = sent_more (speaks_symbols c.args.c) b new (after_emit b) c.loop-ready.sends c.push.new.self packet (to_client c.args.c (after_emit b) r)
    (turn ∙ ap choice test) c.in-Some.ensures.after
    (c.in_ok-to_client.ensures.packet ∙ ap (λ x. to_client c.args.c x r) c.in-Some.ensures.after) c.in_ok-push.ensures.ok in
    record {
      said = more.0 ∙ c.loop-ready.invariant.said;
      after = more.1 ∙ c.loop-ready.invariant.after;
      sound = c.law-in-Some.ensures;
      short = subst AreShort (sym c.in_ok-push.ensures.ok) (short_push c.loop-ready.sends packet c.loop-ready.invariant.short c.in_ok-to_client.ensures.short);
      few = omega (arith, c.loop-ready.invariant.few, c.in-Some.ensures.ends, ap length c.in_ok-push.ensures.ok, length-append c.loop-ready.sends (packet ∷ []));
    }

-- at the end all was sent
all_sent : (c : goal.In_default) → (c.loop-ready.sends ≡ (speaks_symbols c.args.c c.args.endpoint.now).0) × (c.emit.new.self ≡ (speaks_symbols c.args.c c.args.endpoint.now).1)
all_sent c =
    let b = c.loop-ready.endpoint in
    let none : emitted b ≡ None = sym c.emit.ensures.ready ∙ c.in_default.is in
    let same : b ≡ c.emit.new.self = sym (c.emit.ensures.after ∙ emit-rests b none) in
    sent_all (speaks_symbols c.args.c) b c.emit.new.self c.loop-ready.sends ((speaks_symbols c.args.c c.args.endpoint.now).0) (speaks_symbols c.args.c c.args.endpoint.now).1
    (symbols-done c.args.c b none ∙ ap (λ (x : ControlBlock). ([], x)) same) c.loop-ready.invariant.said c.loop-ready.invariant.after

pub returns-clause-sends : goal.returns-clause-sends
returns-clause-sends c = (all_sent c).0

pub returns-clause-after : goal.returns-clause-after
returns-clause-after c = (all_sent c).1

-- a plain ACK ends it
acknowledged : (c : goal.Then-not-has_symbol) → (c.loop-ready.sends ≡ (speaks_symbols c.args.c c.args.endpoint.now).0) × (c.emit.new.self ≡ (speaks_symbols c.args.c c.args.endpoint.now).1)
acknowledged c =
    let b = c.loop-ready.endpoint in
    let r = c.in-Some.ready in
    let choice = λ (t : Bool). cond {A = List (Place × List ℕ) × ControlBlock} t (to_client c.args.c (after_emit b) r ∷ (speaks_symbols c.args.c (after_emit b)).0, (speaks_symbols c.args.c (after_emit b)).1) ([], after_emit b) in
    let turn : speaks_symbols c.args.c b ≡ choice (has_symbol r) = symbols-more c.args.c b r c.loop-ready.invariant.sound (sym c.in-Some.ensures.ready) in
    let test : has_symbol r ≡ false = sym c.has_symbol.ensures ∙ c.if-not-has_symbol.true in
    sent_all (speaks_symbols c.args.c) b c.emit.new.self c.loop-ready.sends (speaks_symbols c.args.c c.args.endpoint.now).0 (speaks_symbols c.args.c c.args.endpoint.now).1
    (turn ∙ ap choice test ∙ ap (λ (x : ControlBlock). ([], x)) (sym c.in-Some.ensures.after)) c.loop-ready.invariant.said c.loop-ready.invariant.after

pub returns-then-not-has_symbol-clause-sends : goal.returns-then-not-has_symbol-clause-sends
returns-then-not-has_symbol-clause-sends c = (acknowledged c).0

pub returns-then-not-has_symbol-clause-after : goal.returns-then-not-has_symbol-clause-after
returns-then-not-has_symbol-clause-after c = (acknowledged c).1
