-- A connection that is new is adopted, and its stay begins; a node that leaves refuses it.
use Rattle.std.proofs.Common.{◌≡◌, Some, None, sym, ◌∙◌}
use Rattle.lard_back.specs.Place.{node_setting_seen}
use Rattle.lard_back.proofs.Adopted.{found-new, lent-new, new-by, new-sound, refused-by, refused-sound}
use Rattle.lard_endpoint.specs.Moving.{adopted}
use Rattle.lard_back.proofs.offers.offered.Goals as goal

pub unreachable-requires : goal.unreachable-requires
unreachable-requires c =
    let at = c.args.at.now in
    let none : None ≡ Some (adopted c.args.parts.now) =
    sym c.in_default.is ∙ c.take.ensures.found ∙ found-new c.args.state.now.conns at.c at.epoch c.args.parts.now c.on_offer.new.self c.in_ok-on_offer.ensures.ok (sym c.in-New.is ∙ c.in_ok-on_offer.ensures.answer) in
    absurd cc

pub adopt-requires-clause-adopted : goal.adopt-requires-clause-adopted
adopt-requires-clause-adopted c =
    let at = c.args.at.now in
    let same : Some c.in-Some.endpoint ≡ Some (adopted c.args.parts.now) =
    c.in-Some.ensures.found ∙ found-new c.args.state.now.conns at.c at.epoch c.args.parts.now c.on_offer.new.self c.in_ok-on_offer.ensures.ok (sym c.in-New.is ∙ c.in_ok-on_offer.ensures.answer) in
    cc

pub returns-in-New-clause-ok : goal.returns-in-New-clause-ok
returns-in-New-clause-ok c =
    let s = c.args.state.now in
    let k = node_setting_seen c.args.setting.now in
    let at = c.args.at.now in
    let new = sym c.in-New.is ∙ c.in_ok-on_offer.ensures.answer in
    let lends = lent-new k s at c.args.parts.now c.in_ok-on_offer.ensures.ok (λ i. record s { conns = c.in-Some.ensures.after i }) new c.requires.sound in
    new-by k s at c.args.parts.now c.adopt.new.state c.running-was.result lends new c.requires.sound c.adopt.result c.running-was.ensures c.requires.node c.adopt.ensures.gone

pub returns-in-New-clause-sound : goal.returns-in-New-clause-sound
returns-in-New-clause-sound c =
    let s = c.args.state.now in
    let k = node_setting_seen c.args.setting.now in
    let at = c.args.at.now in
    let new = sym c.in-New.is ∙ c.in_ok-on_offer.ensures.answer in
    let lends = lent-new k s at c.args.parts.now c.in_ok-on_offer.ensures.ok (λ i. record s { conns = c.in-Some.ensures.after i }) new c.requires.sound in
    new-sound k s at c.args.parts.now c.adopt.new.state c.running-was.result lends new c.requires.sound c.adopt.result c.adopt.ensures.gone

pub returns-in-Refuse-clause-ok : goal.returns-in-Refuse-clause-ok
returns-in-Refuse-clause-ok c =
    let s = c.args.state.now in
    let answers = sym c.in-Refuse.is ∙ c.in_ok-on_offer.ensures.answer in
    refused-by (node_setting_seen c.args.setting.now) s c.args.at.now c.args.parts.now c.refuse.new.state c.running-was.result (λ i. record s { conns = c.in_ok-on_offer.ensures.ok i }) answers c.requires.sound
    c.refuse.result c.running-was.ensures c.requires.node c.refuse.ensures.told

pub returns-in-Refuse-clause-sound : goal.returns-in-Refuse-clause-sound
returns-in-Refuse-clause-sound c =
    let s = c.args.state.now in
    let answers = sym c.in-Refuse.is ∙ c.in_ok-on_offer.ensures.answer in
    refused-sound (node_setting_seen c.args.setting.now) s c.args.at.now c.args.parts.now c.refuse.new.state c.running-was.result (λ i. record s { conns = c.in_ok-on_offer.ensures.ok i }) answers c.requires.sound
    c.refuse.result c.refuse.ensures.told
