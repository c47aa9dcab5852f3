-- The endpoint is here and may be frozen, so it goes back.
use Rattle.std.proofs.Common.{◌≡◌, Some, sym, ◌∙◌}
use Rattle.lard_back.specs.Hand.{stay_epoch}
use Rattle.lard_back.proofs.Returning.{given-is, may-carry, none-given, over-is}
use Rattle.lard_endpoint.specs.Moving.{parts_of}
use Rattle.lard_message.specs.declared.message.Body.TheVariants as body
use Rattle.lard_rules.specs.Node.{message}
use Rattle.std.specs.FinMap.{get}
use Rattle.lard_back.proofs.hand.hand_back.Goals as goal

pub give_back-requires : goal.give_back-requires
give_back-requires c = may-carry c.args.conns.now c.args.c c.args.endpoint c.args.served c.requires.out c.put.new.self c.put.ensures c.requires.served

pub unreachable-requires : goal.unreachable-requires
unreachable-requires c =
    none-given c.args.conns.now c.args.c c.args.endpoint c.args.served c.requires.out c.put.new.self c.put.ensures c.requires.leaves c.requires.still c.in_ok-bytes.field-0 c.in_default.is c.in_ok-bytes.ensures.bytes

pub returns-clause-bytes : goal.returns-clause-bytes
returns-clause-bytes c =
    let same : Some c.in-Some.bytes ≡ Some (message c.args.c (stay_epoch (get c.args.conns.now.rows c.args.c)) (body.Give (parts_of c.args.endpoint c.args.served))) =
    sym c.in-Some.is
    ∙ given-is c.args.conns.now c.args.c c.args.endpoint c.args.served c.requires.out c.put.new.self c.put.ensures c.requires.leaves c.requires.still c.in_ok-bytes.field-0 c.in_ok-bytes.ensures.bytes in
    cc

pub returns-clause-after : goal.returns-clause-after
returns-clause-after c =
    c.in_ok-bytes.ensures.ok ∙ over-is c.args.conns.now c.args.c c.args.endpoint c.args.served c.requires.out c.put.new.self c.put.ensures c.requires.leaves c.requires.still
