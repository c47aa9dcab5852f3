-- The RST is one packet more, and short.
use Rattle.std.proofs.Common.{[], ◌∷◌, sym, ap, subst, arith, length, length-append}
use Rattle.lard_rules.specs.Speaking.{AreShort}
use Rattle.lard_rules.proofs.Packets.{short_push}
use Rattle.lard_serving.proofs.ending.limit_turn.Goals as goal

pub returns-clause-fits : goal.returns-clause-fits
returns-clause-fits c = record {
  short = subst AreShort (sym c.in_ok-push.ensures.ok) (short_push c.args.sends c.in_ok-told.field-0 c.requires.short c.in_ok-told.ensures.short);
  few = omega (arith, c.requires.few, ap length c.in_ok-push.ensures.ok, length-append c.args.sends (c.in_ok-told.field-0 ∷ []));
  counted = c.requires.counted;
}
