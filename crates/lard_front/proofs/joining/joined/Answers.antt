-- The first turn has no segment, and the messages of both fit.
use Rattle.std.proofs.Common.{◌≡◌, ◌≤◌, ◌^◌, ◌++◌, ◌∙◌, length, sym, ap, subst}
use Rattle.lard_front.specs.Bounds.{AreMessages}
use Rattle.lard_rules.specs.Speaking.{AreShort}
use Rattle.lard_front.proofs.Bounded.{both_fit}
use Rattle.lard_front.proofs.joining.joined.Goals as goal

pub returns-clause-fits : goal.returns-clause-fits
returns-clause-fits c =
    let segments : c.append-2.new.self ≡ c.args.behind.segments = c.in_ok-append-2.ensures.ok ∙ ap (λ ss. ss ++ c.args.behind.segments) c.requires.quiet in
    record {
      short = subst AreShort (sym segments) c.requires.behind.short;
      few = subst (λ ss. length ss ≤ 2 ^ 31) (sym segments) c.requires.behind.few;
      messages_fit = subst AreMessages (sym c.in_ok-append-4.ensures.ok) (both_fit c.args.turn.messages c.args.behind.messages c.requires.fits.messages_fit c.requires.behind.messages_fit);
      counted = c.requires.answered;
    }
