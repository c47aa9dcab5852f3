-- What is sent is what is held, and that fits.
use Rattle.std.proofs.Common.{map, ap, ◌∙◌, sym, subst}
use Rattle.std.proofs.lemmas.List.{take_all}
use Rattle.lard_resend.specs.Pending.{sent_of}
use Rattle.lard_front.specs.Bounds.{AreMessages}
use Rattle.lard_front.proofs.Bounded.{fit_messages}
use Rattle.lard_front.proofs.receiving.again.Goals as goal

pub returns-clause-fits : goal.returns-clause-fits
returns-clause-fits c =
    subst AreMessages (sym (c.loop-kept.invariant ∙ ap (map sent_of) (take_all c.loop-kept.kept-index c.args.all.now c.loop-kept-test.false))) (fit_messages c.args.all.now c.requires)
