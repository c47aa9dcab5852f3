-- A part that has a byte goes last.
use Rattle.std.proofs.Common.{◌<◌, ◌++◌, ℕ, List, length, arith, ap, ◌∙◌}
use Rattle.lard_send.specs.Rest.{bytes_left}
use Rattle.lard_send.proofs.Parts.{bytes_pushed, wanted_pushed}
use Rattle.lard_send.proofs.rest.Rest.push_shared.Goals as goal

pub invariant_of-self : goal.invariant_of-self
invariant_of-self c =
    let some : 0 < length c.args.more = omega arith in (
      wanted_pushed c.self.inside.dropped c.self.inside.parts.items c.push_back.new.self.items c.args.more c.in_ok-push_back.ensures.items c.self.invariant.0 some,
      c.self.invariant.1,
    )

pub returns-in_ok-push_back-clause-ok : goal.returns-in_ok-push_back-clause-ok
returns-in_ok-push_back-clause-ok c =
    ap (bytes_left c.self.inside.dropped) c.in_ok-push_back.ensures.items
    ∙ bytes_pushed c.self.inside.dropped c.self.inside.parts.items c.args.more c.self.invariant.0
    ∙ ap (λ (xs : List ℕ). xs ++ c.args.more) c.self.view_is
