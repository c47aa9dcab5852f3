-- What was read is read in pieces.
use Rattle.std.proofs.Common.{refl, ap, ◌∙◌}
use Rattle.std.specs.List.{position}
use Rattle.lard_lines.specs.Lines.{is_feed}
use Rattle.lard_lines.proofs.Taking.{takes_more, takes_none}
use Rattle.lard_lines.proofs.lines.Lines.find_line.Goals as goal

pub loop-found-init : goal.loop-found-init
loop-found-init g c = record {
  found = c.feed_in-found.ensures ∙ ap (position is_feed) c.rest.ensures.value;
  at_hand = λ there. (refl, refl);
  taken = takes_none _ _;
  count = refl;
  bound = c.rest.ensures.bound;
  most = refl;
  faults = refl;
}

pub returns-in_err-read_on-clause-taken : goal.returns-in_err-read_on-clause-taken
returns-in_err-read_on-clause-taken g c = takes_more _ _ _ _ _ _ c.loop-found.invariant.taken c.read_on.ensures.taken
