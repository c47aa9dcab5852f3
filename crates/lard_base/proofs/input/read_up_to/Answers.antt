-- What a read took is behind what was taken before.
use Rattle.std.proofs.Common.{rules, arith, ◌∙◌}
use Rattle.lard_base.proofs.Texts.{takes_more}
use Rattle.lard_base.proofs.input.read_up_to.Goals as goal

pub loop-text-preserved : goal.loop-text-preserved
loop-text-preserved g c = record {
  taken = takes_more _ _ _ _ _ _ c.loop-text.invariant.taken c.in_ok-read_piece.ensures.taken;
  bound = omega (arith, c.in_ok-read_piece.ensures.count, c.in_ok-read_piece.ensures.bound, c.min-room.ensures, c.len-in-loop-text.ensures, c.len.ensures);
  faults = c.in_ok-read_piece.ensures.same (search rules) ∙ c.loop-text.invariant.faults;
}

pub returns-in_err-read_piece-clause-taken : goal.returns-in_err-read_piece-clause-taken
returns-in_err-read_piece-clause-taken g c = takes_more _ _ _ _ _ _ c.loop-text.invariant.taken c.in_err-read_piece.ensures.taken

pub returns-then-branch-eq0-clause-taken : goal.returns-then-branch-eq0-clause-taken
returns-then-branch-eq0-clause-taken g c = takes_more _ _ _ _ _ _ c.loop-text.invariant.taken c.in_ok-read_piece.ensures.taken
