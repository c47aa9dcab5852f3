-- What was read so far.
use Rattle.std.proofs.Common.{◌≡◌, ◌+◌, ◌≤◌, ◌-◌, vec_len}
use Rattle.lard_base.specs.Outside.{TakesIn}
use Rattle.lard_base.proofs.input.read_up_to.Given as goal

abbrev pub invariant-loop-text : goal.invariant-loop-text
invariant-loop-text g l = record {
  taken : TakesIn (g.S.Source.left l.fn.source) (g.S.Source.left l.source) l.fn.text.items l.text.items;
  bound : vec_len l.text ≤ l.limit + 1;
  faults : g.S.Source.faults l.source ≡ g.S.Source.faults l.fn.source;
}

abbrev pub decreases-loop-text : goal.decreases-loop-text
decreases-loop-text g l = l.limit + 1 - vec_len l.text
