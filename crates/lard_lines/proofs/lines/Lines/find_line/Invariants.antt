-- What was read so far holds no line feed, or the first that it holds was found.
use Rattle.std.proofs.Common.{◌≡◌, ◌+◌, ◌≤◌, ◌-◌, length, IsSome}
use Rattle.std.specs.List.{position}
use Rattle.lard_base.specs.Outside.{TakesIn}
use Rattle.lard_lines.specs.Lines.{is_feed}
use Rattle.lard_lines.proofs.lines.Lines.find_line.Given as goal

abbrev pub invariant-loop-found : goal.invariant-loop-found
invariant-loop-found g l = record {
  found : l.found ≡ position is_feed l.self.rest;
  at_hand : IsSome (position is_feed l.fn.self.rest) → (l.self ≡ l.fn.self) × (l.source ≡ l.fn.source);
  taken : TakesIn (g.S.Source.left l.fn.source) (g.S.Source.left l.source) l.fn.self.rest l.self.rest;
  count : l.self.read + length l.fn.self.rest ≡ l.fn.self.read + length l.self.rest;
  bound : l.self.read ≤ l.fn.self.most + 1;
  most : l.self.most ≡ l.fn.self.most;
  faults : g.S.Source.faults l.source ≡ g.S.Source.faults l.fn.source;
}

abbrev pub decreases-loop-found : goal.decreases-loop-found
decreases-loop-found g l = l.self.most + 1 - l.self.read
