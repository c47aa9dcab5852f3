-- What is left to drop of what is left.
use Rattle.std.proofs.Common.{◌≡◌, ◌<◌, ◌^◌, length, drop}
use Rattle.lard_send.specs.Rest.{AreWanted, bytes_left}
use Rattle.lard_send.proofs.rest.drop_front.Given as goal

abbrev pub invariant-loop-first : goal.invariant-loop-first
invariant-loop-first l = record {
  wanted : AreWanted l.dropped l.parts.items;
  small : l.dropped < 2 ^ 63;
  rest : drop l.n (bytes_left l.dropped l.parts.items) ≡ drop l.fn.n (bytes_left l.fn.dropped l.fn.parts.items);
}

abbrev pub decreases-loop-first : goal.decreases-loop-first
decreases-loop-first l = length l.parts.items
