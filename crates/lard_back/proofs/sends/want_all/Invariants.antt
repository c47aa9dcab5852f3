-- What is asked for and what is left to ask for are all.
use Rattle.std.proofs.Common.{◌≡◌, ◌++◌, drop}
use Rattle.lard_back.specs.Bounds.{AreMessages, AreWants}
use Rattle.lard_back.specs.Hand.{fetches_sent, wanted}
use Rattle.lard_back.proofs.sends.want_all.Given as goal

abbrev pub invariant-loop-want : goal.invariant-loop-want
invariant-loop-want l = record {
  fetches : wanted l.at (drop l.want-index l.wants) l.fetches ≡ wanted l.at l.fn.wants l.fn.fetches;
  sends : l.messages ++ fetches_sent l.at (drop l.want-index l.wants) ≡ l.fn.messages ++ fetches_sent l.at l.fn.wants;
  fit : AreMessages l.messages;
  paths : AreWants (drop l.want-index l.wants);
}
