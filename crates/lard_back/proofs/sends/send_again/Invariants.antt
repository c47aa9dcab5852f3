-- What was sent and what is left to send are all.
use Rattle.std.proofs.Common.{◌≡◌, ◌++◌, drop, map}
use Rattle.lard_back.specs.Bounds.{AreMessages}
use Rattle.lard_resend.specs.Pending.{AreFit, sent_of}
use Rattle.lard_back.proofs.sends.send_again.Given as goal

abbrev pub invariant-loop-kept : goal.invariant-loop-kept
invariant-loop-kept l = record {
  sends : l.messages ++ map sent_of (drop l.kept-index l.held) ≡ l.fn.messages ++ map sent_of l.fn.held;
  fit : AreMessages l.messages;
  short : AreFit (drop l.kept-index l.held);
}
