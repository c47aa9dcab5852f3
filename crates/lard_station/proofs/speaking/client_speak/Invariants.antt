use Rattle.std.proofs.Common.{◌≡◌, ◌+◌, ◌≤◌, ◌^◌, ◌++◌, length}
use Rattle.lard_client.specs.Leaving.{unsaid}
use Rattle.lard_rules.specs.Speaking.{AreShort, client_speaks}
use Rattle.lard_send.specs.Send.{IsSending}
use Rattle.lard_station.proofs.speaking.client_speak.Given as goal

-- what was said and what is left to say are all that there was
abbrev pub invariant-loop-ready : goal.invariant-loop-ready
invariant-loop-ready l = record {
  said : l.sends ++ (client_speaks l.client).0 ≡ l.fn.before ++ (client_speaks l.fn.client).0;
  after : (client_speaks l.client).1 ≡ (client_speaks l.fn.client).1;
  sound : IsSending l.client.send;
  short : AreShort l.sends;
  few : length l.sends + unsaid l.client ≤ length l.fn.before + 2 ^ 30 + 3;
}

abbrev pub decreases-loop-ready : goal.decreases-loop-ready
decreases-loop-ready l = unsaid l.client
