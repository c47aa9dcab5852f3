use Rattle.std.proofs.Common.{◌≡◌, ◌+◌, ◌≤◌, ◌^◌, ◌++◌, length}
use Rattle.lard_endpoint.specs.Control.{IsControlBlock}
use Rattle.lard_endpoint.specs.Leaving.{emits_left}
use Rattle.lard_rules.specs.Speaking.{AreShort, speaks}
use Rattle.lard_serving.proofs.speaking.speak.Given as goal

-- what was said and what is left to say are all that there was
abbrev pub invariant-loop-ready : goal.invariant-loop-ready
invariant-loop-ready l = record {
  said : l.sends ++ (speaks l.c l.endpoint).0 ≡ l.fn.before ++ (speaks l.c l.fn.endpoint).0;
  after : (speaks l.c l.endpoint).1 ≡ (speaks l.c l.fn.endpoint).1;
  sound : IsControlBlock l.endpoint;
  short : AreShort l.sends;
  few : length l.sends + emits_left l.endpoint ≤ length l.fn.before + 2 ^ 30 + 3;
}

abbrev pub decreases-loop-ready : goal.decreases-loop-ready
decreases-loop-ready l = emits_left l.endpoint
