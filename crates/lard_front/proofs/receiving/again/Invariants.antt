use Rattle.std.proofs.Common.{◌≡◌, map, take}
use Rattle.lard_resend.specs.Pending.{sent_of}
use Rattle.lard_front.proofs.receiving.again.Given as goal

-- those that were passed are sent
abbrev pub invariant-loop-kept : goal.invariant-loop-kept
invariant-loop-kept l = l.sends ≡ map sent_of (take l.kept-index l.all)
