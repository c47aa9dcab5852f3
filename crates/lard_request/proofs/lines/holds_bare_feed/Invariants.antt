-- What is asked of all bytes is asked of those from here on.
use Rattle.std.proofs.Common.{◌≡◌, false, drop}
use Rattle.lard_request.specs.Verdict.{has_bare_feed}
use Rattle.lard_request.proofs.lines.holds_bare_feed.Given as goal

abbrev pub invariant-loop-byte : goal.invariant-loop-byte
invariant-loop-byte l = has_bare_feed l.after_return (drop l.byte-index l.bytes) ≡ has_bare_feed false l.bytes
