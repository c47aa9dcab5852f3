use Rattle.std.proofs.Common.{◌≡◌, None}
use Rattle.lard_rules.specs.FrontReading.{reading_left, front_reads}
use Rattle.lard_front.specs.Hand.{reading_of}
use Rattle.lard_serving.specs.Serving.{IsCounted, env_seen}
use Rattle.lard_front.proofs.reading.read.Given as goal

-- reading on from here ends as it did from the start
abbrev pub invariant-reading : goal.invariant-reading
invariant-reading l = record {
  goes_on : front_reads (env_seen l.env) (reading_of l.endpoint l.service None) ≡ front_reads (env_seen l.env) (reading_of l.fn.endpoint l.fn.service None);
  counted : IsCounted l.endpoint l.service;
}

abbrev pub decreases-reading : goal.decreases-reading
decreases-reading l = reading_left (reading_of l.endpoint l.service None)
