use Rattle.std.proofs.Common.{◌≡◌, drop}
use Rattle.lard_schedule.specs.Events.{verb_among}
use Rattle.lard_schedule.proofs.verbs.verb_among.Given as goal

-- the verbs that are left have the first that fits
abbrev pub invariant-loop-verb : goal.invariant-loop-verb
invariant-loop-verb l = verb_among (drop l.verb-index l.verbs) l.word ≡ verb_among l.verbs l.word
