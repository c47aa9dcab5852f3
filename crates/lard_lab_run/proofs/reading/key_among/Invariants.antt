use Rattle.std.proofs.Common.{◌≡◌, drop}
use Rattle.lard_schedule.specs.Reader.{key_among}
use Rattle.lard_lab_run.proofs.reading.key_among.Given as goal

-- the keys that are left have the first that fits
abbrev pub invariant-loop-key : goal.invariant-loop-key
invariant-loop-key l = key_among (drop l.key-index l.keys) l.word ≡ key_among l.keys l.word
