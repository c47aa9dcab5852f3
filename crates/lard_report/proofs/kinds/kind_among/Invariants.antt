use Rattle.std.proofs.Common.{◌≡◌, drop}
use Rattle.lard_report.specs.Kinds.{kind_among}
use Rattle.lard_report.proofs.kinds.kind_among.Given as goal

-- the kinds that are left have the first that fits
abbrev pub invariant-loop-kind : goal.invariant-loop-kind
invariant-loop-kind l = kind_among (drop l.kind-index l.kinds) l.word ≡ kind_among l.kinds l.word
