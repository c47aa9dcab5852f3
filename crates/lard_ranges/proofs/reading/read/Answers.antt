-- In what is read the last byte is not before the first.
use Rattle.std.proofs.Common.{sym, ap, ◌∙◌}
use Rattle.lard_ranges.specs.Reading.{set_read}
use Rattle.lard_ranges.proofs.Spelling.{forward-told}
use Rattle.lard_ranges.proofs.reading.read.Goals as goal

pub returns-clause-forward : goal.returns-clause-forward
returns-clause-forward c = forward-told c.args.value.now c.read_set.result (sym (c.read_set.ensures ∙ ap set_read c.trimmed.ensures))
