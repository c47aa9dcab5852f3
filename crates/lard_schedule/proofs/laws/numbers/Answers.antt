use Rattle.std.proofs.Common.{◌∙◌, ap}
use Rattle.lard_schedule.specs.Words.{number_of}
use Rattle.lard_schedule.proofs.Decimals.{number_spelled, number_read}
use Rattle.lard_schedule.proofs.laws.numbers.Goals as goal

pub returns : goal.returns
returns c most word n wide = (number_spelled most word n wide, λ h. ap (number_of most) h.0 ∙ number_read most n wide h.1)
