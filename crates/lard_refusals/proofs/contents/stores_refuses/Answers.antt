use Rattle.std.proofs.Common.{refl}
use Rattle.lard_refusals.proofs.contents.stores_refuses.Goals as goal

pub returns-clause-kept_path_is_a_hit : goal.returns-clause-kept_path_is_a_hit
returns-clause-kept_path_is_a_hit c = ((refl, refl), ((refl, refl), (tt, ((1, refl, refl), (tt, ((1, refl, refl), (refl, tt)))))))

pub returns-clause-queued_for_a_file : goal.returns-clause-queued_for_a_file
returns-clause-queued_for_a_file c = ((refl, refl), tt)
