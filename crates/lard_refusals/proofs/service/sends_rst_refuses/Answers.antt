use Rattle.std.proofs.Common.{◌≡◌, false, true, refl}
use Rattle.lard_refusals.proofs.Segments.{reset-decodes, reset_says}
use Rattle.lard_refusals.proofs.service.sends_rst_refuses.Goals as goal

pub returns-clause-touched_client_is_reset : goal.returns-clause-touched_client_is_reset
returns-clause-touched_client_is_reset c h = let was : false ≡ true = h.1.1.0 reset_says reset-decodes refl in cc

pub returns-clause-reset_for_another_client : goal.returns-clause-reset_for_another_client
returns-clause-reset_for_another_client c h = let was : false ≡ true = h.1.1.1.0 reset_says reset-decodes refl in cc

pub returns-clause-touched_client_passes_the_limit : goal.returns-clause-touched_client_passes_the_limit
returns-clause-touched_client_passes_the_limit c = (tt, (tt, (tt, ((λ said decodes rst. refl), tt))))
