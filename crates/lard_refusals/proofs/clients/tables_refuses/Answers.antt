use Rattle.std.proofs.Common.{◌≡◌, ℕ, true, false, length, ap, arith}
use Rattle.lard_law_view.specs.Prelude.{client_emits, own, spelled}
use Rattle.lard_refusals.proofs.clients.tables_refuses.Goals as goal

pub returns-clause-writes_before_it_opens : goal.returns-clause-writes_before_it_opens
unfolding own
returns-clause-writes_before_it_opens c h = let e : true ≡ false = (h.0 1).1.0 in cc

pub returns-clause-needless_packet : goal.returns-clause-needless_packet
unfolding client_emits own spelled
returns-clause-needless_packet c h = let e : ◌≡◌ {A = ℕ} 4 3 = ap length (h.0 1) in omega arith

pub returns-clause-opens_in_silence : goal.returns-clause-opens_in_silence
unfolding client_emits own spelled
returns-clause-opens_in_silence c h = let e : ◌≡◌ {A = ℕ} 1 3 = ap length (h.0 1) in omega arith
