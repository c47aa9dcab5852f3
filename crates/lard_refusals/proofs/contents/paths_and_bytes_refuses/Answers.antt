-- No file has the path, and no byte is less than one.
use Rattle.std.proofs.Common.{◌≡◌, true, false, refl, arith}
use Rattle.lard_refusals.proofs.contents.paths_and_bytes_refuses.Goals as goal

pub returns-clause-assigned_without_a_file : goal.returns-clause-assigned_without_a_file
returns-clause-assigned_without_a_file c h = let no : false ≡ true = h.0 in cc

pub returns-clause-read_without_a_file : goal.returns-clause-read_without_a_file
returns-clause-read_without_a_file c h = let no : false ≡ true = h.1.0 in cc

pub returns-clause-nothing_is_accepted : goal.returns-clause-nothing_is_accepted
returns-clause-nothing_is_accepted c h = let some = h.0 in omega (arith, some)

pub returns-clause-empty_packet : goal.returns-clause-empty_packet
returns-clause-empty_packet c h = let some = h.0 in omega (arith, some)

pub returns-clause-assigned_for_a_file : goal.returns-clause-assigned_for_a_file
returns-clause-assigned_for_a_file c = (refl, tt)
