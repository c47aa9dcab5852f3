-- Each length is a lemma of proofs/Statuses.antt.
use Rattle.lard_response.proofs.Statuses.{length-ok, length-ok_close, length-bad_request, length-not_found, length-not_found_close, length-too_large, length-fields_too_large, length-not_implemented}
use Rattle.lard_response.proofs.laws.responses_have_these_lengths.Goals as goal

pub returns-clause-ok : goal.returns-clause-ok
returns-clause-ok c = length-ok

pub returns-clause-ok_close : goal.returns-clause-ok_close
returns-clause-ok_close c = length-ok_close

pub returns-clause-bad_request : goal.returns-clause-bad_request
returns-clause-bad_request c = length-bad_request

pub returns-clause-not_found : goal.returns-clause-not_found
returns-clause-not_found c = length-not_found

pub returns-clause-not_found_close : goal.returns-clause-not_found_close
returns-clause-not_found_close c = length-not_found_close

pub returns-clause-too_large : goal.returns-clause-too_large
returns-clause-too_large c = length-too_large

pub returns-clause-fields_too_large : goal.returns-clause-fields_too_large
returns-clause-fields_too_large c = length-fields_too_large

pub returns-clause-not_implemented : goal.returns-clause-not_implemented
returns-clause-not_implemented c = length-not_implemented
