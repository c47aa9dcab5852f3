-- What the bytes say, by the laws.
use Rattle.std.proofs.Common.{arith, subst, sym, ap, ◌∙◌}
use Rattle.lard_message.specs.Reading.{GivesMessage, decoded_message}
use Rattle.lard_message.proofs.Whole.{again, found_is, fault_is}
use Rattle.lard_message.proofs.reading.decode.Goals as goal

pub returns-clause-found : goal.returns-clause-found
returns-clause-found c = found_is c.args.bytes.now c.message.result (λ i. omega (arith, c.type_inv.bytes i)) c.message.ensures

pub returns-clause-only : goal.returns-clause-only
returns-clause-only c = λ m is same. subst (GivesMessage c.message.result) (ap decoded_message (sym same) ∙ again m is) c.message.ensures

pub returns-clause-fault : goal.returns-clause-fault
returns-clause-fault c = fault_is c.args.bytes.now c.message.result c.message.ensures
