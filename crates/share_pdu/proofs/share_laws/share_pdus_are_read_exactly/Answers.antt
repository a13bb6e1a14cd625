use Rattle.share_pdu.proofs.Text.{pdu_ok, pdu_again, none_stands}
use Rattle.share_pdu.proofs.Fault.{first_fault, fault_is_told}
use Rattle.share_pdu.proofs.share_laws.share_pdus_are_read_exactly.Goals as goal

pub returns-clause-exact : goal.returns-clause-exact
returns-clause-exact c = λ bytes pdu. (pdu_ok bytes pdu, pdu_again bytes pdu)

pub returns-clause-none : goal.returns-clause-none
returns-clause-none c = none_stands

pub returns-clause-refused : goal.returns-clause-refused
returns-clause-refused c = λ bytes fault. (first_fault bytes fault, fault_is_told bytes fault)
