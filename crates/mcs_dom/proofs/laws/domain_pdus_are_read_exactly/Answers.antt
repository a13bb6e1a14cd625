use Rattle.mcs_dom.proofs.PduText.{pdu_ok}
use Rattle.mcs_dom.proofs.TextPdu.{pdu_again, none_stands}
use Rattle.mcs_dom.proofs.Broken.{pdu_broken, broken_pdu}
use Rattle.mcs_dom.proofs.laws.domain_pdus_are_read_exactly.Goals as goal

pub returns-clause-exact : goal.returns-clause-exact
returns-clause-exact c = λ bytes pdu. (pdu_ok bytes pdu, pdu_again bytes pdu)

pub returns-clause-refused : goal.returns-clause-refused
returns-clause-refused c = none_stands

pub returns-clause-place : goal.returns-clause-place
returns-clause-place c = λ bytes at. (pdu_broken bytes at, broken_pdu bytes at)
