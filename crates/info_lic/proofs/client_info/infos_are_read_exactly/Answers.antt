use Rattle.info_lic.proofs.InfoText.{info_is_text, text_is_info, first_fault, fault_is_told}
use Rattle.info_lic.proofs.client_info.infos_are_read_exactly.Goals as goal

pub returns-clause-exact : goal.returns-clause-exact
returns-clause-exact c = λ bytes name. (info_is_text bytes name, text_is_info bytes name)

pub returns-clause-refused : goal.returns-clause-refused
returns-clause-refused c = λ bytes fault. (first_fault bytes fault, fault_is_told bytes fault)
