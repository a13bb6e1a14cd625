use Rattle.caps_sets.proofs.ConfirmText.{confirm_is_text, text_is_confirm, first_fault, fault_is_told}
use Rattle.caps_sets.proofs.confirm_active.confirms_are_read_exactly.Goals as goal

pub returns-clause-exact : goal.returns-clause-exact
returns-clause-exact c = λ depth bytes confirmed. (confirm_is_text depth bytes confirmed, text_is_confirm depth bytes confirmed)

pub returns-clause-refused : goal.returns-clause-refused
returns-clause-refused c = λ depth bytes fault. (first_fault depth bytes fault, fault_is_told depth bytes fault)
