use Rattle.gcc_per.proofs.RequestText.{request_ok, request_again}
use Rattle.gcc_per.proofs.FirstFault.{first_fault, fault_is_told, no_depth_stands, crowded_stands}
use Rattle.gcc_per.proofs.client_data.requests_are_read_exactly.Goals as goal

pub returns-clause-exact : goal.returns-clause-exact
returns-clause-exact c = λ bytes client. (request_ok bytes client, request_again bytes client)

pub returns-clause-refused : goal.returns-clause-refused
returns-clause-refused c = λ bytes fault. (first_fault bytes fault, fault_is_told bytes fault)

pub returns-clause-no_depth : goal.returns-clause-no_depth
returns-clause-no_depth c = no_depth_stands

pub returns-clause-crowded : goal.returns-clause-crowded
returns-clause-crowded c = crowded_stands
