use Rattle.tpkt_x224.proofs.Stream.{head_is, head_again}
use Rattle.tpkt_x224.proofs.RequestText.{request_ok, request_again, none_stands, data_ok, data_again}
use Rattle.tpkt_x224.proofs.Broken.{request_broken, broken_request}
use Rattle.tpkt_x224.proofs.laws.packets_are_read_exactly.Goals as goal

pub returns-clause-packet : goal.returns-clause-packet
returns-clause-packet c = λ bytes n. (head_is bytes n, head_again bytes n)

pub returns-clause-request : goal.returns-clause-request
returns-clause-request c = λ packet request. (request_ok packet request, request_again packet request)

pub returns-clause-refused : goal.returns-clause-refused
returns-clause-refused c = none_stands

pub returns-clause-place : goal.returns-clause-place
returns-clause-place c = λ packet at. (request_broken packet at, broken_request packet at)

pub returns-clause-data : goal.returns-clause-data
returns-clause-data c = λ packet. (data_ok packet, data_again packet)
