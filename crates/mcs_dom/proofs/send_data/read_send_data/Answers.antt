use Rattle.std.proofs.Common.{rules}
use Rattle.mcs_dom.specs.SendData.{send_data_request}
use Rattle.wire_num.specs.FieldValue.{passing_at}
use Rattle.mcs_dom.proofs.send_data.read_send_data.Goals as goal

pub returns : goal.returns
unfolding send_data_request passing_at
returns c = search rules

pub returns-in_err-above : goal.returns-in_err-above
unfolding send_data_request passing_at
returns-in_err-above c = search rules

pub returns-in_err-u8_with : goal.returns-in_err-u8_with
unfolding send_data_request passing_at
returns-in_err-u8_with c = search rules

pub returns-in_err-length : goal.returns-in_err-length
unfolding send_data_request passing_at
returns-in_err-length c = search rules

pub returns-in_err-exactly : goal.returns-in_err-exactly
unfolding send_data_request passing_at
returns-in_err-exactly c = search rules
