use Rattle.wire_num.proofs.ReadIsText.{read_is_text}
use Rattle.wire_num.proofs.TextIsRead.{text_is_read}
use Rattle.wire_num.proofs.Refused.{refused}
use Rattle.wire_num.proofs.RefusalIsRead.{refusal_is_read, apart}
use Rattle.wire_num.proofs.Place.{place}
use Rattle.wire_num.proofs.layout.layouts_are_read_exactly.Goals as goal

pub returns-clause-exact : goal.returns-clause-exact
returns-clause-exact c = λ layout bytes values left. (read_is_text layout bytes values left, text_is_read layout bytes values left)

pub returns-clause-refused : goal.returns-clause-refused
returns-clause-refused c = λ layout bytes left. (refused layout bytes left, refusal_is_read layout bytes left)

pub returns-clause-apart : goal.returns-clause-apart
returns-clause-apart c = apart

pub returns-clause-place : goal.returns-clause-place
returns-clause-place c = place
