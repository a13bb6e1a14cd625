use Rattle.wire_num.proofs.Numbers.{little_at_back, big_at_back, little_signed_at_back}
use Rattle.wire_num.proofs.laws.numbers_are_read_back.Goals as goal

pub returns-clause-little : goal.returns-clause-little
returns-clause-little c = little_at_back

pub returns-clause-big : goal.returns-clause-big
returns-clause-big c = big_at_back

pub returns-clause-signed : goal.returns-clause-signed
returns-clause-signed c = little_signed_at_back
