use Rattle.wire_num.proofs.Bytes.{bytes_at_is}
use Rattle.wire_num.proofs.Numbers.{little_at_is, big_at_is}
use Rattle.wire_num.proofs.laws.fields_are_tests_of_the_length.Goals as goal

pub returns-clause-bytes : goal.returns-clause-bytes
returns-clause-bytes c = bytes_at_is

pub returns-clause-little : goal.returns-clause-little
returns-clause-little c = little_at_is

pub returns-clause-big : goal.returns-clause-big
returns-clause-big c = big_at_is
