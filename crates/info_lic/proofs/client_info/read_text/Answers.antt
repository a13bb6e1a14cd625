use Rattle.wire_num.specs.Cursor.{rest}
use Rattle.info_lic.specs.ClientInfo.{terminator}
use Rattle.info_lic.proofs.Texts.{text_taken, behind_text}
use Rattle.info_lic.proofs.client_info.read_text.Goals as goal
use Rattle.std.proofs.Common.{rules}

pub returns-clause-bytes : goal.returns-clause-bytes
returns-clause-bytes c = text_taken c.args.size (rest c.args.cursor.now) c.in_ok-part.part.now (rest c.bytes.new.self) c.in_ok-part.ensures.0

pub returns-clause-behind : goal.returns-clause-behind
returns-clause-behind c =
    behind_text c.args.size (terminator c.args.unicode) (rest c.args.cursor.now) c.in_ok-part.part.now (rest c.bytes.new.self) (rest c.read_terminator.new.cursor)
    c.in_ok-part.ensures.0 c.in_ok-read_terminator.ensures.0

pub returns-clause-rows : goal.returns-clause-rows
returns-clause-rows c = search rules
