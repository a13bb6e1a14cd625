use Rattle.script_lines.proofs.Ascii.{ascii_is}
use Rattle.script_lines.proofs.words.all_ascii.Goals as goal

pub returns : goal.returns
returns c = ascii_is c.args.text.now c.is_ascii.result c.is_ascii.ensures.cases
