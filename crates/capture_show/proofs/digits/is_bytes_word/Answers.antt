use Rattle.std.proofs.Common.{◌<◌, ◌∙◌, length, arith}
use Rattle.std.proofs.lemmas.Bool.Decides.{nat_tests}
use Rattle.capture_show.proofs.Words.{is_word}
use Rattle.capture_show.proofs.digits.is_bytes_word.Goals as goal

pub returns : goal.returns
returns c =
    let digits : 0 < length c.args.word.now = grind (arith, nat_tests, c.is_empty.ensures, c.if-is_empty.false) in
    c.are_lower_digits.ensures ∙ is_word c.args.word.now digits c.if-word-ne0.false
