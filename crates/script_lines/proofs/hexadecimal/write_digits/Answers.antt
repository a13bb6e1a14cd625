use Rattle.std.proofs.Common.{◌*◌, ◌+◌, ◌∙◌, slice_set}
use Rattle.std.proofs.lemmas.List.{length-set}
use Rattle.script_lines.proofs.AnswerLines.{two_digits}
use Rattle.script_lines.proofs.hexadecimal.write_digits.Goals as goal

pub loop-at-preserved : goal.loop-at-preserved
loop-at-preserved c =
    let digits = c.loop-at.digits in
    let at = c.loop-at.at in
    record {
      room = length-set (slice_set digits (2 * at) c.digit_char.result) (2 * at + 1) c.digit_char-in-loop-at.result ∙ length-set digits (2 * at) c.digit_char.result ∙ c.loop-at.invariant.room;
      written = two_digits digits c.args.bytes.now at c.digit_char.result c.digit_char-in-loop-at.result
          c.loop-at.invariant.room c.loop-at-test.true c.loop-at.invariant.written c.digit_char.ensures c.digit_char-in-loop-at.ensures;
    }
