use Rattle.std.proofs.Common.{◌*◌, ◌+◌, ◌<◌, ◌∙◌, length, ap, sym, arith}
use Rattle.std.proofs.lemmas.List.{length-set, take_more_set}
use Rattle.line_text.specs.Hexadecimal.{hexadecimal_text}
use Rattle.capture_show.proofs.Words.{byte_more}
use Rattle.capture_show.proofs.digits.write_bytes.Goals as goal

pub loop-at-preserved : goal.loop-at-preserved
loop-at-preserved c =
    let bytes = c.loop-at.bytes in
    let at = c.loop-at.at in
    let high = c.digit_value-high.result in
    let low = c.digit_value-low.result in
    let inside : at < length bytes = omega (arith, c.loop-at.invariant.room, c.requires.room, c.loop-at-test.true) in
    record {
      room = c.loop-at.invariant.room ∙ ap (λ n. 2 * n) (sym (length-set bytes at (16 * high + low)));
      written = byte_more c.args.digits.now bytes at high low c.loop-at.invariant.room inside c.loop-at.invariant.written
          c.digit_value-high.ensures.value c.digit_value-low.ensures.value c.digit_value-high.ensures.bound c.digit_value-low.ensures.bound
          ∙ ap hexadecimal_text (sym (take_more_set bytes at (16 * high + low) inside));
    }
