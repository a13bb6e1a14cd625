use Rattle.std.proofs.Common.{◌≡◌, ◌++◌, ◌∙◌, ap, sym, append_assoc}
use Rattle.line_text.specs.Hexadecimal.{hexadecimal_text}
use Rattle.line_text.proofs.HexadecimalLemmas.{hexadecimal_rest}
use Rattle.script_lines.proofs.hexadecimal.append_hexadecimals.Goals as goal

pub loop-rest-preserved : goal.loop-rest-preserved
loop-rest-preserved c =
    let front = c.loop-rest.invariant.front in
    let now = hexadecimal_text c.split_at.result.0.now in
    let later = hexadecimal_text c.split_at.result.1.now in
    let parts : hexadecimal_text c.loop-rest.rest.now ≡ now ++ later = rw (c.split_at.ensures.front, c.split_at.ensures.back) (hexadecimal_rest c.loop-rest.rest.now c.min.result) in
    record {
      front = front ++ now;
      held = c.in_ok-append_piece.ensures.ok ∙ ap (λ xs. xs ++ now) c.loop-rest.invariant.held ∙ append_assoc c.args.out.now.items front now;
      whole = c.loop-rest.invariant.whole ∙ ap (λ ds. front ++ ds) parts ∙ sym (append_assoc front now later);
    }
