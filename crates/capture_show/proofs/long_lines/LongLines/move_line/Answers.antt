use Rattle.std.proofs.Common.{◌≡◌, ◌<◌, ◌+◌, ◌-◌, ◌∙◌, ◌++◌, Some, length, take, sym, ap, arith}
use Rattle.std.specs.Prelude.{slice_range, ◌==◌, position}
use Rattle.std.proofs.lemmas.List.Quantifiers.{position-Some}
use Rattle.edge_io.proofs.BufferLemmas.{part_rest, length-part}
use Rattle.capture_show.proofs.long_lines.LongLines.move_line.Goals as goal

pub returns-in_ok-extend_from_slice-in-Some-clause-moved : goal.returns-in_ok-extend_from_slice-in-Some-clause-moved
returns-in_ok-extend_from_slice-in-Some-clause-moved c =
    let items = c.self.inside.buffer.items in
    let from = c.self.inside.from in
    let to = c.self.inside.to in
    let unread = slice_range items from to in
    let count = c.in-Some.count in
    let found : Some count ≡ position (λ b. b == 10) unread = c.in-Some.ensures ∙ ap (λ b. position (λ x. x == 10) (slice_range b from to)) c.deref.ensures.value in
    let less : count < length unread = (position-Some (λ b. b == 10) unread count 0 (sym found)).0 in
    let len : length unread ≡ to - from = length-part items from to (omega (arith, c.self.invariant)) (omega (arith, c.self.invariant)) in
    rw (← c.self.view_is) (record {
      count = count;
      found = found;
      text = c.in_ok-extend_from_slice-in-Some.ensures.items ∙ ap (λ b. c.self.inside.text.items ++ take count (slice_range b from to)) c.deref.ensures.value;
      rest = part_rest items from to (count + 1) (omega (arith, less, len));
    })
