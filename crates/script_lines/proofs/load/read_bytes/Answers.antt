use Rattle.std.proofs.Common.{◌≡◌, ◌≤◌, take, drop, Some, None, sym, ◌∙◌, arith}
use Rattle.std.proofs.lemmas.List.{length-drop}
use Rattle.line_text.specs.Hexadecimal.{hexadecimal_of, hexadecimals, hexadecimals_of, with_first}
use Rattle.line_text.proofs.HexadecimalLemmas.{hexadecimals_first, hexadecimals_none, numbers_more}
use Rattle.script_lines.proofs.load.read_bytes.Goals as goal

pub returns-in-None : goal.returns-in-None
returns-in-None c =
    let rest = c.loop-rest.rest.now in
    let some : 1 ≤ 2 = omega arith in
    let first : hexadecimals_of 2 rest ≡ with_first (hexadecimal_of 2 (take 2 rest)) (hexadecimals_of 2 (drop 2 rest)) =
    hexadecimals_first 2 rest some c.loop-rest-test.true (length-drop 2 rest) in
    let none : None ≡ hexadecimal_of 2 (take 2 rest) = rw (← c.split_at.ensures.front) c.in-None.ensures.value in
    rw (first, ← none) at c.loop-rest.invariant.bytes

pub loop-rest-preserved : goal.loop-rest-preserved
loop-rest-preserved c =
    let rest = c.loop-rest.rest.now in
    let some : 1 ≤ 2 = omega arith in
    let first : hexadecimals_of 2 rest ≡ with_first (hexadecimal_of 2 (take 2 rest)) (hexadecimals_of 2 (drop 2 rest)) =
    hexadecimals_first 2 rest some c.loop-rest-test.true (length-drop 2 rest) in
    let number : Some c.in-Some.byte ≡ hexadecimal_of 2 (take 2 rest) = rw (← c.split_at.ensures.front) c.in-Some.ensures.value in
    record {
      bytes = rw (c.in_ok-push-in-Some.ensures.items, c.split_at.ensures.back)
          (numbers_more c.loop-rest.bytes.items c.in-Some.byte (hexadecimals_of 2 (drop 2 rest)) ∙ (rw (first, ← number) at c.loop-rest.invariant.bytes));
    }

pub returns-else-is_empty : goal.returns-else-is_empty
returns-else-is_empty c =
    let none : hexadecimals_of 2 c.loop-rest.rest.now ≡ hexadecimals 0 2 c.loop-rest.rest.now = hexadecimals_none 2 c.loop-rest.rest.now c.loop-rest-test.false in
    rw (none, sym c.is_empty.ensures ∙ c.if-is_empty.false) at c.loop-rest.invariant.bytes
