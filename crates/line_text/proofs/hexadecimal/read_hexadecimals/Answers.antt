use Rattle.std.proofs.Common.{◌≡◌, take, drop, Some, None, sym, ◌∙◌, arith}
use Rattle.std.proofs.lemmas.List.{length-drop}
use Rattle.line_text.specs.Hexadecimal.{hexadecimal_of, hexadecimals, hexadecimals_of, with_first}
use Rattle.line_text.proofs.HexadecimalLemmas.{hexadecimals_first, hexadecimals_none, numbers_more}
use Rattle.line_text.proofs.hexadecimal.read_hexadecimals.Goals as goal
use Rattle.std.proofs.lemmas.Grind.{common_steps}

pub returns-in-None : goal.returns-in-None
returns-in-None c =
    let rest = c.loop-rest.rest.now in
    let first : hexadecimals_of c.args.digits rest ≡ with_first (hexadecimal_of c.args.digits (take c.args.digits rest)) (hexadecimals_of c.args.digits (drop c.args.digits rest)) =
    hexadecimals_first c.args.digits rest c.requires.some c.loop-rest-test.true (length-drop c.args.digits rest) in
    let none : None ≡ hexadecimal_of c.args.digits (take c.args.digits rest) = rw (← c.split_at.ensures.front) c.in-None.ensures.value in
    rw (first, ← none) at c.loop-rest.invariant.numbers

pub loop-rest-preserved : goal.loop-rest-preserved
loop-rest-preserved c =
    let rest = c.loop-rest.rest.now in
    let first : hexadecimals_of c.args.digits rest ≡ with_first (hexadecimal_of c.args.digits (take c.args.digits rest)) (hexadecimals_of c.args.digits (drop c.args.digits rest)) =
    hexadecimals_first c.args.digits rest c.requires.some c.loop-rest-test.true (length-drop c.args.digits rest) in
    let number : Some c.in-Some.number ≡ hexadecimal_of c.args.digits (take c.args.digits rest) = rw (← c.split_at.ensures.front) c.in-Some.ensures.value in
    record {
      numbers = rw (c.in_ok-push-in-Some.ensures.items, c.split_at.ensures.back)
          (numbers_more c.loop-rest.numbers.items c.in-Some.number (hexadecimals_of c.args.digits (drop c.args.digits rest)) ∙ (rw (first, ← number) at c.loop-rest.invariant.numbers));
    }

pub returns-else-is_empty : goal.returns-else-is_empty
returns-else-is_empty c =
    let none : hexadecimals_of c.args.digits c.loop-rest.rest.now ≡ hexadecimals 0 c.args.digits c.loop-rest.rest.now = hexadecimals_none c.args.digits c.loop-rest.rest.now c.loop-rest-test.false in
    rw (none, sym c.is_empty.ensures ∙ c.if-is_empty.false) at c.loop-rest.invariant.numbers

pub returns-then-is_empty : goal.returns-then-is_empty
returns-then-is_empty c = grind (arith, common_steps)
