use Rattle.std.proofs.Common.{◌≡◌, ◌+◌, ◌-◌, length, take, drop, arith}
use Rattle.std.specs.Prelude.{◌==◌}
use Rattle.std.proofs.lemmas.Grind.{common_steps}
use Rattle.line_text.proofs.PartLemmas.{split_at_found, split_at_none}
use Rattle.capture_show.proofs.said.first_word.Goals as goal

pub returns-in-Some : goal.returns-in-Some
returns-in-Some c =
    let text = c.args.text.now in
    let rest : take (length text - (c.in-Some.at + 1)) (drop (c.in-Some.at + 1) text) ≡ drop (c.in-Some.at + 1) text = grind (arith, common_steps) in
    rw rest (split_at_found (λ b. b == 32) text c.in-Some.at c.in-Some.ensures)

pub returns-in-None : goal.returns-in-None
returns-in-None c = split_at_none (λ b. b == 32) c.args.text.now c.in-None.ensures
