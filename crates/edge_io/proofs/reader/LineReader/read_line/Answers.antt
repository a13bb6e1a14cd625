use Rattle.std.proofs.Common.{◌≡◌, ◌<◌, None, position, sym, ◌∙◌, arith, rules}
use Rattle.std.specs.Io.KnownBytes.{Keeps}
use Rattle.edge_io.specs.Reading.{ahead}
use Rattle.edge_io.proofs.BufferLemmas.{keeps_trans}
use Rattle.edge_io.proofs.LineLemmas.{is_feed}
use Rattle.edge_io.proofs.FindLemmas.{finds_last, finds_kept}
use Rattle.edge_io.proofs.FindLemmas.{finds_later}
use Rattle.edge_io.proofs.reader.LineReader.read_line.Goals as goal
use Rattle.std.proofs.lemmas.Grind.{common_steps}

pub returns-in-Some-clause-found : goal.returns-in-Some-clause-found
returns-in-Some-clause-found g c =
    let before = ahead c.args.self.now (g.S.Source.left c.args.input.now) in
    let between = ahead c.loop-self.self (g.S.Source.left c.loop-self.input) in
    let left = g.S.Source.left c.fill.new.input in
    finds_later c.in-Some.found c.args.self.now c.fill.new.self c.held_line.new.self before (ahead c.fill.new.self left) (ahead c.held_line.new.self left)
    (keeps_trans before between (ahead c.fill.new.self left) c.loop-self.invariant.keeps c.in-Bytes.ensures.ahead) (c.in-Bytes.ensures.at ∙ c.loop-self.invariant.at)
    (c.in-Some.ensures.found left)

pub returns-in_default-held-clause-found : goal.returns-in_default-held-clause-found
returns-in_default-held-clause-found g c =
    let before = ahead c.args.self.now (g.S.Source.left c.args.input.now) in
    let left = g.S.Source.left c.loop-self.input in
    let now = c.fill.new.self in
    let held : now.held ≡ c.loop-self.self.held = c.in-End.ensures.held in
    let keeps : Keeps before (ahead now left) = rw held c.loop-self.invariant.keeps in
    let at : now.at ≡ c.args.self.now.at = c.in-End.ensures.at ∙ c.loop-self.invariant.at in
    let none : None ≡ position is_feed now.held = rw held (sym c.loop-self.invariant.part) in
    let some : 0 < c.held.result = omega arith in
    finds_kept c.hand_out.result c.args.self.now c.hand_out.new.self before left (g.S.Source.left c.fill.new.input) c.in-End.ensures.end.1
    (finds_last c.hand_out.result c.args.self.now now c.hand_out.new.self before left c.held.result keeps at c.in-End.ensures.text none
    c.in-End.ensures.end.0 c.held.ensures some c.hand_out.ensures)

pub returns-in-Failed-clause-found : goal.returns-in-Failed-clause-found
returns-in-Failed-clause-found g c = search rules

pub returns-in-0-clause-found : goal.returns-in-0-clause-found
returns-in-0-clause-found g c = grind (arith, common_steps)
