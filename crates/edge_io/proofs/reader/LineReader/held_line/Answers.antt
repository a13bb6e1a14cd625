use Rattle.std.proofs.Common.{◌<◌, length, ap, arith}
use Rattle.edge_io.specs.Reading.{ahead}
use Rattle.edge_io.proofs.FindLemmas.{finds_ended, finds_long}
use Rattle.edge_io.proofs.FindLemmas.{ahead_kept}
use Rattle.edge_io.proofs.reader.LineReader.held_line.Goals as goal

pub returns-in-Some-clause-found : goal.returns-in-Some-clause-found
returns-in-Some-clause-found c = λ left.
    let old = c.args.self.now in
    let now = c.forget_text.new.self in
    finds_ended c.hand_out.result old now c.hand_out.new.self (ahead old left) left c.in-Some.count (ahead_kept old now left (ap (λ r. r.held) c.forget_text.ensures))
    (ap (λ r. r.at) c.forget_text.ensures) (ap (λ r. r.text) c.forget_text.ensures) c.in-Some.ensures c.hand_out.ensures

pub returns-then-held-gt-LINE_LIMIT-clause-found : goal.returns-then-held-gt-LINE_LIMIT-clause-found
returns-then-held-gt-LINE_LIMIT-clause-found c = λ left.
    let old = c.args.self.now in
    let now = c.forget_text.new.self in
    let long : 32768 < length now.held = omega (arith, c.held.ensures, c.if-held-gt-LINE_LIMIT.true) in
    finds_long old now (ahead old left) left (ahead_kept old now left (ap (λ r. r.held) c.forget_text.ensures))
    (ap (λ r. r.at) c.forget_text.ensures) (ap (λ r. r.text) c.forget_text.ensures) c.in_default.ensures long
