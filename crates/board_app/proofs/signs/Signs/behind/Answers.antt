use Rattle.std.proofs.Common.{arith}
use Rattle.board_app.proofs.KindsLemmas.{room, front, one_more}
use Rattle.board_app.proofs.signs.Signs.behind.Goals as goal

pub overflow_sub-first : goal.overflow_sub-first
overflow_sub-first c = omega (arith, room c.args.self.now.codes c.args.self.now.first c.args.code (omega arith) c.requires.sign c.args.self.now.kept c.requires.other)

pub invariant_of-result : goal.invariant_of-result
invariant_of-result c =
    let some = room c.args.self.now.codes c.args.self.now.first c.args.code (omega arith) c.requires.sign c.args.self.now.kept c.requires.other in
    record { kept = one_more c.args.self.now.codes c.args.self.now.first c.args.code (omega arith) c.requires.sign some c.args.self.now.kept c.requires.other }

pub returns : goal.returns
returns c =
    let some = room c.args.self.now.codes c.args.self.now.first c.args.code (omega arith) c.requires.sign c.args.self.now.kept c.requires.other in
    front c.args.self.now.codes c.args.self.now.first c.args.code (omega arith) some c.args.self.now.kept.inside
