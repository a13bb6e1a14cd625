use Rattle.std.proofs.Common.{◌≡◌, drop}
use Rattle.session_rules.specs.Board.{is_member}
use Rattle.board_app.proofs.signs.Signs.has.Given as goal

-- the code is none of those that were passed
abbrev pub invariant-loop-i : goal.invariant-loop-i
invariant-loop-i l = is_member l.code (drop l.i l.self.codes) ≡ is_member l.code (drop l.self.first l.self.codes)
