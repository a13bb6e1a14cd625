use Rattle.std.proofs.Common.{◌≡◌, ◌≤◌, ◌<◌, ◌∙◌, length, Some, ap, sym, arith}
use Rattle.session_rules.specs.Steps.{row_role}
use Rattle.session_core.specs.Members.{viewers_of}
use Rattle.session_core.specs.Standing.{reached_of}
use Rattle.session_core.proofs.Sessions.{length_viewers}
use Rattle.session_core.proofs.JoinAnswers.{room_full, joins_spent}
use Rattle.session_core.proofs.joining.let_in.Goals as goal

pub returns-then-list-ge-MOST_VIEWERS : goal.returns-then-list-ge-MOST_VIEWERS
returns-then-list-ge-MOST_VIEWERS c n =
    let named : row_role c.args.name.now c.args.head.now.rows ≡ Some c.in-Some.role = sym c.role_of.ensures ∙ c.in-Some.is in
    let full : 16 ≤ length (viewers_of c.args.standing.now.members) = omega (arith, c.if-list-ge-MOST_VIEWERS.true, length_viewers c.args.standing.now.members, ap length c.list.ensures) in
    let k = room_full c.args.head.now (reached_of c.args.standing.now n) c.args.name.now c.in-Some.role named c.requires full in
    (ap Some (sym k.answer_is), k.entry_is)

pub returns-then-standing-ge-MOST_JOINS : goal.returns-then-standing-ge-MOST_JOINS
returns-then-standing-ge-MOST_JOINS c n =
    let named : row_role c.args.name.now c.args.head.now.rows ≡ Some c.in-Some.role = sym c.role_of.ensures ∙ c.in-Some.is in
    let room : length (viewers_of c.args.standing.now.members) < 16 = omega (arith, c.if-list-ge-MOST_VIEWERS.false, length_viewers c.args.standing.now.members, ap length c.list.ensures) in
    let k = joins_spent c.args.head.now (reached_of c.args.standing.now n) c.args.name.now c.in-Some.role named c.requires room c.if-standing-ge-MOST_JOINS.true in
    (ap Some (sym k.answer_is), k.entry_is)
