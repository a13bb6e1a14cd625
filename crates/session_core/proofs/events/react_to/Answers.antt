use Rattle.std.proofs.Common.{◌∙◌, length, ap, sym, subst, arith}
use Rattle.draw_ops.specs.Fits.{AllFitState}
use Rattle.board_app.specs.Boards.{board_of}
use Rattle.session_rules.specs.Board.{board_reaction}
use Rattle.session_rules.proofs.Fitting.{sides_of}
use Rattle.session_rules.proofs.BoardReactions.{board_reacts}
use Rattle.session_rules.proofs.Few.{few}
use Rattle.session_core.proofs.events.react_to.Goals as goal

pub shown_all-requires-clause-fit : goal.shown_all-requires-clause-fit
shown_all-requires-clause-fit c =
    let size = c.args.standing.now.surface.size in
    let st = c.args.standing.now.surface.state in
    let b = board_of c.args.standing.now.board in
    let is = c.deref.ensures.value ∙ c.in_ok-drawings.ensures.drawings ∙ ap (λ z. (board_reaction z b c.args.e).drawings) c.requires.same in
    subst (AllFitState size st) (sym is) (board_reacts size st b c.args.e (sides_of size.w size.h c.requires.size) c.requires.agrees).0

pub shown_all-requires-clause-few : goal.shown_all-requires-clause-few
shown_all-requires-clause-few c =
    let size = c.args.standing.now.surface.size in
    let b = board_of c.args.standing.now.board in
    let is = c.deref.ensures.value ∙ c.in_ok-drawings.ensures.drawings ∙ ap (λ z. (board_reaction z b c.args.e).drawings) c.requires.same in
    omega (arith, c.requires.few, few size b c.args.e, ap length is)
