use Rattle.std.proofs.Common.{◌≡◌, ℕ, false, ap, sym, subst, ◌∙◌}
use Rattle.std.specs.Prelude.{IfOk, Result}
use Rattle.px_core.specs.declared.surface.Size.{Size}
use Rattle.input_pdu.specs.declared.event.Event.{Event}
use Rattle.input_pdu.specs.declared.event.Event.TheVariants.{Unicode}
use Rattle.session_rules.specs.Board.{Board, board_reaction}
use Rattle.board_app.specs.declared.reaction.Reacted.{Reacted}
use Rattle.board_app.specs.Boards.{board_of, Makes}
use Rattle.board_app.proofs.board.Board.reaction.Goals as goal

by_code : {E : Type 0} (result : Result Reacted E) (size : Size) (b : Board) (e : Event) (code value : ℕ) → e ≡ Unicode code false → code ≡ value
    → IfOk result (λ r. Makes size r (board_reaction size b (Unicode value false))) → IfOk result (λ r. Makes size r (board_reaction size b e))
by_code result size b e code value is same h =
    subst (λ e. IfOk result (λ r. Makes size r (board_reaction size b e))) (sym (is ∙ ap (λ k. Unicode k false) same)) h

pub returns-in-Unicode-default-false : goal.returns-in-Unicode-default-false
returns-in-Unicode-default-false c =
    let arm = c.in-Unicode-default-false in
    let same : c.args.e ≡ Unicode arm.code false = cc (arm.is, arm.up-is, arm.up-test) in
    by_code c.sign.result c.args.self.now.size (board_of c.args.self.now) c.args.e arm.code _ same (sym arm.code-is) c.sign.ensures
