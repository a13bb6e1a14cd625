use Rattle.std.proofs.Common.{◌≡◌, ℕ, ◌*◌, List, take, drop, sym, ap, ◌∙◌}
use Rattle.px_core.specs.Picture.{front, skipped}
use Rattle.px_core.proofs.Pictures.{front-take, skipped-drop}
use Rattle.draw_ops.specs.Drawing.{drawn_picture}
use Rattle.draw_ops.proofs.Rows.{row_is, list_is, rows_are, join_is}
use Rattle.draw_ops.proofs.laws.drawn_rows_are_the_picture.Goals as goal

cut : (w n : ℕ) (ps : List ℕ) → front w (skipped n ps) ≡ take w (drop n ps)
cut w n ps = front-take w (skipped n ps) ∙ ap (take w) (skipped-drop n ps)

pub returns : goal.returns
returns c = record {
  row = λ size st d y e above. sym (cut size.w (size.w * y) (drawn_picture size st d)) ∙ row_is size st d y e above;
  joined = join_is;
  list = λ size st d ps e f same. list_is size st d ps e f (λ y above. cut size.w (size.w * y) ps ∙ same y above);
  rows = rows_are;
}
