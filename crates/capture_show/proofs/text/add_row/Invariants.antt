use Rattle.std.proofs.Common.{◌≡◌, ◌++◌, None}
use Rattle.px_core.specs.Picture.{pixel_at}
use Rattle.client_view.specs.Widened.{widened_picture}
use Rattle.capture_show.specs.Shown.{row_text}
use Rattle.capture_show.proofs.text.add_row.Given as goal

abbrev pub invariant-loop-x : goal.invariant-loop-x
invariant-loop-x l = record {
  written : l.out.items ≡ l.fn.out.items ++ row_text (λ u. pixel_at l.client.viewer.pictures.size (widened_picture l.client.viewer.pictures.depth l.client.viewer.pictures.marked) None u l.y) l.x;
}
