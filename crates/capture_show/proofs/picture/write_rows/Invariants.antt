use Rattle.std.proofs.Common.{◌≡◌, None}
use Rattle.std.specs.Io.KnownBytes.{Appends}
use Rattle.px_core.specs.Picture.{pixel_at}
use Rattle.client_view.specs.Widened.{widened_picture}
use Rattle.capture_show.specs.Shown.{rows_text}
use Rattle.capture_show.proofs.picture.write_rows.Given as goal

abbrev pub invariant-loop-y : goal.invariant-loop-y
invariant-loop-y g l = record {
  written : Appends (g.K.Sink.told l.fn.output) (g.K.Sink.told l.output) (rows_text l.client.viewer.pictures.size.w
      (λ u v. pixel_at l.client.viewer.pictures.size (widened_picture l.client.viewer.pictures.depth l.client.viewer.pictures.marked) None u v) l.y);
  faults : g.K.Sink.faults l.output ≡ g.K.Sink.faults l.fn.output;
}
