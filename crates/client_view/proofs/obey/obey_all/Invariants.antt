use Rattle.std.proofs.Common.{take, drop}
use Rattle.order_means.specs.FrameMarks.{View}
use Rattle.order_read.specs.Told.{told_reads}
use Rattle.client_view.specs.Told.{view_after_all_told}
use Rattle.client_view.specs.Views.{StandsFor, SameViewer}
use Rattle.client_view.proofs.Obeyed.{LeftTold}
use Rattle.client_view.proofs.obey.obey_all.Given as goal

-- what is left comes to what all came to, and what was obeyed to a view
abbrev pub invariant-loop-read : goal.invariant-loop-read
invariant-loop-read l = record {
  left : (v : View) → StandsFor v l.fn.viewer → LeftTold l.fn.viewer.confirmed l.fn.viewer.pictures.size v (view_after_all_told l.fn.viewer.confirmed l.fn.viewer.pictures.size v (told_reads l.body l.reads)) (told_reads l.body (take l.read-index l.reads)) (told_reads l.body (drop l.read-index l.reads)) l.viewer;
  same : SameViewer l.fn.viewer l.viewer;
}
