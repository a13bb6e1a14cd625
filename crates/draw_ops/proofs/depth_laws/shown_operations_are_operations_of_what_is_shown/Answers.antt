use Rattle.std.proofs.Common.{refl}
use Rattle.draw_ops.proofs.ShownRaster.{shown_raster, operation}
use Rattle.draw_ops.proofs.depth_laws.shown_operations_are_operations_of_what_is_shown.Goals as goal

pub returns : goal.returns
returns c = record { shown = shown_raster; seen = λ d code p s o. operation d code p s o refl refl }
