use Rattle.std.proofs.Common.{arith}
use Rattle.surface_parts.proofs.Dots.{pixel_fits, pixel_drawn}
use Rattle.surface_parts.proofs.line.draw_pixel.Goals as goal

pub bounds-pixels-at : goal.bounds-pixels-at
bounds-pixels-at c = pixel_fits c.args.size c.args.part c.args.x c.args.y c.args.color c.args.pixels.now c.requires.canvas.sized c.requires.inside (omega arith) (omega arith) (omega arith) (omega arith)

pub returns-then-y-top : goal.returns-then-y-top
returns-then-y-top c = pixel_drawn c.args.size c.args.part c.args.x c.args.y c.args.color c.args.pixels.now c.requires.canvas.sized c.requires.inside (omega arith) (omega arith) (omega arith) (omega arith)
